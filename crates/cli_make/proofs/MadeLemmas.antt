-- The bank that was made, once its file is closed.
use Rattle.sqlite_disk.specs.declared.Disk.{Ghosts}
use Rattle.sqlite_disk.specs.declared.Files.{Files}
use Rattle.sqlite.specs.declared.FileStore.{FileStore}
use Rattle.sqlite.specs.Held.{Held}
use Rattle.bank_books.specs.WorldLists.{WorldLists}
use Rattle.cli_file.specs.Files.{BankStore, IsClosed}
use Rattle.cli_file.specs.Opened.{HoldTheBank}
use Rattle.cli_make.specs.Making.{IsMade}

pub made_bank : {D : Type 0} (g : Ghosts D) (opened : Held (FileStore D g)) (w : WorldLists) (store : BankStore D g) (files : Files D) → IsMade opened w store → IsClosed g store files → HoldTheBank g files w
made_bank g opened w store files made closed = closed.bank w (λ clean is_open. (made.kept clean).holds, λ clean. made.begins.known w)
