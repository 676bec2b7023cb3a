-- A file that was opened, by the image of what it and its log held.
use Rattle.std.specs.Prelude.{◌≡◌, ◌⊎◌, []}
use Rattle.sqlite_disk.specs.declared.Disk.{Ghosts}
use Rattle.sqlite_disk.specs.declared.Files.{Files}
use Rattle.sqlite_wal.specs.Files.{outcomes}
use Rattle.sqlite_wal.specs.Reads.{AreClean}
use Rattle.sqlite_wal.specs.Recovery.{Image}
use Rattle.sqlite.specs.declared.FileStore.{FileStore}
use Rattle.sqlite.specs.Files.{HoldsDatabase, IsOpened, file_state, image_of}
use Rattle.sqlite.specs.Held.{Held, IsNew}
use Rattle.sqlite.specs.Start.{FindsIn}
use Rattle.sqlite.specs.State.{HasCleanDisk}
use Rattle.sqlite.specs.Tree.{Trees}
use Rattle.bank_books.specs.WorldLists.{WorldLists}
use Rattle.sql_schema.specs.Held.{AreOfWorldIn}
use Rattle.sql_schema.specs.Schema.{newest}
use Rattle.sql_schema.specs.declared.edition.Edition.{Edition}

-- The connection is open over what the file and its log held, with nothing begun in it and no limit on its steps.
pub record IsOpenedFrom {D : Type 0} {g : Ghosts D} (image : Image) (conn : Held (FileStore D g)) : Type 0 where
  pub opens : HasCleanDisk (file_state conn) → IsOpened conn
  pub fresh : IsNew conn
  pub found : HasCleanDisk (file_state conn) → FindsIn image (file_state conn)

-- The file and its log hold the tables of a bank in this schema version, with the rows of this World.
pub record IsBankImageIn (e : Edition) (image : Image) (w : WorldLists) : Type 0 where
  pub trees : Trees
  pub held : ∥ HoldsDatabase image trees ∥₁
  pub of_world : AreOfWorldIn e w trees

abbrev pub IsBankImage : Image → WorldLists → Type 0
IsBankImage = IsBankImageIn newest

-- What may be found of a closed file and its log: what they hold, or what a crash leaves of them; or the file of either alone, with no log.
abbrev pub MayBeFound : {D : Type 0} → Ghosts D → Files D → Image → Type 0
MayBeFound g files image =
    (both : Image) × ((both ≡ image_of g files) ⊎ outcomes g files.log files.db both) × ((image ≡ both) ⊎ (image ≡ record both { log = [] }))

-- Whatever may be found of them holds the bank of this World: so the file alone is that bank.
abbrev pub HoldTheBank : {D : Type 0} → Ghosts D → Files D → WorldLists → Type 0
HoldTheBank g files w = AreClean g files.log files.db → (image : Image) → MayBeFound g files image → IsBankImage image w
