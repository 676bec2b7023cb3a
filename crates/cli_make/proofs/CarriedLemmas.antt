-- What carrying over gives over an image of a bank.
use Rattle.std.proofs.Common.{◌≡◌, ◌≢◌, sym, subst}
use Rattle.sqlite_disk.specs.declared.Disk.{Ghosts}
use Rattle.sqlite_disk.specs.declared.Files.{Files}
use Rattle.sqlite.specs.declared.FileStore.{FileStore}
use Rattle.sqlite.specs.Files.{file_state}
use Rattle.sqlite.specs.Held.{Held}
use Rattle.sqlite.specs.State.{HasCleanDisk, Survives}
use Rattle.sqlite.specs.Tree.{Trees}
use Rattle.sqlite_wal.specs.Recovery.{Image}
use Rattle.bank_books.specs.WorldLists.{WorldLists}
use Rattle.bank_meaning.specs.Sums.{PassesChecks}
use Rattle.book_kept.specs.Sheets.{Sheets, sheets_of}
use Rattle.sql_schema.specs.Held.{AreOfWorld, HoldsBank, HoldsSheetsIn}
use Rattle.sql_schema.specs.Readable.{AreReadable}
use Rattle.sql_schema.specs.Schema.{newest}
use Rattle.sql_schema.specs.declared.edition.Edition.{Edition}
use Rattle.sql_schema.proofs.StepLemmas.{early}
use Rattle.sql_adopt.specs.Adopted.{IsBankFileIn, IsLeft}
use Rattle.sql_adopt.specs.Older.{IsNewestFile, IsOlderFile}
use Rattle.sql_adopt.specs.Refused.{HoldsSoundBankIn, IsNamedBy, IsOfOther, IsOfStore}
use Rattle.sql_adopt.specs.declared.adopt_fault.AdoptFault.{AdoptFault}
use Rattle.sql_adopt.proofs.FileLemmas.{newest_bank_is_file, older_bank_is_file}
use Rattle.sql_upgrade.specs.Carried.{Carries}
use Rattle.cli_file.specs.Files.{BankStore, IsBankKept, IsBankOfOther, IsBankRefused, IsClosed}
use Rattle.cli_file.specs.Opened.{HoldTheBank, IsBankImage, IsBankImageIn, IsOpenedFrom}
use Rattle.cli_file.proofs.OpenedLemmas.{holds_still, opens_in, passes, was}
use Rattle.cli_make.specs.Carrying.{IsCarried}

pub carried_bank : {D : Type 0} {g : Ghosts D} (opened now : Held (FileStore D g)) (Commits : Trees → Type 0)
    → (HasCleanDisk (file_state now) → (e : Edition) → IsOlderFile e (file_state opened) → Carries e (file_state opened) (file_state now)) → Survives (file_state opened) (file_state now) Commits
    → (e : Edition) (image : Image) (w : WorldLists) → e ≢ newest → IsBankImageIn e image w → IsOpenedFrom image opened → HasCleanDisk (file_state now) → IsBankKept w now
carried_bank opened now Commits carries survives e image w older held from clean =
    let bank = opens_in opened e image w held from (early (file_state opened) (file_state now) Commits survives clean) in
    let a = carries clean e (older_bank_is_file e (file_state opened) w older bank) in
    let same : a.world ≡ w = sym (a.found.only w bank.now) in
    record {
      checked = subst PassesChecks same (passes a.world a.found.held.world.keepable a.found.books a.found.policy);
      holds = λ is_open. subst (HoldsBank (file_state now)) same a.holds;
      durable = λ trees may. subst (λ (z : WorldLists). AreOfWorld z trees) same (a.durable trees may);
      alone = λ left may. subst (λ (z : WorldLists). left ≡ z) same (a.alone left may);
    }

pub not_carried : {D : Type 0} {g : Ghosts D} (opened left : Held (FileStore D g)) (why : AdoptFault) (Commits : Trees → Type 0)
    → (HasCleanDisk (file_state left) → (e : Edition) → IsOlderFile e (file_state opened) → HoldsSoundBankIn e (file_state opened).now → IsOfStore why)
    → (HasCleanDisk (file_state left) → (e : Edition) → IsOlderFile e (file_state opened) → (s : Sheets) → HoldsSheetsIn e (file_state opened).now.trees s → AreReadable s → IsNamedBy s why)
    → (HasCleanDisk (file_state left) → (e : Edition) → IsBankFileIn e (file_state opened) → IsLeft (file_state opened) (file_state left)) → Survives (file_state opened) (file_state left) Commits
    → (e : Edition) (image : Image) (w : WorldLists) → e ≢ newest → IsBankImageIn e image w → IsOpenedFrom image opened → HasCleanDisk (file_state left) → IsBankRefused e w why left
not_carried opened left why Commits sound named unchanged survives e image w older held from clean =
    let bank = was opened left Commits survives unchanged e image w held from clean in
    let file = older_bank_is_file e (file_state opened) w older bank in
    record {
      holds = holds_still opened left Commits survives unchanged e image w held from clean file.file;
      named = λ readable. named clean e file (sheets_of w) bank.now.world.rows readable;
      sound = λ readable checks. sound clean e file (record { world = w; held = bank.now; readable = readable; books = checks.books; policy = (checks.sound, checks.separated) });
    }

pub not_carried_newest : {D : Type 0} {g : Ghosts D} (opened left : Held (FileStore D g)) (why : AdoptFault) (Commits : Trees → Type 0)
    → (HasCleanDisk (file_state left) → IsNewestFile (file_state opened) → IsOfOther why)
    → (HasCleanDisk (file_state left) → (e : Edition) → IsBankFileIn e (file_state opened) → IsLeft (file_state opened) (file_state left)) → Survives (file_state opened) (file_state left) Commits
    → (image : Image) (w : WorldLists) → IsBankImage image w → IsOpenedFrom image opened → HasCleanDisk (file_state left) → IsBankOfOther newest w why left
not_carried_newest opened left why Commits other unchanged survives image w held from clean =
    let bank = was opened left Commits survives unchanged newest image w held from clean in
    let file = newest_bank_is_file (file_state opened) w (record { now = bank.now; settled = bank.settled }) in
    record {
      holds = holds_still opened left Commits survives unchanged newest image w held from clean file.file;
      other = other clean file;
    }

pub carried_closed : {D : Type 0} (g : Ghosts D) (opened : Held (FileStore D g)) (store : BankStore D g) (files : Files D) → IsCarried opened store → IsClosed g store files
    → (e : Edition) (image : Image) (w : WorldLists) → e ≢ newest → IsBankImageIn e image w → IsOpenedFrom image opened → HoldTheBank g files w
carried_closed g opened store files carried closed e image w older held from =
    closed.bank w (λ clean is_open. (carried.bank e image w older held from clean).holds is_open, λ clean. carried.begins.known w)
