-- A bank that was adopted with its World, as its check finds it.
use Rattle.std.proofs.Common.{◌≡◌, sym, refl, false}
use Rattle.std.specs.Prelude.{None, Ok}
use Rattle.sqlite_disk.specs.declared.Disk.{Ghosts}
use Rattle.sqlite_wal.specs.Recovery.{Image}
use Rattle.sqlite.specs.declared.FileStore.{FileStore}
use Rattle.sqlite.specs.Files.{file_state}
use Rattle.sqlite.specs.Held.{Held}
use Rattle.sqlite.specs.State.{HasCleanDisk}
use Rattle.bank_books.specs.WorldLists.{WorldLists}
use Rattle.sql_schema.specs.Schema.{newest}
use Rattle.sql_schema.specs.Steps.{LeavesNone}
use Rattle.sql_schema.specs.declared.edition.Edition.{Edition}
use Rattle.sql_schema.proofs.StepLemmas.{early}
use Rattle.sql_adopt.specs.Adopted.{Adopts, Finds, IsBankFile, IsBankFileIn, IsLeft, IsOfAnother}
use Rattle.cli_file.specs.Checking.{IsCheckedIn}
use Rattle.cli_file.specs.Files.{BankStore}
use Rattle.cli_file.specs.Opened.{IsBankImage, IsOpenedFrom}
use Rattle.cli_file.proofs.OpenedLemmas.{found_bank, found_older, opens_as_its_bank}

module _ {D : Type 0} {g : Ghosts D} (opened left : Held (FileStore D g)) (survives : LeavesNone (file_state opened) (file_state left)) where
  pub checked : left.in_transaction ≡ false → (HasCleanDisk (file_state left) → IsBankFile (file_state opened) → Adopts (file_state opened) (file_state left))
      → (HasCleanDisk (file_state left) → (e : Edition) → IsBankFileIn e (file_state opened) → IsLeft (file_state opened) (file_state left))
      → (HasCleanDisk (file_state left) → IsOfAnother newest (file_state opened) → ⊥) → IsCheckedIn opened left (Ok tt)
  checked idle adopts same other =
      let store : BankStore D g = record { conn = left; known = record { account = None; other = None; teller = None; branch = None; slips = None }; is_stopped = false; faults = 0; failures = 0; idle = idle } in (
        store,
        record {
          adopts = adopts;
          unchanged = λ clean. same clean newest;
          other = other;
          survives = survives;
          begins = record { works = refl; no_fault = refl; no_failure = refl; known = λ w. record { account = tt; other = tt; teller = tt; branch = tt; slips = tt } };
          bank = found_bank opened left adopts survives;
          older = found_older opened left other survives;
        },
        refl,
      )

  pub world_is : (w : WorldLists) → (HasCleanDisk (file_state left) → IsBankFile (file_state opened) → Finds newest (file_state opened).now w)
      → (image : Image) (v : WorldLists) → IsBankImage image v → IsOpenedFrom image opened → HasCleanDisk (file_state left) → w ≡ v
  world_is w finds image v held from clean =
      let bank = opens_as_its_bank opened image v held from (early (file_state opened) (file_state left) _ survives clean) in
      sym ((finds clean bank.file).only v bank.holds.now)
