-- From what a crash leaves of a bank in a file to the image with which the next day begins.
use Rattle.std.specs.Prelude.{ℕ, List, Option, IsTrue, ⊤}
use Rattle.sqlite_disk.specs.declared.Disk.{Ghosts}
use Rattle.sqlite_store.specs.FileStore.{state, view}
use Rattle.sqlite_trees.specs.View.{IsClean}
use Rattle.sqlite_wal.specs.Recovery.{Image}
use Rattle.sqlite.specs.declared.FileStore.{FileStore}
use Rattle.sqlite.specs.Files.{file_state}
use Rattle.sqlite.specs.Held.{Held}
use Rattle.sqlite.specs.State.{HasCleanDisk}
use Rattle.bank_books.specs.WorldLists.{WorldLists}
use Rattle.bank_meaning.specs.Run.{Marked}
use Rattle.bank_meaning.specs.Sums.{PassesChecks}
use Rattle.store_rows.specs.Status.{Status}
use Rattle.counter_api.specs.Run.{MarkedMessage, requests_of}
use Rattle.cli_file.specs.BankDay.{IsBankDay}
use Rattle.cli_file.specs.Crash.{ActsOnceOverCrash, IsLeftByCrash}
use Rattle.cli_file.specs.Files.{BankStore, LeavesOnly, file_status}
use Rattle.cli_file.specs.Laws.{IsBankOf}
use Rattle.cli_file.specs.Moments.{IsLeftWithin, IsUnderWay}
use Rattle.cli_file.specs.Opened.{IsBankImage, IsOpenedFrom}

-- The image holds the bank of a World of which this is said, and opens as that bank.
pub record BeginsWith {D : Type 0} {g : Ghosts D} (image : Image) (next : Held (FileStore D g)) (P : WorldLists → Type 0) : Type 0 where
  pub world : WorldLists
  pub said : P world
  pub bank : IsBankImage image world
  pub opens : IsOpenedFrom image next → HasCleanDisk (file_state next) → IsBankOf world next

module _ {C : Type 0} {f : Ghosts C} where
  -- the number of each table is that of its row in the schema, as the toolchain's own law on crashes asks
  abbrev pub IsNumbered : FileStore C f → Type 0
  IsNumbered left = IsTrue (view left).is_numbered

  -- with whatever image of file and log a crash may leave at this moment the next day begins so
  abbrev pub LeavesImages : {D : Type 0} {g : Ghosts D} → FileStore C f → Held (FileStore D g) → (WorldLists → Type 0) → Type 0
  LeavesImages left next P = (image : Image) → (state left).may_leave image → ∥ BeginsWith image next P ∥₁

-- The World with which the next day begins is one that a crash may leave. Its disk may be of another kind.
pub record OpensAfterCrash {C D : Type 0} (f : Ghosts C) {g : Ghosts D} (next : Held (FileStore D g)) : Type 0 where
  -- at any moment
  pub worlds : (store : BankStore C f) → IsNumbered store.conn.store → (file_status store).leaves_a_world → LeavesImages store.conn.store next (file_status store).may_leave
  -- So of a day, whatever is said of its replies, the next begins as `leaves` and `sent_again` say,
  pub day : (users : List ℕ → Option ℕ) (w : WorldLists) (ms : List MarkedMessage) (ended : BankStore C f) → IsNumbered ended.conn.store → IsBankDay users w ms (λ v. ⊤) (file_status ended)
      → LeavesImages ended.conn.store next (λ left. IsLeftByCrash w (requests_of users ms) left × ActsOnceOverCrash w (requests_of users ms) left)
  -- while a message is under way, too,
  pub under_way : (users : List ℕ → Option ℕ) (w : WorldLists) (over more : List MarkedMessage) (store : BankStore C f) → IsNumbered store.conn.store → IsUnderWay users w over more (file_status store)
      → LeavesImages store.conn.store next (λ left. IsLeftWithin w (requests_of users over) (requests_of users more) left × ActsOnceOverCrash w (requests_of users over) left)
  -- and where the file could not be closed.
  pub unclosed : (w : WorldLists) (requests : List Marked) (rest : FileStore C f) → IsNumbered rest → IsClean (view rest) → LeavesOnly rest (IsLeftByCrash w requests)
      → LeavesImages rest next (IsLeftByCrash w requests)

-- What a crash leaves of a store passes both checks: its sums agree, and its policy is sound and separated.
pub record PassesOverCrash {S : Type 0} (status : S → Status) : Type 0 where
  -- at the end of a day, whatever is said of its replies, and where the file could not be closed, too,
  pub after : (users : List ℕ → Option ℕ) (w : WorldLists) (ms : List MarkedMessage) (ended : S) → IsBankDay users w ms (λ v. ⊤) (status ended)
      → (left : WorldLists) → IsLeftByCrash w (requests_of users ms) left → PassesChecks left
  -- and while a message is under way
  pub within : (users : List ℕ → Option ℕ) (w : WorldLists) (over more : List MarkedMessage) (now next : S) → IsBankDay users w over (λ v. ⊤) (status now) → IsUnderWay users w over more (status next)
      → (left : WorldLists) → IsLeftWithin w (requests_of users over) (requests_of users more) left → PassesChecks left
