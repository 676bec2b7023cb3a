-- Connections served at once over the bank in an open file, from the file as it was opened to what is left of it.
use Rattle.std.specs.Prelude.{◌≡◌, ℕ, List, Option, Some, None, Result, Ok, Err}
use Rattle.sqlite_disk.specs.declared.Disk.{Ghosts}
use Rattle.sqlite_disk.specs.declared.Files.{Files}
use Rattle.sqlite.specs.declared.FileStore.{FileStore}
use Rattle.sqlite.specs.Held.{Held}
use Rattle.sqlite.specs.Files.{file_state}
use Rattle.sqlite.specs.State.{HasCleanDisk}
use Rattle.sqlite_wal.specs.Recovery.{Image}
use Rattle.bank_books.specs.WorldLists.{WorldLists}
use Rattle.bank_meaning.specs.Run.{world_after}
use Rattle.counter_api.specs.Run.{requests_of}
use Rattle.counter_places.specs.declared.place.Place.{Place}
use Rattle.exit_lines.specs.Streams.{Stream}
use Rattle.cli_file.specs.BankDay.{IsBankDay}
use Rattle.cli_file.specs.Crash.{IsLeftByCrash}
use Rattle.cli_file.specs.Opened.{HoldTheBank, IsBankImage, IsOpenedFrom}
use Rattle.cli_file.specs.Files.{BankStore, IsClosed, IsFound, IsNotClosed, IsNotFound, LeavesOnly, file_status}
use Rattle.cli_file.specs.declared.fault.ActionFault.{ActionFault}
use Rattle.cli_file.specs.declared.left.FileLeft.{FileLeft}
use Rattle.cli_file.specs.declared.left.FileLeft.TheVariants as left
use Rattle.cli_file.specs.declared.left.PathLeft.{PathLeft}
use Rattle.cli_file.specs.declared.left.PathLeft.TheVariants as path
use Rattle.cli_counter.specs.Attending.{AreReplied, IsAttendedWithCache, messages_taken}
use Rattle.cli_counter.specs.Moments.{AreMoments}
use Rattle.cli_counter.specs.Places.{Kind}
use Rattle.cli_counter.specs.declared.places.Visited.{Visited}

-- a fault of the connections is reported before one of closing
abbrev pub end_of_counter : Result Unit ActionFault → Option ActionFault → Result Unit ActionFault
end_of_counter (Err fault) closing = Err fault
end_of_counter (Ok done) (Some fault) = Err fault
end_of_counter (Ok done) None = Ok tt

module _ {D P E R T C : Type 0} (g : Ghosts D) (kind : Kind E R T) (users : List ℕ → Option ℕ) (may_give : C → ℕ → C → Type 0) (opened : Held (FileStore D g)) (places : P) (place : Place) (visits : PathLeft P (Visited E R T)) (output_old output_new : Stream) (from to : C) where
  -- The bank was found, and connections were served over it, to the users whom badges name so.
  pub record IsAttendedOverFile (ended : BankStore D g) (result : Result Unit ActionFault) : Type 0 where
    pub begun : BankStore D g
    pub found : IsFound opened begun
    pub attended : IsAttendedWithCache kind file_status users may_give places place visits output_old output_new
        (record { store = begun; clock = from }) (record { store = ended; clock = to }) result
    -- Over every image that holds the bank of a World, all connections are one day of that bank.
    pub day : (image : Image) (w : WorldLists) → IsBankImage image w → IsOpenedFrom image opened → HasCleanDisk (file_state ended.conn)
        → IsBankDay users w
        (messages_taken kind file_status users may_give places place visits output_old output_new (record { store = begun; clock = from }) (record { store = ended; clock = to }) result attended)
        (AreReplied kind file_status users may_give places place visits output_old output_new (record { store = begun; clock = from }) (record { store = ended; clock = to }) result attended)
        (file_status ended)
    -- And so are the first n turns, for each n: a crash at any moment leaves what it leaves after all turns that are over, or the World with the
    -- request of the turn under way carried out.
    pub moments : (image : Image) (w : WorldLists) → IsBankImage image w → IsOpenedFrom image opened → HasCleanDisk (file_state ended.conn)
        → AreMoments g kind users may_give places place visits output_old output_new (record { store = begun; clock = from }) (record { store = ended; clock = to }) result attended w

  -- It was closed after that: over every image of a bank, the file alone is the bank of the World after the day, also after a crash and where a
  -- fault of the disk stopped the store, and the next day begins with it.
  pub record IsAttendedAndClosed (files : Files D) (result : Result Unit ActionFault) : Type 0 where
    pub ended : BankStore D g
    pub exit : Result Unit ActionFault
    pub over : IsAttendedOverFile ended exit
    pub closed : IsClosed g ended files
    pub bank : (image : Image) (w : WorldLists) → IsBankImage image w → IsOpenedFrom image opened
        → HoldTheBank g files (world_after w (requests_of users (messages_taken kind file_status users may_give places place visits output_old output_new
        (record { store = over.begun; clock = from }) (record { store = ended; clock = to }) exit over.attended)))
    pub reported : result ≡ end_of_counter exit None

  -- It could not be closed after that: file and log together are the bank of a World that a crash at the end of the day leaves.
  pub record IsAttendedAndUnclosed (rest : FileStore D g) (result : Result Unit ActionFault) : Type 0 where
    pub ended : BankStore D g
    pub exit : Result Unit ActionFault
    pub stated : ActionFault
    pub over : IsAttendedOverFile ended exit
    pub unclosed : IsNotClosed ended stated rest
    pub bank : (image : Image) (w : WorldLists) → IsBankImage image w → IsOpenedFrom image opened
        → LeavesOnly rest (IsLeftByCrash w (requests_of users (messages_taken kind file_status users may_give places place visits output_old output_new
        (record { store = over.begun; clock = from }) (record { store = ended; clock = to }) exit over.attended)))
    pub reported : result ≡ end_of_counter exit (Some stated)

  -- It was served and closed; or it could not be closed; or no bank was found, no place was acquired, and nothing was written.
  abbrev pub IsAttendedIn : FileLeft D g → Result Unit ActionFault → Type 0
  IsAttendedIn (left.Open conn) result =
      (stated : ActionFault) × IsNotFound opened stated conn × (visits ≡ path.Unopened places) × (output_new ≡ output_old) × (to ≡ from) × (result ≡ Err stated)
  IsAttendedIn (left.Closed files) result = IsAttendedAndClosed files result
  IsAttendedIn (left.Unclosed rest) result = IsAttendedAndUnclosed rest result
