-- A port served over the bank in an open file, from the file as it was opened to what is left of it.
use Rattle.std.specs.Prelude.{◌≡◌, ℕ, List, Option, Some, None, Result, Ok, Err}
use Rattle.sqlite_disk.specs.declared.Disk.{Ghosts}
use Rattle.sqlite_disk.specs.declared.Files.{Files}
use Rattle.sqlite.specs.declared.FileStore.{FileStore}
use Rattle.sqlite.specs.Held.{Held}
use Rattle.sqlite.specs.Files.{file_state}
use Rattle.sqlite.specs.State.{HasCleanDisk}
use Rattle.sqlite_wal.specs.Recovery.{Image}
use Rattle.bank_books.specs.WorldLists.{WorldLists}
use Rattle.bank_meaning.specs.Run.{world_after}
use Rattle.counter_api.specs.Run.{requests_of}
use Rattle.counter_connections.specs.Port.{IsPortServedWithCache}
use Rattle.counter_connections.specs.declared.fault.PortFault.{PortFault}
use Rattle.counter_connections.specs.declared.listener.Failures.{Failures}
use Rattle.exit_lines.specs.Streams.{Stream}
use Rattle.cli_file.specs.BankDay.{IsBankDay}
use Rattle.cli_file.specs.Crash.{IsLeftByCrash}
use Rattle.cli_file.specs.Opened.{HoldTheBank, IsBankImage, IsOpenedFrom}
use Rattle.cli_file.specs.Files.{BankStore, IsClosed, IsFound, IsNotClosed, IsNotFound, LeavesOnly, file_status}
use Rattle.cli_file.specs.declared.fault.ActionFault.{ActionFault}
use Rattle.cli_file.specs.declared.left.FileLeft.{FileLeft}
use Rattle.cli_file.specs.declared.left.FileLeft.TheVariants as left
use Rattle.cli_serve.specs.Faults.{fault_of_port}
use Rattle.cli_serve.specs.Moments.{ArePortMoments}
use Rattle.cli_serve.specs.Replied.{AreListenedReplied, messages_listened}

-- a fault of the port is reported before one of closing
abbrev pub end_of_port : Result Unit PortFault → Option ActionFault → Result Unit ActionFault
end_of_port (Err fault) closing = Err (fault_of_port fault)
end_of_port (Ok done) (Some fault) = Err fault
end_of_port (Ok done) None = Ok tt

module _ {D C : Type 0} (g : Ghosts D) (users : List ℕ → Option ℕ) (may_give : C → ℕ → C → Type 0) (opened : Held (FileStore D g)) (port requests : ℕ) (output_old output_new : Stream) (from to : C) (failures : Option Failures) where
  -- The bank was found, and the port was served over it, to the users whom badges name so. Its listener counted these failures.
  pub record IsListenedOverFile (ended : BankStore D g) (result : Result Unit PortFault) : Type 0 where
    pub begun : BankStore D g
    pub found : IsFound opened begun
    pub served : IsPortServedWithCache file_status users may_give port requests output_old output_new
        (record { store = begun; clock = from }) (record { store = ended; clock = to }) failures result
    -- Over every image that holds the bank of a World, all connections are one day of that bank.
    pub day : (image : Image) (w : WorldLists) → IsBankImage image w → IsOpenedFrom image opened → HasCleanDisk (file_state ended.conn)
        → IsBankDay users w
        (messages_listened file_status users may_give port requests output_old output_new (record { store = begun; clock = from }) (record { store = ended; clock = to }) failures result served)
        (AreListenedReplied file_status users may_give port requests output_old output_new (record { store = begun; clock = from }) (record { store = ended; clock = to }) failures result served)
        (file_status ended)
    -- And so are the first n messages, for each n: a crash at any moment leaves what it leaves after all messages that are over, or the World
    -- with the request of the one under way carried out. From state to state leads the next message.
    pub moments : (image : Image) (w : WorldLists) → IsBankImage image w → IsOpenedFrom image opened → HasCleanDisk (file_state ended.conn)
        → ArePortMoments g users may_give port requests output_old output_new (record { store = begun; clock = from }) (record { store = ended; clock = to }) failures result served w

  -- It was closed after that: over every image of a bank, the file alone is the bank of the World after the day, also after a crash and where a
  -- fault of the disk stopped the store, and the next day begins with it.
  pub record IsListenedAndClosed (files : Files D) (result : Result Unit ActionFault) : Type 0 where
    pub ended : BankStore D g
    pub exit : Result Unit PortFault
    pub over : IsListenedOverFile ended exit
    pub closed : IsClosed g ended files
    pub bank : (image : Image) (w : WorldLists) → IsBankImage image w → IsOpenedFrom image opened
        → HoldTheBank g files (world_after w (requests_of users (messages_listened file_status users may_give port requests output_old output_new
        (record { store = over.begun; clock = from }) (record { store = ended; clock = to }) failures exit over.served)))
    pub reported : result ≡ end_of_port exit None

  -- It could not be closed after that: file and log together are the bank of a World that a crash at the end of the day leaves.
  pub record IsListenedAndUnclosed (rest : FileStore D g) (result : Result Unit ActionFault) : Type 0 where
    pub ended : BankStore D g
    pub exit : Result Unit PortFault
    pub stated : ActionFault
    pub over : IsListenedOverFile ended exit
    pub unclosed : IsNotClosed ended stated rest
    pub bank : (image : Image) (w : WorldLists) → IsBankImage image w → IsOpenedFrom image opened
        → LeavesOnly rest (IsLeftByCrash w (requests_of users (messages_listened file_status users may_give port requests output_old output_new
        (record { store = over.begun; clock = from }) (record { store = ended; clock = to }) failures exit over.served)))
    pub reported : result ≡ end_of_port exit (Some stated)

  -- It was served and closed; or it could not be closed; or no bank was found, and nothing was listened to or written.
  abbrev pub IsListenedIn : FileLeft D g → Result Unit ActionFault → Type 0
  IsListenedIn (left.Open conn) result =
      (stated : ActionFault) × IsNotFound opened stated conn × (output_new ≡ output_old) × (to ≡ from) × (failures ≡ None) × (result ≡ Err stated)
  IsListenedIn (left.Closed files) result = IsListenedAndClosed files result
  IsListenedIn (left.Unclosed rest) result = IsListenedAndUnclosed rest result
