-- A stream served over the bank in an open file, from the file as it was opened to what is left of it.
use Rattle.std.specs.Prelude.{◌≡◌, ℕ, List, Option, Some, None, Result, Ok, Err}
use Rattle.sqlite_disk.specs.declared.Disk.{Ghosts}
use Rattle.sqlite_disk.specs.declared.Files.{Files}
use Rattle.sqlite.specs.declared.FileStore.{FileStore}
use Rattle.sqlite.specs.Held.{Held}
use Rattle.sqlite.specs.Files.{file_state}
use Rattle.sqlite.specs.State.{HasCleanDisk}
use Rattle.sqlite_wal.specs.Recovery.{Image}
use Rattle.bank_books.specs.WorldLists.{WorldLists}
use Rattle.bank_meaning.specs.Run.{world_after}
use Rattle.counter_api.specs.Run.{requests_of}
use Rattle.http_messages.specs.declared.serving.ServeFault.{ServeFault}
use Rattle.http_messages.specs.declared.serving.Served.{Served}
use Rattle.exit_lines.specs.Streams.{Streams}
use Rattle.counter_service.specs.Serving.{IsServedWithCache}
use Rattle.cli_file.specs.BankDay.{IsBankDay}
use Rattle.cli_file.specs.Crash.{IsLeftByCrash}
use Rattle.cli_file.specs.Opened.{HoldTheBank, IsBankImage, IsOpenedFrom}
use Rattle.cli_file.specs.Files.{BankStore, IsClosed, IsFound, IsNotClosed, IsNotFound, LeavesOnly, file_status}
use Rattle.cli_file.specs.declared.fault.ActionFault.{ActionFault}
use Rattle.cli_file.specs.declared.left.FileLeft.{FileLeft}
use Rattle.cli_file.specs.declared.left.FileLeft.TheVariants as left
use Rattle.cli_serve.specs.Faults.{fault_of_serving}
use Rattle.cli_serve.specs.Moments.{AreStreamMoments}
use Rattle.cli_serve.specs.Replied.{IsStreamReplied, messages_served}

-- a fault of serving is reported before one of closing
abbrev pub end_of : Result Served ServeFault → Option ActionFault → Result Unit ActionFault
end_of (Err fault) closing = Err (fault_of_serving fault)
end_of (Ok served) (Some fault) = Err fault
end_of (Ok served) None = Ok tt

module _ {D : Type 0} (g : Ghosts D) (users : List ℕ → Option ℕ) (opened : Held (FileStore D g)) (moment : ℕ) (old new : Streams) where
  -- The bank was found, and the stream was served over it, to the users whom badges name so, with one moment for every message.
  pub record IsServedOverFile (ended : BankStore D g) (result : Result Served ServeFault) : Type 0 where
    pub begun : BankStore D g
    pub found : IsFound opened begun
    pub served : IsServedWithCache file_status users begun moment old new ended result
    -- Over every image that holds the bank of a World, the stream is one day of that bank.
    pub day : (image : Image) (w : WorldLists) → IsBankImage image w → IsOpenedFrom image opened → HasCleanDisk (file_state ended.conn)
        → IsBankDay users w (messages_served file_status users begun moment old new ended result served)
        (IsStreamReplied file_status users begun moment old new ended result served) (file_status ended)
    -- And so are the first n messages, for each n: a crash at any moment leaves what it leaves after all messages that are over, or the World
    -- with the request of the one under way carried out. From state to state leads the next message.
    pub moments : (image : Image) (w : WorldLists) → IsBankImage image w → IsOpenedFrom image opened → HasCleanDisk (file_state ended.conn)
        → AreStreamMoments g users begun moment old new ended result served w

  -- It was closed after that: over every image of a bank, the file alone is the bank of the World after the day, also after a crash and where a
  -- fault of the disk stopped the store, and the next day begins with it.
  pub record IsServedAndClosed (files : Files D) (result : Result Unit ActionFault) : Type 0 where
    pub ended : BankStore D g
    pub exit : Result Served ServeFault
    pub over : IsServedOverFile ended exit
    pub closed : IsClosed g ended files
    pub bank : (image : Image) (w : WorldLists) → IsBankImage image w → IsOpenedFrom image opened
        → HoldTheBank g files (world_after w (requests_of users (messages_served file_status users over.begun moment old new ended exit over.served)))
    pub reported : result ≡ end_of exit None

  -- It could not be closed after that: file and log together are the bank of a World that a crash at the end of the day leaves.
  pub record IsServedAndUnclosed (rest : FileStore D g) (result : Result Unit ActionFault) : Type 0 where
    pub ended : BankStore D g
    pub exit : Result Served ServeFault
    pub stated : ActionFault
    pub over : IsServedOverFile ended exit
    pub unclosed : IsNotClosed ended stated rest
    pub bank : (image : Image) (w : WorldLists) → IsBankImage image w → IsOpenedFrom image opened
        → LeavesOnly rest (IsLeftByCrash w (requests_of users (messages_served file_status users over.begun moment old new ended exit over.served)))
    pub reported : result ≡ end_of exit (Some stated)

  -- It was served and closed; or it could not be closed; or no bank was found, and nothing was read or written on the stream.
  abbrev pub IsServedIn : FileLeft D g → Result Unit ActionFault → Type 0
  IsServedIn (left.Open conn) result = (stated : ActionFault) × IsNotFound opened stated conn × (new ≡ old) × (result ≡ Err stated)
  IsServedIn (left.Closed files) result = IsServedAndClosed files result
  IsServedIn (left.Unclosed rest) result = IsServedAndUnclosed rest result
