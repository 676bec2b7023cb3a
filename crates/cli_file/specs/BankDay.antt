-- What the messages of one stream, or of all connections, come to over a bank in a file: from the World that the file held to what a crash may
-- leave.
use Rattle.std.specs.Prelude.{ℕ, List, Option}
use Rattle.bank_books.specs.WorldLists.{WorldLists}
use Rattle.bank_meaning.specs.Headline.{IsHeadline}
use Rattle.bank_meaning.specs.Run.{world_after}
use Rattle.bank_meaning.specs.Sums.{PassesChecks}
use Rattle.store_rows.specs.Status.{Status}
use Rattle.counter_api.specs.Run.{AreInRange, MarkedMessage, requests_of}
use Rattle.cli_file.specs.Crash.{ActsOnceOverCrash, IsLeftByCrash}

-- One day of the bank in a file: of the World that the file held, of these messages, which are all that were answered but
-- those whose report broke, in their order, and of what is said of the bytes that went out. What it rests on beside proofs:
-- the disk returned what was written, up to the end of the day, and a crash leaves what the model of a disk says; the image
-- of the file and its log represents what is at the path; a badge is that of the user whom the list of badges names; and a
-- message bears a moment that the clock gave.
pub record IsBankDay (users : List ℕ → Option ℕ) (w : WorldLists) (ms : List MarkedMessage) (AreReplied : WorldLists → Type 0) (ended : Status) : Type 0 where
  -- The World that the file held passes both checks: its books hold, and its policy is sound and separated.
  pub checked : PassesChecks w
  -- The members, the moment and the slip of each request are in their ranges, of one too that a fault kept from being made.
  pub in_range : AreInRange (requests_of users ms)
  -- Each operation that repeats none is carried out exactly where all that the policy, the books and its slip ask for is
  -- held. A request that a rule denies changes nothing, and its reply names the first rule against it. No one executes
  -- what they certify. The sums agree after each request. The policy is the one in force by last word, of commands as long
  -- as there is a version left. What bears a slip acts once.
  pub headline : IsHeadline w (requests_of users ms)
  -- What went out on each connection (into its outbox, where connections are served at once) is the replies to its messages
  -- or a beginning of them, each in the World that the messages before it left.
  pub replied : AreReplied w
  -- At the end the file represents the World after all of them, also where a fault of the disk stopped the store,
  pub holds : ended.holds (world_after w (requests_of users ms))
  -- and a crash leaves that World; or that World and one request more, which a fault kept from being answered otherwise and since which none
  -- has changed the World. So nothing that was answered is undone.
  pub leaves : (left : WorldLists) → ended.may_leave left → IsLeftByCrash w (requests_of users ms) left
  -- What bears a slip acts once, also where it is sent again after a crash.
  pub sent_again : (left : WorldLists) → ended.may_leave left → ActsOnceOverCrash w (requests_of users ms) left
  -- Whatever a crash leaves is a World, and no part of one.
  pub whole : ended.leaves_a_world
