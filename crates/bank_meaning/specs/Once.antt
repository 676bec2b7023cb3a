-- That what bears a slip acts once: a list of requests with repeats leaves, slips aside, what the requests that are not taken out leave in a bank that knows no slips.
use Rattle.std.specs.Prelude.{ℕ, ◌≡◌, ◌||◌, Bool, false, is_some, List, [], ◌∷◌, map, Result, if◌then◌else◌}
use Rattle.bank_terms.specs.declared.rule.Rule.{Rule}
use Rattle.bank_books.specs.SlipRow.{SlipRow}
use Rattle.bank_books.specs.WorldLists.{WorldLists}
use Rattle.bank_meaning.specs.Meaning.{ReplyText}
use Rattle.bank_meaning.specs.Run.{Marked, accepted, after_request, reply, world_after}
use Rattle.bank_meaning.specs.Slips.{has_no_room, slip_grounds}
use Rattle.bank_meaning.specs.declared.execution.Execution.{Execution}
use Rattle.bank_meaning.specs.declared.request.Asked.{Asked}
use Rattle.bank_meaning.specs.declared.request.Asked.TheVariants as asked
use Rattle.bank_meaning.specs.declared.request.Request.{Request}
use Rattle.bank_meaning.specs.declared.who.Who.{Who}

-- ---- a bank that knows no slips

-- a World with other slips, and with none
abbrev pub with_slips : List SlipRow → WorldLists → WorldLists
with_slips slips w = record w { slips = slips }

abbrev pub without_slips : WorldLists → WorldLists
without_slips w = with_slips [] w

-- a request without its slip
abbrev pub without_slip : Request → Request
without_slip q = record q { who = record q.who { slip = 0 } }

abbrev pub marked_without_slip : Marked → Marked
marked_without_slip m = record m { request = without_slip m.request }

-- ---- the list without repeats

-- Its user has the slip that it bears, or has 100,000 and bears a new one.
abbrev pub is_out : WorldLists → Execution → Bool
is_out w x = is_some (slip_grounds w x).found || has_no_room (slip_grounds w x)

abbrev pub asked_out : Asked → Who → ℕ → WorldLists → Bool
asked_out (asked.Operation op) who moment w = is_out w (record { who = who; moment = moment; op = op })
asked_out asked.Opening who moment w = false
asked_out asked.Ending who moment w = false
asked_out (asked.Command command) who moment w = false
asked_out asked.Listing who moment w = false

abbrev pub is_taken_out : WorldLists → Request → Bool
is_taken_out w q = asked_out q.asked q.who q.moment w

-- Walking from a World, each request is taken out whose user has its slip, in that World or from an earlier accepted request, or has no room for it.
abbrev pub once : WorldLists → List Marked → List Marked
once w [] = []
once w (m ∷ ms) = if is_taken_out w m.request then once (after_request w m) ms else m ∷ once (after_request w m) ms

-- what is replied to each of a list, and to those of them that stay
abbrev pub replies : WorldLists → List Marked → List (Result ReplyText Rule)
replies w [] = []
replies w (m ∷ ms) = reply w m.request ∷ replies (after_request w m) ms

abbrev pub once_replies : WorldLists → List Marked → List (Result ReplyText Rule)
once_replies w [] = []
once_replies w (m ∷ ms) = if is_taken_out w m.request then once_replies (after_request w m) ms else reply w m.request ∷ once_replies (after_request w m) ms

-- ---- the law

-- In a bank that knows no slips, those that stay, without theirs, leave what the list leaves, slips aside; they get the replies that they get in the list; and they
-- are accepted where they are in the list, in which no other is.
pub record ActsOnce (w : WorldLists) (ms : List Marked) : Type 0 where
  pub world : without_slips (world_after w ms) ≡ world_after (without_slips w) (map marked_without_slip (once w ms))
  pub replies : once_replies w ms ≡ replies (without_slips w) (map marked_without_slip (once w ms))
  pub accepted : map without_slip (accepted w ms) ≡ accepted (without_slips w) (map marked_without_slip (once w ms))

-- of every World whatever, and of every list of requests with any marks
abbrev pub EachActsOnce : Type 0
EachActsOnce = (w : WorldLists) (ms : List Marked) → ActsOnce w ms
