-- Whole requests one after another at both banks of one turn of a year, judged by all rules: operations, sessions,
-- commands and listings. Up to where a rule that begins anew denies one at one bank and not at the other, both answer
-- each alike, and are alike before it and after it. Of what is replied to one that bears a slip of the years before
-- nothing is said, since that slip holds a correction by another number; but it changes neither bank. For the same
-- reason nothing more is said from where a request names a release of the years before that is for a correction and
-- bears the present day.
use Rattle.std.specs.Prelude.{ℕ, ◌≡◌, ◌⊎◌, ⊤, List, [], ◌∷◌, Option, None, Some, Result}
use Rattle.std.specs.List.{AllByRecursion}
use Rattle.bank_terms.specs.declared.rule.Rule.{Rule}
use Rattle.bank_books.specs.Books.{Books}
use Rattle.bank_books.specs.Records.{slip_count}
use Rattle.bank_books.specs.SlipRow.{SlipRow}
use Rattle.bank_books.specs.WorldLists.{WorldLists}
use Rattle.bank_books.specs.declared.rows.Release.{Release}
use Rattle.counter_ops.specs.Rows.{row_of}
use Rattle.counter_ops.specs.declared.op.Op.{Op}
use Rattle.world_reads.specs.BookReads.{release, slip}
use Rattle.bank_meaning.specs.Meaning.{ReplyText, json}
use Rattle.bank_meaning.specs.Order.{AreBooksInOrder}
use Rattle.bank_meaning.specs.PolicyRules.{asker}
use Rattle.bank_meaning.specs.Requests.{first}
use Rattle.bank_meaning.specs.Run.{reply, step}
use Rattle.bank_meaning.specs.Slips.{slip_grounds}
use Rattle.bank_meaning.specs.declared.request.Asked.{Asked}
use Rattle.bank_meaning.specs.declared.request.Asked.TheVariants as asked
use Rattle.bank_meaning.specs.declared.request.Request.{Request}
use Rattle.bank_meaning.specs.declared.who.Who.{Who}
use Rattle.year_forward.specs.Closed.{IsClosed, present_day}
use Rattle.year_forward.specs.Forward.{forward}
use Rattle.year_laws.specs.GoesOn.{AreBoth, GoesOn, Turn, op_at_old, turn_of}
use Rattle.year_laws.specs.JudgedAlike.{NamesAnEntry}
use Rattle.year_laws.specs.RepliedAlike.{IsRepliedAlike}
use Rattle.year_laws.specs.RunAlike.{AreAnsweredAlike, PartThere}
use Rattle.year_laws.specs.StaysAlike.{IsForCorrection, StayAlike}

-- ---- one request

abbrev pub asked_at_old : Turn → Asked → Asked
asked_at_old t (asked.Operation x) = asked.Operation (op_at_old t x)
asked_at_old t other = other

-- a request of the next year, as it is asked for at the bank that goes on
abbrev pub request_at_old : Turn → Request → Request
request_at_old t q = record q { asked = asked_at_old t q.asked }

-- what is asked for, if it is a correction, names an entry
abbrev pub AsksOfAnEntry : Asked → Type 0
AsksOfAnEntry (asked.Operation x) = NamesAnEntry x
AsksOfAnEntry other = ⊤

-- The release that it names is one of the years before for a correction, the same row at both banks, and yet bears the
-- present day of its branch. A closed bank has none; only one that bears a day to come could be so later.
pub record NamesPastRelease (old new : WorldLists) (who : Who) : Type 0 where
  pub row : Release
  pub at_old : release old (asker who) who.release ≡ Some row
  pub at_new : release new (asker who) who.release ≡ Some row
  pub correction : IsForCorrection row
  pub today : present_day new row.branch ≡ Some row.day

abbrev pub slip_asked_with : Asked → Who → ℕ → WorldLists → Option SlipRow
slip_asked_with (asked.Operation x) who moment w = (slip_grounds w (record { who = who; moment = moment; op = x })).found
slip_asked_with other who moment w = None

-- the slip that a request bears, where its user has it
abbrev pub slip_found : WorldLists → Request → Option SlipRow
slip_found w q = slip_asked_with q.asked q.who q.moment w

-- It bears a slip of the years before, the same row at both banks, and changes neither.
pub record BearsPastSlip (t : Turn) (old new : WorldLists) (q : Request) : Type 0 where
  pub row : SlipRow
  pub at_old : slip_found old (request_at_old t q) ≡ Some row
  pub at_new : slip_found new q ≡ Some row
  pub old_stays : step old (request_at_old t q) ≡ old
  pub new_stays : step new q ≡ new

-- an operation by the same rule, or by replies that are alike, and all else by the same answer
abbrev pub IsAnsweredSo : Turn → Asked → Result ReplyText Rule → Result ReplyText Rule → Type 0
IsAnsweredSo t (asked.Operation x) old new = AreAnsweredAlike t x old new
IsAnsweredSo t other old new = old ≡ new

-- ---- the two banks

-- A slip that was taken in the next year, by the same operation at both, and with replies that are alike.
pub record IsSameSlip (t : Turn) (old new : SlipRow) : Type 0 where
  pub op : Op
  pub old_operation : old.operation ≡ row_of (op_at_old t op)
  pub new_operation : new.operation ≡ row_of op
  pub replies : IsRepliedAlike t op (json old.reply) (json new.reply)

-- Or else it is one of the years before.
abbrev pub IsSlipAlike : Turn → SlipRow → SlipRow → Type 0
IsSlipAlike t old new = IsSameSlip t old new ⊎ (old ≡ new)

-- The banks are alike, and have the same policy, and of each user as many slips, which are alike.
pub record ServeAlike (t : Turn) (old new : WorldLists) : Type 0 where
  pub books : StayAlike t old new
  pub policy : old.policy ≡ new.policy
  pub version : old.version ≡ new.version
  pub slips : (user number : ℕ) → AreBoth (IsSlipAlike t) (slip old user number) (slip new user number)
  pub slip_counts : (user : ℕ) → slip_count user old.slips ≡ slip_count user new.slips

-- ---- requests one after another

-- From this request on nothing more is said: a rule that begins anew denies it at one of the two alone, or it names
-- such a release.
abbrev pub PartAt : Turn → WorldLists → WorldLists → Request → Type 0
PartAt t old new q = PartThere (first old (request_at_old t q)) (first new q) ⊎ NamesPastRelease old new q.who

-- The banks are alike. They part at the first request, or they answer it alike unless it bears a slip of the years
-- before, and so on with the others after it.
abbrev pub RequestsAlike : Turn → WorldLists → WorldLists → List Request → Type 0
RequestsAlike t old new [] = GoesOn t old new
RequestsAlike t old new (q ∷ rest) =
    GoesOn t old new
    × (PartAt t old new q
    ⊎ ((BearsPastSlip t old new q ⊎ IsAnsweredSo t q.asked (reply old (request_at_old t q)) (reply new q)) × RequestsAlike t (step old (request_at_old t q)) (step new q) rest))

-- of any requests of two such banks
abbrev pub BanksServeAlike : Type 0
BanksServeAlike =
    (t : Turn) (old new : WorldLists) → ServeAlike t old new → (requests : List Request) → AllByRecursion (λ q. AsksOfAnEntry q.asked) requests → RequestsAlike t old new requests

-- ---- from the turn of a year

-- of any requests from the turn of any year that is closed
abbrev pub YearServesAlike : Type 0
YearServesAlike = (w : WorldLists) → Books w → AreBooksInOrder w → IsClosed w → (requests : List Request) → AllByRecursion (λ q. AsksOfAnEntry q.asked) requests → RequestsAlike (turn_of w) w (forward w) requests
