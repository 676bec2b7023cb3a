-- Operations one after another at both banks of one turn of a year, by the rules of the books alone: up to where a rule
-- that begins anew denies one at one bank and not at the other, both answer each alike, and are alike before it and
-- after it.
use Rattle.std.specs.Prelude.{◌≡◌, ◌≢◌, ◌⊎◌, true, List, [], ◌∷◌, Option, Some, Result, Ok, Err}
use Rattle.std.specs.List.{AllByRecursion}
use Rattle.bank_terms.specs.declared.rule.Rule.{Rule}
use Rattle.bank_books.specs.Books.{Books}
use Rattle.bank_books.specs.WorldLists.{WorldLists}
use Rattle.bank_books.specs.declared.signature.Signature.{Signature}
use Rattle.counter_ops.specs.declared.op.Op.{Op}
use Rattle.bank_meaning.specs.Meaning.{ReplyText, by_books}
use Rattle.bank_meaning.specs.Operations.{meaning_of}
use Rattle.bank_meaning.specs.Order.{AreBooksInOrder}
use Rattle.bank_meaning.specs.Run.{if_allowed, stated}
use Rattle.year_forward.specs.Closed.{IsClosed}
use Rattle.year_forward.specs.Forward.{forward}
use Rattle.year_laws.specs.GoesOn.{GoesOn, Turn, op_at_old, turn_of}
use Rattle.year_laws.specs.JudgedAlike.{NamesAnEntry, begins_anew}
use Rattle.year_laws.specs.RepliedAlike.{IsRepliedAlike}
use Rattle.year_laws.specs.StaysAlike.{StayAlike}

-- an operation, as it is asked for in the next year, and the signature of who asks for it
pub record SignedOp : Type 0 where
  pub op : Op
  pub by : Signature

-- ---- one operation at one bank

-- the first rule of the books that denies it, or none
abbrev pub denied_by : WorldLists → Op → Signature → Option Rule
denied_by w x by = (by_books (meaning_of x by w)).first

-- what it is answered: its reply, or that rule
abbrev pub answer : WorldLists → Op → Signature → Result ReplyText Rule
answer w x by = stated (denied_by w x by) (meaning_of x by w).reply

-- the World after it: its effect, or the World as it was
abbrev pub after : WorldLists → Op → Signature → WorldLists
after w x by = if_allowed (denied_by w x by) (meaning_of x by w).effect w

-- ---- one operation at both

-- by the same rule, or by replies that are alike
abbrev pub AreAnsweredAlike : Turn → Op → Result ReplyText Rule → Result ReplyText Rule → Type 0
AreAnsweredAlike t x (Ok old) (Ok new) = IsRepliedAlike t x old new
AreAnsweredAlike t x (Err rule) (Err other) = rule ≡ other
AreAnsweredAlike t x _ _ = ⊥

-- A rule that begins anew is the first that denies it at one of the two, and is not so at the other.
abbrev pub PartThere : Option Rule → Option Rule → Type 0
PartThere old new = (r : Rule) × ((begins_anew r ≡ true) × (((old ≡ Some r) × (new ≢ Some r)) ⊎ ((new ≡ Some r) × (old ≢ Some r))))

-- ---- operations one after another

-- The banks are alike. The first operation parts them, or both answer it alike, and so on with the others after it.
abbrev pub RunAlike : Turn → WorldLists → WorldLists → List SignedOp → Type 0
RunAlike t old new [] = GoesOn t old new
RunAlike t old new (s ∷ rest) =
    GoesOn t old new
    × (PartThere (denied_by old (op_at_old t s.op) s.by) (denied_by new s.op s.by)
    ⊎ (AreAnsweredAlike t s.op (answer old (op_at_old t s.op) s.by) (answer new s.op s.by) × RunAlike t (after old (op_at_old t s.op) s.by) (after new s.op s.by) rest))

-- of any operations of two such banks
abbrev pub BooksRunAlike : Type 0
BooksRunAlike = (t : Turn) (old new : WorldLists) → StayAlike t old new → (ops : List SignedOp) → AllByRecursion (λ s. NamesAnEntry s.op) ops → RunAlike t old new ops

-- ---- from the turn of a year

-- of any operations from the turn of any year that is closed
abbrev pub YearRunsAlike : Type 0
YearRunsAlike = (w : WorldLists) → Books w → AreBooksInOrder w → IsClosed w → (ops : List SignedOp) → AllByRecursion (λ s. NamesAnEntry s.op) ops → RunAlike (turn_of w) w (forward w) ops
