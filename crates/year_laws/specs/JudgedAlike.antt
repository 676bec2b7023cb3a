-- What the rules of the books say of an operation at the bank that goes on, and of the same at the next year's.
use Rattle.std.specs.Prelude.{◌≡◌, ◌≢◌, ◌==◌, ◌||◌, ⊤, Bool, false}
use Rattle.bank_terms.specs.Rule.{number_of}
use Rattle.bank_terms.specs.declared.rule.Rule.{Rule}
use Rattle.bank_terms.specs.declared.rule.Rule.TheVariants as rule
use Rattle.bank_books.specs.Books.{Books}
use Rattle.bank_books.specs.WorldLists.{WorldLists}
use Rattle.bank_books.specs.declared.signature.Signature.{Signature}
use Rattle.counter_ops.specs.declared.op.Op.{Op}
use Rattle.counter_ops.specs.declared.op.Op.TheVariants as op
use Rattle.bank_meaning.specs.Operations.{meaning_of}
use Rattle.year_forward.specs.Closed.{IsClosed}
use Rattle.year_forward.specs.Forward.{forward}
use Rattle.year_laws.specs.GoesOn.{GoesOn, Turn, op_at_old, turn_of}

-- the rule looks at totals and counts that begin anew
abbrev pub begins_anew : Rule → Bool
begins_anew r = (number_of r == number_of rule.Range) || (number_of r == number_of rule.Full)

-- the entry that a correction names has a number
abbrev pub NamesAnEntry : Op → Type 0
NamesAnEntry (op.Correct c) = c.entry ≢ 0
NamesAnEntry other = ⊤

-- As long as the two banks are alike, each rule of the books but those on ranges and on full numbers denies an operation at both or at neither.
abbrev pub BooksJudgeAlike : Type 0
BooksJudgeAlike =
    (t : Turn) (old new : WorldLists) → GoesOn t old new → (x : Op) → NamesAnEntry x → (by : Signature) (r : Rule) → begins_anew r ≡ false →
    (meaning_of (op_at_old t x) by old).denies r ≡ (meaning_of x by new).denies r

-- They are so when the year turns.
abbrev pub YearTurns : Type 0
YearTurns = (w : WorldLists) → Books w → IsClosed w → GoesOn (turn_of w) w (forward w)
