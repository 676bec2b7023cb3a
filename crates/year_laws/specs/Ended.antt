-- Nothing of a year that is closed can be taken up again.
use Rattle.std.specs.Prelude.{ℕ, ◌≡◌, true, false}
use Rattle.bank_terms.specs.declared.rule.Rule.TheVariants as rule
use Rattle.bank_books.specs.Books.{Books}
use Rattle.bank_books.specs.WorldLists.{WorldLists}
use Rattle.counter_ops.specs.declared.correct.Correct.{Correct}
use Rattle.counter_ops.specs.declared.op.Op.TheVariants as op
use Rattle.bank_meaning.specs.PolicyRules.{grounds, is_released}
use Rattle.bank_meaning.specs.Requests.{denies, executes}
use Rattle.bank_meaning.specs.declared.execution.Execution.{Execution}
use Rattle.bank_meaning.specs.declared.who.Who.{Who}
use Rattle.year_forward.specs.Closed.{IsClosed}
use Rattle.year_forward.specs.Forward.{forward}

-- the rule on entries denies every correction, in the year that ends and in the next
abbrev pub NothingIsCorrectable : Type 0
NothingIsCorrectable = (w : WorldLists) → Books w → IsClosed w → (who : Who) (moment : ℕ) (correct : Correct) →
    (denies rule.Entry w (executes (record { who = who; moment = moment; op = op.Correct correct })) ≡ true)
    × (denies rule.Entry (forward w) (executes (record { who = who; moment = moment; op = op.Correct correct })) ≡ true)

-- and no release is valid, for whatever it was given
abbrev pub NoReleaseCounts : Type 0
NoReleaseCounts = (w : WorldLists) → IsClosed w → (x : Execution) → (is_released (grounds w x) ≡ false) × (is_released (grounds (forward w) x) ≡ false)
