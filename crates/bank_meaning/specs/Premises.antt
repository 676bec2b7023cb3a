-- That what the laws suppose is met by what it is named for, and that they except no more than they name.
use Rattle.std.specs.Prelude.{ℕ, ◌≡◌, ◌≢◌, true, List, [], ◌∷◌, Some, None, slice_get, take}
use Rattle.std.specs.List.{filter}
use Rattle.bank_terms.specs.declared.procedure.Procedure.TheVariants as procedure
use Rattle.bank_terms.specs.declared.rule.Rule.{Rule}
use Rattle.bank_terms.specs.declared.rule.Rule.TheVariants as rule
use Rattle.bank_books.specs.WorldLists.{WorldLists}
use Rattle.counter_ops.specs.Op.{procedure_of}
use Rattle.counter_ops.specs.declared.op.Op.{Op}
use Rattle.bank_meaning.specs.Amounts.{is_drawer_off}
use Rattle.bank_meaning.specs.Headline.{IsAcceptedAt}
use Rattle.bank_meaning.specs.Laws.{IsJudgedAlike, is_before_books}
use Rattle.bank_meaning.specs.Repeats.{IsSentAgain, MayBeLeft}
use Rattle.bank_meaning.specs.Requests.{executes, first, repeated, rules}
use Rattle.bank_meaning.specs.Run.{Marked, step, world_after}
use Rattle.bank_meaning.specs.Slips.{slip_named}
use Rattle.bank_meaning.specs.declared.execution.Execution.{Execution}

-- of what bears a slip
pub record AreSlipsCovered : Type 0 where
  -- an operation that bears one, repeats none and is denied by no rule is accepted at its place in the list
  pub accepted : (w : WorldLists) (requests : List Marked) (n : ℕ) (x : Execution) → slice_get requests n ≡ Some (record { request = executes x; mark = None })
      → slip_named x ≢ 0 → repeated (world_after w (take n requests)) (executes x) ≡ None → first (world_after w (take n requests)) (executes x) ≡ None → IsAcceptedAt w requests n x
  -- the same user's same operation with the same slip is that operation sent again
  pub sent_again : (x y : Execution) → y.who.user ≡ x.who.user → y.who.slip ≡ x.who.slip → y.op ≡ x.op → IsSentAgain x y
  -- a crash may leave the World before an operation, and the one after it
  pub before : (w : WorldLists) (x : Execution) → MayBeLeft w x w
  pub after : (w : WorldLists) (x : Execution) → MayBeLeft w x (step w (executes x))

-- of the rules before those of the books
pub record AreFirstRulesCovered : Type 0 where
  -- they are the first six
  pub before_books : filter is_before_books rules ≡ rule.Identity ∷ rule.Slip ∷ rule.NotCertified ∷ rule.NoTriple ∷ rule.Limit ∷ rule.Release ∷ []
  -- The rule on identity judges alike over the same policy, each other one over the same slips, too, and the one on releases over the same releases and branches.
  pub identity : (w v : WorldLists) (x : Execution) → v.policy ≡ w.policy → IsJudgedAlike rule.Identity w v x
  pub slips : (r : Rule) (w v : WorldLists) (x : Execution) → r ≢ rule.Release → v.policy ≡ w.policy → v.slips ≡ w.slips → IsJudgedAlike r w v x
  pub releases : (w v : WorldLists) (x : Execution) → v.policy ≡ w.policy → v.slips ≡ w.slips → v.releases ≡ w.releases → v.branches ≡ w.branches
      → IsJudgedAlike rule.Release w v x

-- A drawer that is put off is all that may move more cash than its amount.
abbrev pub DrawersOffAreExcepted : Type 0
DrawersOffAreExcepted = (op : Op) → is_drawer_off op ≡ true → procedure_of op ≡ procedure.DrawerOff

abbrev pub PremisesAreMet : Type 0
PremisesAreMet = AreSlipsCovered × AreFirstRulesCovered × DrawersOffAreExcepted
