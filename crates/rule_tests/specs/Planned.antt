-- What a plan function answers.
use Rattle.std.specs.Prelude.{◌≡◌, List, Option, Some, None, Result, Ok, Err}
use Rattle.bank_terms.specs.declared.rule.Rule.{Rule}
use Rattle.bank_books.specs.declared.row_write.RowWrite.{RowWrite}
use Rattle.rule_tests.specs.declared.planned.Planned.{Planned}

-- no rule denies, the plan has exactly these changes, and this is what it leaves
pub record IsPlan {A : Type 0} (first : Option Rule) (changes : List RowWrite) (left : Option A) (planned : Planned A) : Type 0 where
  pub allowed : first ≡ None
  pub carried : planned.plan.items ≡ changes
  pub stated : left ≡ Some planned.left

-- the plan, or the first rule that denies
abbrev pub IsPlanned : {A : Type 0} → Option Rule → List RowWrite → Option A → Result (Planned A) Rule → Type 0
IsPlanned first changes left (Ok planned) = IsPlan first changes left planned
IsPlanned first changes left (Err rule) = first ≡ Some rule
