-- What is made of what was judged.
use Rattle.std.specs.Prelude.{◌≡◌, ℕ, true, List, [], Result, Ok, Err, IfErr, IfOk}
use Rattle.std.specs.Global.{Vec}
use Rattle.bank_terms.specs.declared.rule.Rule.{Rule}
use Rattle.bank_books.specs.Version.{changes_policy}
use Rattle.bank_books.specs.declared.row_write.RowWrite.{RowWrite}
use Rattle.money.specs.declared.fault.Fault.{Fault}
use Rattle.store_rows.specs.Status.{Status, mark_of}
use Rattle.op_prepare.specs.declared.prepared.Prepared.{Prepared}
use Rattle.decide.specs.Permit.{IsApplied}

-- what is changed for it; nothing where a rule denies
abbrev pub plan_of : Result Prepared Rule → List RowWrite
plan_of (Err rule) = []
plan_of (Ok p) = p.plan.items

-- what carries it out changes the policy
abbrev pub ChangesPolicy : Result (Result Prepared Rule) Fault → Type 0
ChangesPolicy result = IfOk result (λ judged. IfOk judged (λ p. changes_policy p.plan.items ≡ true))

-- what is returned of it
abbrev pub stated_of : Result Prepared Rule → Result (Vec ℕ) Rule
stated_of (Err rule) = Err rule
stated_of (Ok p) = Ok p.text

-- What was judged is carried out, whole or not at all, and its reply or its rule is returned.
pub record IsCarriedOut (old new : Status) (judged : Result Prepared Rule) (result : Result (Result (Vec ℕ) Rule) Fault) : Type 0 where
  pub applied : IsApplied old new (plan_of judged) (mark_of result)
  pub stated : IfOk result (λ answer. answer ≡ stated_of judged)
  -- a denial is returned without a fault
  pub denied : IfErr judged (λ rule. result ≡ Ok (Err rule))
