-- A question for a balance: what it looks at in two Worlds, and what it changes.
use Rattle.std.proofs.Common.{arith, refl}
use Rattle.counter_ops.specs.Touched.{account_item}
use Rattle.counter_ops.specs.declared.balance.Balance.{Balance}
use Rattle.counter_ops.specs.declared.op.Op.TheVariants as op
use Rattle.two_worlds.proofs.IsLocalForm.{IsLocalForm}
use Rattle.two_worlds.proofs.PlanParts.{nothing_carried}
use Rattle.two_worlds.proofs.SameRows.{same_account}

pub balance_is_local : (form : Balance) → IsLocalForm (op.Balance form)
balance_is_local form = record {
  rows_same = λ by w v bank bank' same held agree. same_account w v bank.books bank'.books form.account (same (account_item form.account) (0, omega arith, refl));
  carried = λ by w distinct proper none. nothing_carried _ _ _;
}
