-- A question for a statement: what it looks at in two Worlds, and what it changes.
use Rattle.std.proofs.Common.{ap₂, arith, length, refl, ◌++◌}
use Rattle.std.specs.List.{concat}
use Rattle.counter_ops.specs.Touched.{account_item}
use Rattle.counter_ops.specs.declared.op.Op.TheVariants as op
use Rattle.counter_ops.specs.declared.statement.Statement.{Statement}
use Rattle.reports.specs.Listing.{heading}
use Rattle.bank_meaning.specs.Statement.{statement_of}
use Rattle.two_worlds.proofs.IsLocalForm.{IsLocalForm}
use Rattle.two_worlds.proofs.PlanParts.{nothing_carried}
use Rattle.two_worlds.proofs.Reports.{statement_alike}
use Rattle.two_worlds.proofs.SameRows.{same_account}

pub statement_is_local : (form : Statement) → IsLocalForm (op.Statement form)
statement_is_local form = record {
  rows_same = λ by w v bank bank' same held agree.
      let account = same (account_item form.account) (0, omega arith, refl) in
      ap₂ (λ row lines. (row, heading (statement_of form) (length lines) ++ concat lines)) (same_account w v bank.books bank'.books form.account account)
      (statement_alike w v form.account form.start form.count account);
  carried = λ by w distinct proper none. nothing_carried _ _ _;
}
