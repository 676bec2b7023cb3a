-- A question for accounts: what it looks at in two Worlds, and what it changes.
use Rattle.std.proofs.Common.{ap, length, ◌++◌}
use Rattle.std.specs.List.{concat}
use Rattle.bank_policy.specs.Tests.{current}
use Rattle.counter_ops.specs.declared.accounts.Accounts.{Accounts}
use Rattle.counter_ops.specs.declared.op.Op.TheVariants as op
use Rattle.reports.specs.Listing.{heading}
use Rattle.bank_meaning.specs.Accounts.{accounts_of}
use Rattle.two_worlds.proofs.IsLocalForm.{IsLocalForm}
use Rattle.two_worlds.proofs.PlanParts.{nothing_carried}
use Rattle.two_worlds.proofs.Reports.{accounts_alike}

pub accounts_is_local : (form : Accounts) → IsLocalForm (op.Accounts form)
accounts_is_local form = record {
  rows_same = λ by w v bank bank' same held agree.
      ap (λ lines. heading (accounts_of form by) (length lines) ++ concat lines) (accounts_alike w v by.user by.moment form.after form.count bank bank' (ap (current by.moment) held) agree);
  carried = λ by w distinct proper none. nothing_carried _ _ _;
}
