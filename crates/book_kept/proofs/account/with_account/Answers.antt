use Rattle.book_kept.proofs.AccountKept.{account_keeps}
use Rattle.book_kept.proofs.account.with_account.Goals as goal

pub returns-clause-kept : goal.returns-clause-kept
returns-clause-kept c w can of free = account_keeps w c.args.account.now c.args.home.now _ can of free c.in_ok-home.ensures.moved c.account_begun-account.ensures
