use Rattle.book_kept.proofs.EntryKept.{entry_keeps}
use Rattle.book_kept.proofs.entry.with_entry.Goals as goal

pub returns-clause-kept : goal.returns-clause-kept
returns-clause-kept c w can of =
    entry_keeps w c.args.entry.now c.args.account.now c.args.teller.now c.args.branch.now _ can of c.in_ok-branch.ensures.next.1
    c.in_ok-account.ensures.moved c.in_ok-teller.ensures.moved c.in_ok-branch.ensures.moved c.entry_left-entry.ensures c.in_ok-account.ensures.next c.in_ok-branch.ensures.next.0
