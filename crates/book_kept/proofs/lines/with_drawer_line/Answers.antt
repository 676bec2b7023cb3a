use Rattle.std.proofs.Common.{rules}
use Rattle.book_kept.proofs.LineKept.{drawer_keeps}
use Rattle.book_kept.proofs.lines.with_drawer_line.Goals as goal

pub returns-clause-kept : goal.returns-clause-kept
returns-clause-kept c w can of =
    drawer_keeps w c.args.line.now c.args.teller.now c.args.branch.now _ can of c.in_ok-branch.ensures.next.1 c.if-teller-line.false (search rules)
    c.in_ok-teller.ensures.moved c.in_ok-branch.ensures.moved c.in_ok-branch.ensures.next.0
