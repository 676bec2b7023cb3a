use Rattle.std.proofs.lemmas.Bool.{false≢true}
use Rattle.book_kept.proofs.PostingKept.{posting_keeps, still_next}
use Rattle.book_kept.proofs.posting.with_posting.Goals as goal

pub returns-in_err-moved-clause-stated : goal.returns-in_err-moved-clause-stated
returns-in_err-moved-clause-stated c next =
    let line_next = still_next c.args.entry.now c.args.line.now c.args.account.now c.args.teller.now c.args.branch.now c.in_ok-rows.rows next c.in_ok-rows.ensures.moved in
    absurd (false≢true (c.in_err-moved.ensures.stated line_next))

pub returns-clause-kept : goal.returns-clause-kept
returns-clause-kept c w can of =
    posting_keeps w c.args.entry.now c.args.line.now c.args.account.now c.args.teller.now c.args.branch.now _ _ can of c.if-line-entry.false c.if-line-entry-2.false c.in_ok-rows.ensures.kept
    c.in_ok-rows.ensures.moved c.in_ok-moved.ensures.kept c.in_ok-moved.ensures.moved
