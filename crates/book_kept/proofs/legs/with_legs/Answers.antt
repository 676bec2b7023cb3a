use Rattle.std.proofs.lemmas.Bool.{false≢true}
use Rattle.book_kept.proofs.LegsKept.{legs_keep, next_after}
use Rattle.book_kept.proofs.legs.with_legs.Goals as goal

pub returns-in_err-after-clause-stated : goal.returns-in_err-after-clause-stated
returns-in_err-after-clause-stated c next =
    let second_next = next_after c.args.first.now c.args.second.now c.args.source.now c.args.target.now c.args.teller.now c.args.branch.now c.in_ok-left.left next c.in_ok-left.ensures.moved in
    absurd (false≢true (c.in_err-after.ensures.stated second_next))

pub returns-clause-kept : goal.returns-clause-kept
returns-clause-kept c w can legs of =
    legs_keep w c.args.first.now c.args.second.now c.args.source.now c.args.target.now c.args.teller.now c.args.branch.now _ _ can legs of c.in_ok-left.ensures.kept c.in_ok-left.ensures.moved
    c.in_ok-after.ensures.kept c.in_ok-after.ensures.moved
