use Rattle.std.proofs.Common.{arith, ◌-◌}
use Rattle.std.proofs.lemmas.Bool.{leb-true}
use Rattle.book_sums.proofs.SharesBetween.{up_to_here}
use Rattle.book_sums.proofs.shares.are_up_to.Goals as goal

pub returns-else-place-eq0 : goal.returns-else-place-eq0
returns-else-place-eq0 c is k d till =
    up_to_here c.args.parts.now (c.args.place - 1) c.args.key c.key.result k _ d c.requires.in_order c.key.ensures (leb-true _ _ is) (omega arith) (omega arith)
