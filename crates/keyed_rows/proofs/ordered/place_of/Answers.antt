use Rattle.std.proofs.Common.{arith, ◌<◌}
use Rattle.keyed_rows.proofs.Places.{place_at_end, place_here}
use Rattle.keyed_rows.proofs.ordered.place_of.Goals as goal

pub returns-then-key-clause-place : goal.returns-then-key-clause-place
returns-then-key-clause-place g c =
    let above : c.args.key < g.T.Keyed.key c.row-item.result = omega (arith, c.key.ensures, c.if-key.true) in
    place_here g.T.Keyed.key c.args.key c.args.rows.now c.loop-row.row-index c.loop-row.place c.row-item.result c.loop-row-test.true c.row-item.is above c.loop-row.invariant

pub returns-clause-place : goal.returns-clause-place
returns-clause-place g c = place_at_end g.T.Keyed.key c.args.key c.args.rows.now c.loop-row.row-index c.loop-row.place c.loop-row-test.false (omega arith) c.loop-row.invariant
