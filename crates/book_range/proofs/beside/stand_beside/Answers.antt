use Rattle.std.proofs.Common.{arith, rules}
use Rattle.book_range.proofs.BesideRows.{one_beside}
use Rattle.book_range.proofs.beside.stand_beside.Goals as goal

pub loop-index-preserved : goal.loop-index-preserved
loop-index-preserved g c =
    one_beside g.K.Beside.own_row c.args.kept.now c.args.rows.now c.loop-index.index c.index-kept-index.result c.index-rows-index.result (omega arith) (omega arith) c.index-kept-index.is c.index-rows-index.is
    (search rules) c.loop-index.invariant
