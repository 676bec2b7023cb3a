use Rattle.std.proofs.Common.{arith}
use Rattle.std.proofs.lemmas.Int.{ints}
use Rattle.keyed_rows.proofs.TotalLemmas.{total-take_more}
use Rattle.keyed_rows.proofs.sums.sum_of.Goals as goal

pub loop-row-preserved : goal.loop-row-preserved
loop-row-preserved g c =
    let more = total-take_more (g.Q.Tally.share c.args.query.now) c.args.rows.now c.loop-row.row-index c.row-item.result (omega arith) c.row-item.is in
    record {
      so_far = omega (arith, ints, more, c.share.ensures, c.from-sum.ensures);
      low = omega (arith, ints, c.share.ensures, c.from-sum.ensures);
      high = omega (arith, ints, c.share.ensures, c.from-sum.ensures);
    }
