use Rattle.keyed_rows.proofs.RowsBetween.{taken_between}
use Rattle.keyed_rows.proofs.ordered.rows_between.Goals as goal

pub returns : goal.returns
returns g c order =
    taken_between g.T.Keyed.key c.args.rows.now c.args.low c.args.high c.end_below.result c.end_below-2.result order c.end_below.ensures.within c.end_below-2.ensures.within (c.end_below.ensures.place order) c.end_below-2.ensures.place
