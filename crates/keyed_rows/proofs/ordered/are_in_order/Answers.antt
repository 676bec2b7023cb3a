use Rattle.std.proofs.Common.{rules, leb}
use Rattle.std.proofs.lemmas.List.Sorted.{answers_always}
use Rattle.keyed_rows.proofs.DistinctKeys.{in_order_by_neighbours}
use Rattle.keyed_rows.proofs.ordered.are_in_order.Goals as goal

pub returns : goal.returns
returns g c =
    let key = g.T.Keyed.key in
    in_order_by_neighbours key c.args.rows.now c.is_sorted_by.result
    (c.is_sorted_by.ensures.cases (λ x y. leb (key x) (key y)) (answers_always _ _ _ (λ f a r f' called. search rules)))
