use Rattle.std.proofs.Common.{rules, ltb}
use Rattle.std.proofs.lemmas.List.Sorted.{answers_always}
use Rattle.keyed_rows.proofs.DistinctKeys.{distinct_by_neighbours}
use Rattle.keyed_rows.proofs.ordered.has_distinct_keys.Goals as goal

pub returns : goal.returns
returns g c =
    let key = g.T.Keyed.key in
    distinct_by_neighbours key c.args.rows.now c.is_sorted_by.result
    (c.is_sorted_by.ensures.cases (λ x y. ltb (key x) (key y)) (answers_always _ _ _ (λ f a r f' called. search rules)))
