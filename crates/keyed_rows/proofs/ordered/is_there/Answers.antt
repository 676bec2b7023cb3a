use Rattle.std.proofs.Common.{rules}
use Rattle.std.proofs.lemmas.List.Sorted.{answers_always}
use Rattle.keyed_rows.proofs.LookUps.{row_searched}
use Rattle.keyed_rows.proofs.ordered.is_there.Goals as goal

pub returns : goal.returns
returns g c =
    let key = g.T.Keyed.key in
    row_searched key c.args.rows.now c.args.key c.binary_search_by_key.result c.is_ok.result c.is_ok.ensures.value c.binary_search_by_key.ensures.bound
    (c.binary_search_by_key.ensures.position key (answers_always _ _ _ (λ f a r f' called. search rules)))
