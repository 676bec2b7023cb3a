use Rattle.std.proofs.Common.{rules, ◌≡◌}
use Rattle.std.proofs.lemmas.Result.{IfOk-weaker}
use Rattle.std.proofs.lemmas.List.Sorted.{IsNonDecreasingBy-from_sort_by_key, answers_always}
use Rattle.list_order.proofs.SortLemmas.{sorted-is}
use Rattle.list_order.proofs.sorting.sort_rows.Goals as goal

pub returns-clause-in_order : goal.returns-clause-in_order
returns-clause-in_order g c =
    IfOk-weaker c.sort_by_key.result _ _ (λ _ sorted. IsNonDecreasingBy-from_sort_by_key g.T.Keyed.key _ sorted (λ a r q k. search rules)) c.sort_by_key.ensures.sorted

pub returns-clause-rows : goal.returns-clause-rows
returns-clause-rows g c =
    IfOk-weaker c.sort_by_key.result _ _ (λ _ order. sorted-is g.T.Keyed.key c.args.rows.now.items c.sort_by_key.new.self.items order
    (c.sort_by_key.ensures.stable g.T.Keyed.key (answers_always _ (λ a r. r ≡ g.T.Keyed.key a.0.now) _ (λ f a r f' k. search rules)))) (returns-clause-in_order g c)
