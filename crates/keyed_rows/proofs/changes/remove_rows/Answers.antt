use Rattle.std.proofs.Common.{rules, ◌==◌, not, subst, sym}
use Rattle.std.specs.List.Sorted.{IsNonDecreasingBy}
use Rattle.std.proofs.lemmas.Fn.{filter_same}
use Rattle.std.proofs.lemmas.List.Kept.{IsNonDecreasingBy-filter}
use Rattle.keyed_rows.proofs.changes.remove_rows.Goals as goal

pub returns-clause-items : goal.returns-clause-items
returns-clause-items g c = filter_same _ _ _ (λ x b f' k. search rules) _ _ c.retain.ensures.filtered

pub returns-clause-in_order : goal.returns-clause-in_order
returns-clause-in_order g c in_order =
    subst (IsNonDecreasingBy g.T.Keyed.key) (sym (returns-clause-items g c))
    (IsNonDecreasingBy-filter g.T.Keyed.key (λ row. not (g.T.Keyed.key row == c.args.key)) c.args.rows.now.items in_order)
