use Rattle.std.proofs.Common.{rules, not, subst, sym}
use Rattle.std.specs.List.Sorted.{IsNonDecreasingBy}
use Rattle.std.proofs.lemmas.Fn.{filter_same}
use Rattle.std.proofs.lemmas.List.Kept.{IsNonDecreasingBy-filter}
use Rattle.bank_policy.specs.PolicyKeys.{triple_key}
use Rattle.bank_policy.specs.PolicyWrites.{is_triple_on}
use Rattle.bank_policy.proofs.policy_rows.remove_triples.Goals as goal

pub returns-clause-items : goal.returns-clause-items
returns-clause-items c = filter_same _ _ _ (λ x b f' k. search rules) _ _ c.retain.ensures.filtered

pub returns-clause-in_order : goal.returns-clause-in_order
returns-clause-in_order c in_order =
    subst (IsNonDecreasingBy triple_key) (sym (returns-clause-items c)) (IsNonDecreasingBy-filter triple_key (λ row. not (is_triple_on c.args.of row)) c.args.rows.now.items in_order)
