use Rattle.std.proofs.Common.{◌∙◌, ap, sym, subst}
use Rattle.std.specs.List.Sorted.{IsNonDecreasingBy}
use Rattle.bank_policy.specs.PolicyKeys.{set_key}
use Rattle.list_opening.specs.Sets.{grouped}
use Rattle.list_opening.proofs.SetLemmas.{sets_in_order}
use Rattle.list_opening.proofs.opening.read_sets.Goals as goal

pub returns-clause-in_order : goal.returns-clause-in_order
returns-clause-in_order c =
    subst (IsNonDecreasingBy set_key) (sym (c.in_ok-item_sets.ensures ∙ ap grouped c.deref.ensures.value)) (sets_in_order c.in_ok-members.members.items c.in_ok-members.ensures.in_order)
