use Rattle.policy_check.specs.Soundness.{HasFewOfEachProcedure}
use Rattle.policy_check.proofs.GroupOrder.{relations_by_procedure}
use Rattle.policy_check.proofs.references.has_few_of_each_procedure.Goals as goal

pub returns : goal.returns
unfolding HasFewOfEachProcedure
returns c =
    let rows = c.args.policy.now.relations in
    rw c.relations.ensures.value at (c.has_small_groups.ensures (rw c.relations.ensures.value (relations_by_procedure rows c.requires c.relations.ensures.in_order)))
