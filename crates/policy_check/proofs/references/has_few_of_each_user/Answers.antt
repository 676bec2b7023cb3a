use Rattle.policy_check.specs.Soundness.{HasFewOfEachUser}
use Rattle.policy_check.proofs.GroupOrder.{triples_by_user}
use Rattle.policy_check.proofs.references.has_few_of_each_user.Goals as goal

pub returns : goal.returns
unfolding HasFewOfEachUser
returns c =
    let rows = c.args.policy.now.triples in
    rw c.triples.ensures.value at (c.has_small_groups.ensures (rw c.triples.ensures.value (triples_by_user rows c.requires c.triples.ensures.in_order)))
