use Rattle.std.proofs.Common.{ap, ◌∙◌}
use Rattle.std.specs.List.{find, flat_map}
use Rattle.world_reads.specs.PolicyListing.{is_member_after, is_row_after, set_members}
use Rattle.world_reads.specs.declared.policy_row.PolicyRow.TheVariants as row
use Rattle.world_reads.proofs.Found.{found-made}
use Rattle.world_reads.proofs.next_line.member_line_after.Goals as goal

pub returns-in-Some : goal.returns-in-Some
returns-in-Some c =
    found-made (is_row_after c.args.after) row.Member _ _
    (c.in-Some.ensures ∙ ap (λ sets. find (is_member_after c.args.after) (flat_map set_members sets)) c.sets.ensures.value)

pub returns-in-None : goal.returns-in-None
returns-in-None c =
    found-made (is_row_after c.args.after) row.Member _ _
    (c.in-None.ensures ∙ ap (λ sets. find (is_member_after c.args.after) (flat_map set_members sets)) c.sets.ensures.value)
