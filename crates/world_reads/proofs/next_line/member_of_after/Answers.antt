use Rattle.std.proofs.Common.{◌+◌, ◌∙◌, ap, sym, arith}
use Rattle.world_reads.specs.PolicyListing.{is_after, is_member_after, placed_member}
use Rattle.world_reads.specs.declared.policy_row.PolicyKey.TheVariants as key
use Rattle.world_reads.proofs.Found.{missed-placed}
use Rattle.world_reads.proofs.next_line.member_of_after.Goals as goal

pub loop-member-preserved : goal.loop-member-preserved
loop-member-preserved c =
    let place = c.loop-member.place + 1 in
    record {
      place = omega arith;
      rest = missed-placed (is_member_after c.args.after) (placed_member c.args.set.now.set) c.members-members.result.now
          c.loop-member.member-index place _
          (λ _. sym (c.is_member_after.ensures ∙ ap (λ set. is_after c.args.after (key.Member set place)) c.set-number.ensures) ∙ c.if-is_member_after.false)
          c.loop-member.invariant.rest;
    }
