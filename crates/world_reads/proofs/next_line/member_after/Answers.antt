use Rattle.std.proofs.Common.{sym, ◌∙◌}
use Rattle.world_reads.specs.PolicyListing.{is_member_after, set_members}
use Rattle.world_reads.proofs.Found.{found-list, missed-list}
use Rattle.world_reads.proofs.next_line.member_after.Goals as goal

pub returns-in-Some : goal.returns-in-Some
returns-in-Some c =
    found-list (is_member_after c.args.after) set_members c.args.sets.now c.loop-set.set-index _ _ _
    c.loop-set-test.true c.set-item.is c.in-Some.ensures c.loop-set.invariant

pub loop-set-preserved : goal.loop-set-preserved
loop-set-preserved c =
    missed-list (is_member_after c.args.after) set_members c.args.sets.now c.loop-set.set-index _ _
    c.loop-set-test.true c.set-item.is (sym c.in_default.is ∙ c.member_of_after.ensures) c.loop-set.invariant
