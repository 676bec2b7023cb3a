use Rattle.std.proofs.Common.{◌≡◌, drop}
use Rattle.std.specs.List.{find, flat_map}
use Rattle.world_reads.specs.PolicyListing.{is_member_after, set_members}
use Rattle.world_reads.proofs.next_line.member_after.Given as goal

abbrev pub invariant-loop-set : goal.invariant-loop-set
invariant-loop-set l =
    find (is_member_after l.after) (flat_map set_members (drop l.set-index l.sets)) ≡ find (is_member_after l.after) (flat_map set_members l.sets)
