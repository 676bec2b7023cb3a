use Rattle.std.proofs.Common.{◌≡◌, ◌+◌, map, drop}
use Rattle.std.specs.List.{enumerate_from, find}
use Rattle.world_reads.specs.PolicyListing.{is_member_after, placed_member, set_members}
use Rattle.world_reads.proofs.next_line.member_of_after.Given as goal

abbrev pub invariant-loop-member : goal.invariant-loop-member
invariant-loop-member l = record {
  place : l.place ≡ l.member-index;
  rest : find (is_member_after l.after) (map (placed_member l.set.set) (enumerate_from (l.place + 1) (drop l.member-index l.members)))
      ≡ find (is_member_after l.after) (set_members l.set);
}
