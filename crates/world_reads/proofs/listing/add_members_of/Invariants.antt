use Rattle.std.proofs.Common.{◌≡◌, ◌+◌, ◌++◌, map, drop}
use Rattle.std.specs.List.{enumerate_from}
use Rattle.world_reads.specs.PolicyListing.{placed_member, set_members}
use Rattle.world_reads.specs.declared.policy_row.PolicyRow.TheVariants as row
use Rattle.world_reads.proofs.listing.add_members_of.Given as goal

abbrev pub invariant-loop-member : goal.invariant-loop-member
invariant-loop-member l = record {
  place : l.place ≡ l.member-index;
  rows : l.rows.items ++ map row.Member (map (placed_member l.set.set) (enumerate_from (l.place + 1) (drop l.member-index l.members)))
      ≡ l.initial.rows.items ++ map row.Member (set_members l.set);
}
