use Rattle.std.proofs.Common.{◌≡◌, ◌++◌, map, drop}
use Rattle.std.specs.List.{flat_map}
use Rattle.world_reads.specs.PolicyListing.{set_members}
use Rattle.world_reads.specs.declared.policy_row.PolicyRow.TheVariants as row
use Rattle.world_reads.proofs.listing.add_members.Given as goal

abbrev pub invariant-loop-set : goal.invariant-loop-set
invariant-loop-set l =
    l.rows.items ++ map row.Member (flat_map set_members (drop l.set-index l.sets))
    ≡ l.initial.rows.items ++ map row.Member (flat_map set_members l.sets)
