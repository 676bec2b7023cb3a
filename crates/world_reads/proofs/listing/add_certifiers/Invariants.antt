use Rattle.std.proofs.Common.{◌≡◌, ◌++◌, map, drop}
use Rattle.world_reads.specs.declared.policy_row.PolicyRow.TheVariants as row
use Rattle.world_reads.proofs.listing.add_certifiers.Given as goal

abbrev pub invariant-loop-certifier : goal.invariant-loop-certifier
invariant-loop-certifier l = l.rows.items ++ map row.Certifier (drop l.certifier-index l.certifiers) ≡ l.initial.rows.items ++ map row.Certifier l.certifiers
