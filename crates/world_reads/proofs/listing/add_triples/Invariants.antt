use Rattle.std.proofs.Common.{◌≡◌, ◌++◌, map, drop}
use Rattle.world_reads.specs.declared.policy_row.PolicyRow.TheVariants as row
use Rattle.world_reads.proofs.listing.add_triples.Given as goal

abbrev pub invariant-loop-triple : goal.invariant-loop-triple
invariant-loop-triple l = l.rows.items ++ map row.Triple (drop l.triple-index l.triples) ≡ l.initial.rows.items ++ map row.Triple l.triples
