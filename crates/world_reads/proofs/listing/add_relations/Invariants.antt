use Rattle.std.proofs.Common.{◌≡◌, ◌++◌, map, drop}
use Rattle.world_reads.specs.declared.policy_row.PolicyRow.TheVariants as row
use Rattle.world_reads.proofs.listing.add_relations.Given as goal

abbrev pub invariant-loop-relation : goal.invariant-loop-relation
invariant-loop-relation l = l.rows.items ++ map row.Relation (drop l.relation-index l.relations) ≡ l.initial.rows.items ++ map row.Relation l.relations
