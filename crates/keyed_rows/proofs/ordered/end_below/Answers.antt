use Rattle.std.proofs.Common.{rules, ltb}
use Rattle.std.proofs.lemmas.List.Sorted.{IsPartitionPoint-from_clause, IsPartitionedBy-ltb}
use Rattle.keyed_rows.proofs.FirstRow.{EndsBelow-from_test}
use Rattle.keyed_rows.proofs.ordered.end_below.Goals as goal

pub returns-clause-place : goal.returns-clause-place
returns-clause-place g c order =
    let key = g.T.Keyed.key in
    EndsBelow-from_test key c.args.rows.now c.args.key c.partition_point.result
    (IsPartitionPoint-from_clause (λ y. ltb (key y) c.args.key) c.args.rows.now c.partition_point.result c.partition_point.ensures.partitioned
    (IsPartitionedBy-ltb key c.args.rows.now c.args.key order) (λ a r f' called. search rules))
