use Rattle.std.proofs.Common.{rules, ltb}
use Rattle.std.proofs.lemmas.List.Sorted.{IsPartitionPoint-from_clause, IsPartitionedBy-ltb}
use Rattle.book_sums.specs.Shares.{part_key}
use Rattle.book_sums.proofs.SharesBetween.{EndsBelow-from_test}
use Rattle.book_sums.proofs.shares.end_below.Goals as goal

pub returns-clause-place : goal.returns-clause-place
returns-clause-place c =
    EndsBelow-from_test c.args.parts.now c.args.key c.partition_point.result
    (IsPartitionPoint-from_clause (λ y. ltb (part_key y) c.args.key) c.args.parts.now c.partition_point.result c.partition_point.ensures.partitioned
    (IsPartitionedBy-ltb part_key c.args.parts.now c.args.key c.requires) (λ a r f' called. search rules))
