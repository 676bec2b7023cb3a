use Rattle.std.proofs.Common.{rules, leb}
use Rattle.std.proofs.lemmas.List.Sorted.{IsPartitionPoint-from_clause, IsPartitionedBy-leb}
use Rattle.book_sums.specs.Shares.{part_key}
use Rattle.book_sums.proofs.SharesBetween.{EndsAt-from_test}
use Rattle.book_sums.proofs.shares.end_at.Goals as goal

pub returns-clause-place : goal.returns-clause-place
returns-clause-place c =
    EndsAt-from_test c.args.parts.now c.args.key c.partition_point.result
    (IsPartitionPoint-from_clause (λ y. leb (part_key y) c.args.key) c.args.parts.now c.partition_point.result c.partition_point.ensures.partitioned
    (IsPartitionedBy-leb part_key c.args.parts.now c.args.key c.requires) (λ a r f' called. search rules))
