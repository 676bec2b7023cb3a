use Rattle.book_range.proofs.Judged.{then_tested}
use Rattle.book_range.proofs.numbering.are_numbered.Goals as goal

pub returns-then-has_distinct_keys : goal.returns-then-has_distinct_keys
returns-then-has_distinct_keys c =
    then_tested c.if-has_distinct_keys.true (c.has_distinct_keys.ensures c.requires) c.bear_numbers.ensures (λ distinct numbers. (distinct, numbers)) (λ both. both.1)
