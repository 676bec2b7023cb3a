use Rattle.std.proofs.Common.{rules}
use Rattle.std.proofs.lemmas.List.Sorted.{IsNonDecreasingBy-from_sort_by_key}
use Rattle.book_sums.specs.Shares.{part_key}
use Rattle.book_sums.proofs.shares.put_in_order.Goals as goal

pub returns-clause-in_order : goal.returns-clause-in_order
returns-clause-in_order c = IsNonDecreasingBy-from_sort_by_key part_key _ c.sort_unstable_by_key.ensures.sorted (λ a r q k. search rules)
