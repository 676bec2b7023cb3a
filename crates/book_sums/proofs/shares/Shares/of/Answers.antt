use Rattle.std.proofs.Common.{◌/◌, length, subst}
use Rattle.std.proofs.lemmas.List.Elements.{All-same}
use Rattle.std.proofs.lemmas.List.Sorted.{All-permutation}
use Rattle.book_sums.specs.Shares.{AreSumsOfSteps, IsPart}
use Rattle.book_sums.proofs.shares.Shares.of.Goals as goal

pub sums_of_steps-requires : goal.sums_of_steps-requires
sums_of_steps-requires g c = All-same IsPart _ _ c.deref.ensures.value (All-permutation IsPart _ _ c.put_in_order.ensures.same c.in_ok-parts.ensures.in_range)

pub invariant_of-result : goal.invariant_of-result
invariant_of-result g c = record {
  in_order = c.put_in_order.ensures.in_order;
  in_range = All-permutation IsPart _ _ c.put_in_order.ensures.same c.in_ok-parts.ensures.in_range;
  steps = subst (λ l. AreSumsOfSteps (length l / 64) l c.in_ok-sums.sums.items) c.deref.ensures.value c.in_ok-sums.ensures;
}
