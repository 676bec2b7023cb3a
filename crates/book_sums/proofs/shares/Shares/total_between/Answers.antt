use Rattle.std.proofs.Common.{◌≤◌, length, arith, subst, ◌∙◌}
use Rattle.std.specs.List.{All}
use Rattle.std.proofs.lemmas.Int.{ints}
use Rattle.book_sums.specs.Shares.{IsPart}
use Rattle.book_sums.proofs.SharesCalls.{added_between}
use Rattle.book_sums.proofs.shares.Shares.total_between.Goals as goal

pub sum_before-requires : goal.sum_before-requires
sum_before-requires c = subst (λ l. c.end_near-end.result ≤ length l) (c.deref-2.ensures.value ∙ c.self.view_is) c.end_near-end.ensures.bound

pub sum_before-requires-2 : goal.sum_before-requires-2
sum_before-requires-2 c = subst (λ l. c.end_below-start.result ≤ length l) (c.deref.ensures.value ∙ c.self.view_is) c.end_below-start.ensures.bound

pub overflow_sub-result : goal.overflow_sub-result
overflow_sub-result c =
    let added = added_between c.args.first c.args.last c.end_below-start.result c.end_near-end.result c.deref.result.now c.deref-2.result.now c.self.inside.parts.items c.args.self.now
    c.requires c.deref.ensures.value c.deref-2.ensures.value c.self.view_is c.end_below-start.ensures.bound c.end_near-end.ensures.bound c.end_below-start.ensures.place c.end_near-end.ensures.place
    c.sum_before-2.result c.sum_before.result c.sum_before-2.ensures c.sum_before.ensures (subst (λ l. All IsPart l) c.self.view_is c.self.invariant.in_range) (omega arith) in
    omega (arith, ints, added.is, added.low, added.high)

pub returns-clause-value : goal.returns-clause-value
returns-clause-value c =
    let added = added_between c.args.first c.args.last c.end_below-start.result c.end_near-end.result c.deref.result.now c.deref-2.result.now c.self.inside.parts.items c.args.self.now
    c.requires c.deref.ensures.value c.deref-2.ensures.value c.self.view_is c.end_below-start.ensures.bound c.end_near-end.ensures.bound c.end_below-start.ensures.place c.end_near-end.ensures.place
    c.sum_before-2.result c.sum_before.result c.sum_before-2.ensures c.sum_before.ensures (subst (λ l. All IsPart l) c.self.view_is c.self.invariant.in_range) (omega arith) in
    omega (arith, ints, added.is, added.low, added.high)

pub returns-clause-low : goal.returns-clause-low
returns-clause-low c =
    let added = added_between c.args.first c.args.last c.end_below-start.result c.end_near-end.result c.deref.result.now c.deref-2.result.now c.self.inside.parts.items c.args.self.now
    c.requires c.deref.ensures.value c.deref-2.ensures.value c.self.view_is c.end_below-start.ensures.bound c.end_near-end.ensures.bound c.end_below-start.ensures.place c.end_near-end.ensures.place
    c.sum_before-2.result c.sum_before.result c.sum_before-2.ensures c.sum_before.ensures (subst (λ l. All IsPart l) c.self.view_is c.self.invariant.in_range) (omega arith) in
    omega (arith, ints, added.is, added.low, added.high)

pub returns-clause-high : goal.returns-clause-high
returns-clause-high c =
    let added = added_between c.args.first c.args.last c.end_below-start.result c.end_near-end.result c.deref.result.now c.deref-2.result.now c.self.inside.parts.items c.args.self.now
    c.requires c.deref.ensures.value c.deref-2.ensures.value c.self.view_is c.end_below-start.ensures.bound c.end_near-end.ensures.bound c.end_below-start.ensures.place c.end_near-end.ensures.place
    c.sum_before-2.result c.sum_before.result c.sum_before-2.ensures c.sum_before.ensures (subst (λ l. All IsPart l) c.self.view_is c.self.invariant.in_range) (omega arith) in
    omega (arith, ints, added.is, added.low, added.high)
