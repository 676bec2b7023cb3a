use Rattle.std.proofs.Common.{arith}
use Rattle.book_sums.proofs.SharesCalls.{counted_between}
use Rattle.book_sums.proofs.shares.Shares.count_between.Goals as goal

pub overflow_sub-result : goal.overflow_sub-result
overflow_sub-result c =
    let counted = counted_between c.args.first c.args.last c.end_below.result c.end_at.result c.deref-2.result.now c.deref.result.now c.self.inside.parts.items c.args.self.now
    c.requires c.deref-2.ensures.value c.deref.ensures.value c.self.view_is c.end_below.ensures.bound c.end_at.ensures.bound c.end_below.ensures.place c.end_at.ensures.place in
    omega (arith, counted)

pub returns-clause-value : goal.returns-clause-value
returns-clause-value c =
    let counted = counted_between c.args.first c.args.last c.end_below.result c.end_at.result c.deref-2.result.now c.deref.result.now c.self.inside.parts.items c.args.self.now
    c.requires c.deref-2.ensures.value c.deref.ensures.value c.self.view_is c.end_below.ensures.bound c.end_at.ensures.bound c.end_below.ensures.place c.end_at.ensures.place in
    omega (arith, counted)
