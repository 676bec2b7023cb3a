use Rattle.std.proofs.Common.{arith}
use Rattle.std.proofs.lemmas.Int.{ints}
use Rattle.book_sums.proofs.SharesSteps.{sum_looked_up}
use Rattle.book_sums.proofs.shares.Shares.sum_before.Goals as goal

pub overflow_add-result : goal.overflow_add-result
overflow_add-result c =
    let sum = sum_looked_up c.args.place c.deref.result.now c.self.inside.parts.items c.args.self.now c.self.inside.sums.items c.index.result.now c.sum_of.result
    c.deref.ensures.value c.self.view_is c.self.invariant c.requires (omega arith) c.index.ensures c.sum_of.ensures.sum in
    omega (arith, ints, sum.low, sum.high)

pub returns : goal.returns
returns c =
    let sum = sum_looked_up c.args.place c.deref.result.now c.self.inside.parts.items c.args.self.now c.self.inside.sums.items c.index.result.now c.sum_of.result
    c.deref.ensures.value c.self.view_is c.self.invariant c.requires (omega arith) c.index.ensures c.sum_of.ensures.sum in
    omega (arith, ints, sum.is, sum.low, sum.high)
