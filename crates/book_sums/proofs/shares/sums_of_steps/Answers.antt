use Rattle.std.proofs.Common.{◌≡◌, ◌+◌, ◌*◌, ◌/◌, length, refl, arith, subst}
use Rattle.std.proofs.lemmas.Int.{ints}
use Rattle.book_sums.specs.Shares.{AreSumsOfSteps}
use Rattle.book_sums.proofs.SharesSteps.{AreSumsOfSteps-more, AreSumsOfSteps-none, sum_from}
use Rattle.book_sums.proofs.shares.sums_of_steps.Goals as goal

pub loop-step-init : goal.loop-step-init
loop-step-init c = record {
  sums = AreSumsOfSteps-none c.args.parts.now c.in_ok-sums.sums.items c.push.new.self.items c.in_ok-sums.ensures.items c.in_ok-push.ensures.items;
  so_far = refl;
}

pub overflow_add-sum : goal.overflow_add-sum
overflow_add-sum c =
    let sum = sum_from (c.loop-step.step * 64) ((c.loop-step.step + 1) * 64) c.args.parts.now _ c.sum_of-sum.result c.requires (omega arith) (omega arith) (omega arith)
    c.loop-step.invariant.so_far c.sum_of-sum.ensures.sum in
    omega (arith, ints, sum.low, sum.high)

pub loop-step-preserved : goal.loop-step-preserved
loop-step-preserved c =
    let sum = sum_from (c.loop-step.step * 64) ((c.loop-step.step + 1) * 64) c.args.parts.now _ c.sum_of-sum.result c.requires (omega arith) (omega arith) (omega arith)
    c.loop-step.invariant.so_far c.sum_of-sum.ensures.sum in
    record {
      sums = AreSumsOfSteps-more c.loop-step.step c.args.parts.now c.loop-step.sums.items _ _ c.loop-step.invariant.sums c.in_ok-push-2.ensures.items
          (omega (arith, ints, sum.is, sum.low, sum.high));
      so_far = omega (arith, ints, sum.is, sum.low, sum.high);
    }

pub returns : goal.returns
returns c =
    let all : c.loop-step.step ≡ length c.args.parts.now / 64 = omega arith in
    subst (λ n. AreSumsOfSteps n c.args.parts.now c.loop-step.sums.items) all c.loop-step.invariant.sums
