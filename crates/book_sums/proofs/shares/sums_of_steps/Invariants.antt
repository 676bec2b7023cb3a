use Rattle.std.proofs.Common.{◌≡◌, ◌*◌}
use Rattle.book_sums.specs.Shares.{AreSumsOfSteps, total_before}
use Rattle.book_sums.proofs.shares.sums_of_steps.Given as goal

abbrev pub invariant-loop-step : goal.invariant-loop-step
invariant-loop-step l = record {
  sums : AreSumsOfSteps l.step l.parts l.sums.items;
  so_far : l.sum ≡ total_before (l.step * 64) l.parts;
}
