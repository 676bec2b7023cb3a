use Rattle.std.proofs.Common.{◌≡◌, ◌-◌, ◌≤◌, replicate}
use Rattle.std.specs.Io.KnownBytes.{Appends}
use Rattle.money.proofs.text.write_spaces.Given as goal

abbrev pub invariant-loop-left : goal.invariant-loop-left
invariant-loop-left g l = record {
  within : l.left ≤ l.count;
  sent : Appends (g.W.Write.contents l.fn.writer.stream) (g.W.Write.contents l.writer.stream) (replicate (l.count - l.left) 32);
  kept : l.writer.failures ≡ l.fn.writer.failures;
}

abbrev pub decreases-loop-left : goal.decreases-loop-left
decreases-loop-left g l = l.left
