use Rattle.std.proofs.Common.{◌≡◌, take}
use Rattle.std.specs.Io.KnownBytes.{Appends}
use Rattle.money.specs.Counted.{joined}
use Rattle.money.proofs.sending.write_parts.Given as goal

abbrev pub invariant-loop-part : goal.invariant-loop-part
invariant-loop-part g l = record {
  sent : Appends (g.W.Write.contents l.fn.writer.stream) (g.W.Write.contents l.writer.stream) (joined (take l.part-index l.parts));
  kept : l.writer.failures ≡ l.fn.writer.failures;
}
