use Rattle.book_range.specs.Named.{IsNamed}
use Rattle.book_range.proofs.NamedParts.{same_as_before}
use Rattle.book_range.proofs.named.are_named.Goals as goal

pub loop-index-preserved-then-names_same : goal.loop-index-preserved-then-names_same
loop-index-preserved-then-names_same c =
    same_as_before (IsNamed c.args.world.now c.args.named) c.parts-parts.result.now c.loop-index.index _ _ c.if-index-gt0.true c.loop-index-test.true
    (c.names_same.ensures c.if-names_same.true c.args.world.now) c.loop-index.invariant
