-- the parts so far
use Rattle.std.specs.List.{AllWithin}
use Rattle.book_range.specs.Named.{IsNamed}
use Rattle.book_range.proofs.named.are_named.Given as goal

abbrev pub invariant-loop-index : goal.invariant-loop-index
invariant-loop-index l = AllWithin (IsNamed l.world l.named) l.parts 0 l.index
