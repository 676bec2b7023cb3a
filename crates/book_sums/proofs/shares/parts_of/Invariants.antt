use Rattle.std.proofs.Common.{◌≡◌, map, take}
use Rattle.std.specs.List.{All}
use Rattle.book_sums.specs.Shares.{IsPart}
use Rattle.book_sums.proofs.shares.parts_of.Given as goal

abbrev pub invariant-loop-row : goal.invariant-loop-row
invariant-loop-row g l = record {
  made : l.parts.items ≡ map (g.Q.Parts.part l.query) (take l.row-index l.rows);
  in_range : All IsPart l.parts.items;
}
