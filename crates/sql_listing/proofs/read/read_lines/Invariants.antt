use Rattle.sql_listing.specs.Lines.{FitsOf, cells_of, line_of}
use Rattle.sql_listing.proofs.LineLemmas.{AreAdded}
use Rattle.sql_listing.proofs.read.read_lines.Given as goal

abbrev pub invariant-loop-row : goal.invariant-loop-row
invariant-loop-row l = AreAdded (cells_of l.kind) (FitsOf l.kind) (line_of l.kind) l.rows l.row-index l.initial.lines.items l.lines.items
