use Rattle.std.proofs.Common.{◌≡◌, take}
use Rattle.sql_whole.proofs.triples.triples_of.Given as goal

abbrev pub invariant-loop-row : goal.invariant-loop-row
invariant-loop-row l = l.triples.items ≡ take l.row-index l.rows
