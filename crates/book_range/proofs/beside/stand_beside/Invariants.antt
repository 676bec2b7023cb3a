-- the rows so far
use Rattle.std.proofs.Common.{◌≡◌, map, take}
use Rattle.book_range.proofs.beside.stand_beside.Given as goal

abbrev pub invariant-loop-index : goal.invariant-loop-index
invariant-loop-index g l = take l.index (map (g.K.Beside.own_row) l.kept) ≡ take l.index l.rows
