use Rattle.keyed_rows.proofs.Places.{PassedBelow}
use Rattle.keyed_rows.proofs.ordered.place_of.Given as goal

abbrev pub invariant-loop-row : goal.invariant-loop-row
invariant-loop-row g l = PassedBelow g.T.Keyed.key l.key l.rows l.row-index l.place
