use Rattle.sql_adopt.proofs.MadeLemmas.{AreMade}
use Rattle.sql_adopt.proofs.made.all_made.Given as goal

abbrev pub invariant-loop-row : goal.invariant-loop-row
invariant-loop-row g l = AreMade g.U.MadeOf.made l.rows l.row-index l.list.items
