use Rattle.sql_adopt.proofs.SetLemmas.{AreOwn}
use Rattle.sql_adopt.proofs.item_sets.own_members.Given as goal

abbrev pub invariant-loop-row : goal.invariant-loop-row
invariant-loop-row l = AreOwn l.set l.rows l.row-index l.own.items
