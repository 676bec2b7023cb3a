use Rattle.list_opening.proofs.SetLemmas.{AreTaken}
use Rattle.list_opening.proofs.item_sets.item_sets.Given as goal

abbrev pub invariant-loop-i : goal.invariant-loop-i
invariant-loop-i l = AreTaken l.rows l.i l.sets.items l.members.items
