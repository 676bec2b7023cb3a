use Rattle.std.proofs.Common.{◌≡◌, List, take}
use Rattle.bank_policy.specs.SetRow.{SetRow}
use Rattle.keyed_rows.specs.Ordered.{AreDistinct}
use Rattle.sql_adopt.specs.ReadBack.{AreSetsOf}
use Rattle.sql_adopt.proofs.SetLemmas.{AreSoFar}
use Rattle.sql_adopt.proofs.item_sets.item_sets.Given as goal

abbrev pub invariant-loop-set : goal.invariant-loop-set
invariant-loop-set l = record {
  so_far : AreSoFar l.sets l.members l.set-index l.at l.list.items;
  same : (own : List SetRow) → AreSetsOf l.sets l.members own → AreDistinct l.sets → l.list.items ≡ take l.set-index own;
}
