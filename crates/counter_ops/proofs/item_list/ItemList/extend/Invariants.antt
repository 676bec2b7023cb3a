use Rattle.std.proofs.Common.{◌≡◌, ◌++◌, take}
use Rattle.counter_ops.proofs.item_list.ItemList.extend.Given as goal

abbrev pub invariant-loop-item : goal.invariant-loop-item
invariant-loop-item l = l.self ≡ l.initial.self ++ take l.item-index l.items
