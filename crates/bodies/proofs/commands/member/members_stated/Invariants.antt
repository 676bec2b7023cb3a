use Rattle.std.proofs.Common.{◌≡◌, ◌++◌, length, drop, option_map, All}
use Rattle.serde_json.specs.View.{items_view}
use Rattle.policy_check.specs.Soundness.{IsMemberSound}
use Rattle.bodies.specs.Member.{members_of}
use Rattle.bodies.proofs.commands.member.members_stated.Given as goal

-- what was found, and then what the rest states, is what all of them state
abbrev pub invariant-loop-item : goal.invariant-loop-item
invariant-loop-item l =
    (option_map (λ rest. l.found.items ++ rest) (members_of (items_view (drop l.item-index l.items))) ≡ members_of (items_view l.items))
    × All IsMemberSound l.found.items
    × (length l.found.items ≡ l.item-index)
