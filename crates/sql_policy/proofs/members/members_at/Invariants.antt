use Rattle.std.proofs.Common.{◌≡◌, map, take}
use Rattle.sql_policy.proofs.members.members_at.Given as goal

abbrev pub invariant-loop-row : goal.invariant-loop-row
invariant-loop-row l = l.list.items ≡ map (λ m. m.member) (take l.row-index l.rows)
