use Rattle.std.proofs.Common.{◌≡◌, map, take}
use Rattle.book_kept.specs.Records.{kept_user_of}
use Rattle.sql_create.proofs.filling.kept_users.Given as goal

abbrev pub invariant-loop-row : goal.invariant-loop-row
invariant-loop-row l = l.users.items ≡ map (kept_user_of l.world) (take l.row-index l.world.policy.users)
