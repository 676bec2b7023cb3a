use Rattle.std.proofs.Common.{◌≡◌, map, take}
use Rattle.sql_schema.specs.Held.{without_slips}
use Rattle.sql_whole.proofs.slip_counts.each_without.Given as goal

abbrev pub invariant-loop-user : goal.invariant-loop-user
invariant-loop-user l = l.counts.items ≡ map without_slips (take l.user-index l.users)
