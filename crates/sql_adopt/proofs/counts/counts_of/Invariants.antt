use Rattle.std.proofs.Common.{◌≡◌, take}
use Rattle.sql_adopt.specs.ReadBack.{counts_read_back}
use Rattle.sql_adopt.proofs.counts.counts_of.Given as goal

abbrev pub invariant-loop-row : goal.invariant-loop-row
invariant-loop-row l = l.list.items ≡ counts_read_back (take l.row-index l.counts) l.users
