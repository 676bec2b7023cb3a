use Rattle.std.proofs.Common.{◌≡◌, map, take}
use Rattle.year_forward.proofs.carried.carried_rows.Given as goal

abbrev pub invariant-loop-record : goal.invariant-loop-record
invariant-loop-record g l = l.rows.items ≡ map g.U.CarriedForward.carried (take l.record-index l.records)
