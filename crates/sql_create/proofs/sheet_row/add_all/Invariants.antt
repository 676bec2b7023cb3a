use Rattle.std.specs.Prelude.{⊤}
use Rattle.std.proofs.Common.{Ok, take}
use Rattle.money.specs.declared.fault.Fault.{Fault}
use Rattle.sql_schema.specs.Steps.{Step}
use Rattle.sql_create.specs.Filled.{with_all}
use Rattle.sql_create.proofs.sheet_row.add_all.Given as goal

abbrev pub invariant-loop-row : goal.invariant-loop-row
invariant-loop-row g l = Step {X = ⊤} {E = Fault} g.S.Store l.fn.tx.conn l.tx.conn (with_all g.R.SheetRow.with_it (take l.row-index l.rows)) (Ok tt)
