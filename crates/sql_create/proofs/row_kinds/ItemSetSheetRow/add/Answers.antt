use Rattle.sql_schema.proofs.StepChains.{stopped, then_step}
use Rattle.sql_create.proofs.row_kinds.ItemSetSheetRow.add.Goals as goal

pub returns-in_err-add_set : goal.returns-in_err-add_set
returns-in_err-add_set g c = record { step = stopped c.from_residual.ensures.0 c.add_set.ensures.step }

pub returns : goal.returns
returns g c = record { step = then_step (rw c.set.ensures at c.in_ok-add_set.ensures.step) c.write_members.ensures.step }
