use Rattle.sql_schema.proofs.StepChains.{stopped, then_step}
use Rattle.sql_writes.proofs.posting_writes.put_posting.Goals as goal

pub returns-in_err-put_entry : goal.returns-in_err-put_entry
returns-in_err-put_entry g c = record { step = stopped c.from_residual.ensures.0 c.put_entry.ensures.step }

pub returns : goal.returns
returns g c = record { step = then_step c.in_ok-put_entry.ensures.step c.add_line.ensures.step }
