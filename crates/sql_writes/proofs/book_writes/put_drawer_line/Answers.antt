use Rattle.sql_schema.proofs.StepChains.{stopped, then_step}
use Rattle.sql_writes.proofs.book_writes.put_drawer_line.Goals as goal

pub returns-in_err-add_line : goal.returns-in_err-add_line
returns-in_err-add_line g c = record { step = stopped c.from_residual.ensures.0 c.add_line.ensures.step }

pub returns-in_err-set_teller : goal.returns-in_err-set_teller
returns-in_err-set_teller g c = record { step = stopped c.from_residual-in_err-set_teller.ensures.0 (then_step c.in_ok-add_line.ensures.step c.set_teller.ensures.step) }

pub returns : goal.returns
returns g c = record { step = then_step (then_step c.in_ok-add_line.ensures.step c.in_ok-set_teller.ensures.step) c.set_branch.ensures.step }
