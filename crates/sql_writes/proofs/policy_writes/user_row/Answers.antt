use Rattle.sql_writes.proofs.RequiredLemmas.{found_row}
use Rattle.sql_schema.proofs.StepChains.{answered, read_step, stopped}
use Rattle.sql_writes.proofs.policy_writes.user_row.Goals as goal

pub returns-in_err-user_of-clause-step : goal.returns-in_err-user_of-clause-step
returns-in_err-user_of-clause-step g c = stopped c.from_residual.ensures.0 (read_step c.user_of.ensures.reads)

pub returns-clause-found : goal.returns-clause-found
returns-clause-found g c clean s holds = found_row c.in_ok-user_of.field-0 _ c.required.result c.required.ensures (c.in_ok-user_of.ensures.found clean s holds)

pub returns-clause-step : goal.returns-clause-step
returns-clause-step g c = answered (read_step c.in_ok-user_of.ensures.reads) c.required.result
