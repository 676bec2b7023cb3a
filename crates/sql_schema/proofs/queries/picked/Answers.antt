use Rattle.sql_schema.proofs.StepChains.{read_stopped}
use Rattle.sql_schema.proofs.queries.picked.Goals as goal

pub returns-in_err-rows-clause-reads : goal.returns-in_err-rows-clause-reads
returns-in_err-rows-clause-reads g c = read_stopped c.from_residual.ensures.0 c.plain_rows.ensures.reads

pub returns-in_err-read-in-Some-clause-reads : goal.returns-in_err-read-in-Some-clause-reads
returns-in_err-read-in-Some-clause-reads g c = read_stopped c.from_residual-in_err-read-in-Some.ensures.0 c.plain_rows.ensures.reads
