use Rattle.sql_schema.proofs.StepChains.{read_answered, read_stopped}
use Rattle.sql_schema.proofs.queries.listed.Goals as goal

pub returns-clause-reads : goal.returns-clause-reads
returns-clause-reads g c = read_answered c.in_ok-rows.ensures.reads c.read_rows.result

pub returns-in_err-rows-clause-reads : goal.returns-in_err-rows-clause-reads
returns-in_err-rows-clause-reads g c = read_stopped c.from_residual.ensures.0 c.plain_rows.ensures.reads
