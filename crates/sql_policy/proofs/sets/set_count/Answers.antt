use Rattle.sql_schema.proofs.StepChains.{read_stopped}
use Rattle.sql_policy.proofs.sets.set_count.Goals as goal

pub returns-in_err-rows-clause-reads : goal.returns-in_err-rows-clause-reads
returns-in_err-rows-clause-reads g c = read_stopped c.from_residual.ensures.0 c.select_sets.ensures.reads
