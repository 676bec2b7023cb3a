use Rattle.sql_schema.proofs.StepChains.{read_stopped}
use Rattle.sql_policy.proofs.held.certified_row.Goals as goal

pub returns-in_err-members-clause-reads : goal.returns-in_err-members-clause-reads
returns-in_err-members-clause-reads g c = read_stopped c.from_residual.ensures.0 c.members_of.ensures.reads
