use Rattle.sql_schema.proofs.StepChains.{read_stopped}
use Rattle.store_sql.proofs.shown_reads.accounts_triples.Goals as goal

pub returns-in_err-held-clause-reads : goal.returns-in_err-held-clause-reads
returns-in_err-held-clause-reads g c = read_stopped c.from_residual.ensures.0 c.triples_of.ensures.reads
