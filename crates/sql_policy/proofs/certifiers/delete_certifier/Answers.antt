use Rattle.sql_policy.proofs.certifiers.delete_certifier.Goals as goal

pub returns-clause-runs : goal.returns-clause-runs
returns-clause-runs g c clean inside = rw (c.params-to_sql.ensures, c.params-to_sql-2.ensures) at (c.run.ensures.runs clean inside)
