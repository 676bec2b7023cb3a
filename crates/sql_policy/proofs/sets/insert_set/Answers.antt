use Rattle.sql_policy.proofs.sets.insert_set.Goals as goal

pub returns-clause-runs : goal.returns-clause-runs
returns-clause-runs g c clean inside = rw c.params-to_sql.ensures at (c.run.ensures.runs clean inside)
