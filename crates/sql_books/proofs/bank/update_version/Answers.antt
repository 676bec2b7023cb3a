use Rattle.sql_books.proofs.bank.update_version.Goals as goal

pub returns-clause-runs : goal.returns-clause-runs
returns-clause-runs g c clean inside = rw c.params-to_sql.ensures at (c.run.ensures.runs clean inside)
