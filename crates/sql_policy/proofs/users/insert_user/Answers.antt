use Rattle.sql_policy.proofs.users.insert_user.Goals as goal

pub returns-clause-runs : goal.returns-clause-runs
returns-clause-runs g c clean inside = rw (c.params-to_sql.ensures, c.params-to_sql-2.ensures, c.params-to_sql-3.ensures, c.params-to_sql-4.ensures, c.params-to_sql-5.ensures, c.params-to_sql-6.ensures, c.params-to_sql-7.ensures) at (c.run.ensures.runs clean inside)
