use Rattle.sql_create.specs.Made.{IsRefusal}
use Rattle.sql_create.proofs.CheckLemmas.{same_fault}
use Rattle.sql_create.proofs.making.make_bank.Goals as goal

pub returns-in_err-kept-clause-refused : goal.returns-in_err-kept-clause-refused
returns-in_err-kept-clause-refused g c =
    same_fault c.from_residual.result c.in_err-kept.field-0.0 (IsRefusal c.args.conn.now.schema c.args.world.now) c.from_residual.ensures.1 (c.in_err-kept.ensures.refused c.args.conn.now.schema)
