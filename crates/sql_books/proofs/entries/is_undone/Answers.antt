use Rattle.std.proofs.Common.{sym}
use Rattle.sql_schema.proofs.StepChains.{read_stopped}
use Rattle.sql_books.specs.Picks.{undoes_entry}
use Rattle.sql_schema.proofs.PickedRows.{any_counted}
use Rattle.sql_books.proofs.entries.is_undone.Goals as goal

pub returns-clause-found : goal.returns-clause-found
returns-clause-found g c clean s holds =
    any_counted (undoes_entry c.args.branch c.args.number) s.entries c.in_ok-rows.rows.items c.in_ok-rows.rows.len c.is_empty.result c.is_empty.ensures (sym c.in_ok-rows.rows.ok.0) (c.in_ok-rows.ensures.rows clean s holds)

pub returns-in_err-rows-clause-reads : goal.returns-in_err-rows-clause-reads
returns-in_err-rows-clause-reads g c = read_stopped c.from_residual.ensures.0 c.select_undoing.ensures.reads
