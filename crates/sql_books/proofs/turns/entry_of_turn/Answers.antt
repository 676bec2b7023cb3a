use Rattle.std.proofs.Common.{slice_get, ap, subst, ◌∙◌}
use Rattle.sqlite.specs.Held.{state}
use Rattle.sqlite.specs.State.{Shown}
use Rattle.sql_schema.specs.Cells.{entry_cells}
use Rattle.sql_schema.specs.Held.Sheet.{entries as in_entries}
use Rattle.sql_schema.proofs.PickedRows.{first_of_one, found_fits}
use Rattle.sql_books.specs.Texts.{turn_text}
use Rattle.sql_books.proofs.EntryLemmas.{selects_turn, turn_is}
use Rattle.sql_books.proofs.turns.entry_of_turn.Goals as goal

pub picked-requires : goal.picked-requires
picked-requires g c = turn_is.2

pub returns-clause-found : goal.returns-clause-found
returns-clause-found g c clean s holds =
    let old = state g.S.Store c.args.tx.now.conn.now in
    let new = state g.S.Store c.picked.new.tx.conn.now in
    c.picked.ensures.found clean _ (found_fits _ s.entries _ (holds.rows in_entries))
    (λ rows shown. ap (λ rs. slice_get rs 0) (selects_turn _ _ s c.args.account c.args.turn rows holds (subst (λ ps. Shown turn_text ps old new rows) c.in_ok-cells.ensures.cells (rw (c.params-to_sql.ensures, c.params-to_sql-2.ensures) at shown))) ∙ first_of_one entry_cells _ s.entries)
