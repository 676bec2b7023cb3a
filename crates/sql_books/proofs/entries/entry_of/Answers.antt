use Rattle.std.proofs.Common.{slice_get, ap, arith, ◌∙◌}
use Rattle.sql_schema.specs.Cells.{entry_cells}
use Rattle.sql_schema.specs.Held.Sheet.{entries as in_entries}
use Rattle.sql_schema.proofs.PickedRows.{first_picked, found_fits}
use Rattle.sql_books.proofs.EntryLemmas.{entry_is, selects_entry}
use Rattle.sql_books.proofs.entries.entry_of.Goals as goal

pub picked-requires : goal.picked-requires
picked-requires g c = entry_is.2

pub returns-clause-found : goal.returns-clause-found
returns-clause-found g c clean s holds =
    c.picked.ensures.found clean _ (found_fits _ s.entries _ (holds.rows in_entries))
    (λ rows shown. ap (λ rs. slice_get rs 0) (selects_entry _ _ s c.args.branch c.args.number rows (omega (arith, c.ranges.number.fits)) holds (rw (c.params-to_sql.ensures, c.params-to_sql-2.ensures) at shown)) ∙ first_picked entry_cells _ s.entries)
