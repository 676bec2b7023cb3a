use Rattle.std.proofs.Common.{arith}
use Rattle.sql_schema.specs.Cells.{slip_cells}
use Rattle.sql_schema.specs.Held.Sheet.{slips as in_slips}
use Rattle.sql_schema.proofs.PickedRows.{found_fits}
use Rattle.sql_schema.proofs.StepLemmas.{first_shown}
use Rattle.sql_releases.proofs.SlipLemmas.{selects_slip, slip_is}
use Rattle.sql_releases.proofs.slips.slip_of.Goals as goal

pub picked-requires : goal.picked-requires
picked-requires g c = slip_is.2

pub returns-clause-found : goal.returns-clause-found
returns-clause-found g c clean s holds =
    c.picked.ensures.found clean _ (found_fits _ s.slips _ (holds.rows in_slips))
    (λ rows shown. first_shown slip_cells _ rows (selects_slip _ _ s c.args.user c.args.number rows (omega (arith, c.ranges.number.fits)) holds (rw (c.params-to_sql.ensures, c.params-to_sql-2.ensures) at shown)))
