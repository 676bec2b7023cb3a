use Rattle.std.proofs.Common.{arith}
use Rattle.sql_schema.specs.Cells.{release_cells}
use Rattle.sql_schema.specs.Held.Sheet.{releases as in_releases}
use Rattle.sql_schema.proofs.PickedRows.{found_fits}
use Rattle.sql_schema.proofs.StepLemmas.{first_shown}
use Rattle.sql_releases.proofs.ReleaseLemmas.{release_is, selects_release}
use Rattle.sql_releases.proofs.releases.release_of.Goals as goal

pub picked-requires : goal.picked-requires
picked-requires g c = release_is.2

pub returns-clause-found : goal.returns-clause-found
returns-clause-found g c clean s holds =
    c.picked.ensures.found clean _ (found_fits _ s.releases _ (holds.rows in_releases))
    (λ rows shown. first_shown release_cells _ rows (selects_release _ _ s c.args.user c.args.number rows (omega (arith, c.ranges.number.fits)) holds (rw (c.params-to_sql.ensures, c.params-to_sql-2.ensures) at shown)))
