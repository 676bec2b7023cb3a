use Rattle.std.proofs.Common.{◌≡◌, not, subst, sym}
use Rattle.std.specs.List.{list_any}
use Rattle.sql_schema.specs.Cells.{certifier_cells}
use Rattle.sql_schema.proofs.StepChains.{read_stopped}
use Rattle.sql_policy.specs.Tests.{is_certifier_of}
use Rattle.sql_policy.proofs.AnyLemmas.{any_shown}
use Rattle.sql_policy.proofs.certifiers.is_certifier.Goals as goal

pub returns-clause-found : goal.returns-clause-found
returns-clause-found g c clean s holds =
    subst (λ n. (not c.is_empty.result) ≡ list_any (is_certifier_of c.args.user n) s.certifiers) c.number.ensures
    (any_shown certifier_cells (is_certifier_of c.args.user c.number.result) s.certifiers c.in_ok-rows.rows.items c.in_ok-rows.rows.len c.is_empty.result c.is_empty.ensures (sym c.in_ok-rows.rows.ok.0) (c.in_ok-rows.ensures.rows clean s holds))

pub returns-in_err-rows-clause-reads : goal.returns-in_err-rows-clause-reads
returns-in_err-rows-clause-reads g c = read_stopped c.from_residual.ensures.0 c.select_certifier.ensures.reads
