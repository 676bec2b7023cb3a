use Rattle.std.proofs.Common.{◌==◌, sym}
use Rattle.sql_schema.proofs.StepChains.{read_stopped}
use Rattle.sql_schema.specs.Shown.{shown_set}
use Rattle.sql_policy.proofs.AnyLemmas.{any_shown}
use Rattle.sql_policy.proofs.sets.is_set.Goals as goal

pub returns-clause-found : goal.returns-clause-found
returns-clause-found g c clean s holds =
    any_shown shown_set (λ n. n == c.args.set) s.sets c.in_ok-rows.rows.items c.in_ok-rows.rows.len c.is_empty.result c.is_empty.ensures (sym c.in_ok-rows.rows.ok.0) (c.in_ok-rows.ensures.rows clean s holds)

pub returns-in_err-rows-clause-reads : goal.returns-in_err-rows-clause-reads
returns-in_err-rows-clause-reads g c = read_stopped c.from_residual.ensures.0 c.select_set.ensures.reads
