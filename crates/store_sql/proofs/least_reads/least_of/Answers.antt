use Rattle.std.proofs.Common.{◌∙◌, ap, None, sym}
use Rattle.std.proofs.lemmas.List.{drop_all}
use Rattle.sql_schema.specs.Held.Sheet.{accounts as in_accounts}
use Rattle.sql_schema.proofs.StepChains.{answered, stopped, then_step}
use Rattle.store_sql.specs.LeastShown.{least_by}
use Rattle.store_sql.proofs.LeastLemmas.{least_of as least_held, next_so_far, of_next}
use Rattle.store_sql.proofs.LowerLemmas.{least_is}
use Rattle.store_sql.proofs.least_reads.least_of.Goals as goal

pub loop-row-preserved : goal.loop-row-preserved
loop-row-preserved g c = next_so_far c.loop-row.invariant c.in_ok-least.ensures.step c.least_among.ensures.open
    (λ clean inside s holds was. of_next s.accounts c.args.after c.loop-row.least c.in_ok-least.least (least_held s.accounts c.args.after c.args.held.now None) c.args.held.now c.loop-row.row-index c.row-item.result c.loop-row-test.true c.row-item.is
    (c.in_ok-least.ensures.found clean inside s holds ∙ ap (λ ms. least_by s.accounts c.args.after ms c.loop-row.least) c.members.ensures) was)

pub returns-in_err-least-clause-step : goal.returns-in_err-least-clause-step
returns-in_err-least-clause-step g c = stopped c.from_residual.ensures.0 (then_step c.loop-row.invariant.step c.least_among.ensures.step)

pub returns-clause-step : goal.returns-clause-step
returns-clause-step g c = answered c.loop-row.invariant.step _

pub returns-clause-found : goal.returns-clause-found
returns-clause-found g c clean inside s holds =
    sym (ap (λ hs. least_held s.accounts c.args.after hs c.loop-row.least) (drop_all c.loop-row.row-index c.args.held.now c.loop-row-test.false)) ∙ c.loop-row.invariant.found clean inside s holds ∙ least_is s.accounts (holds.rows in_accounts).ordered c.args.after c.args.held.now
