use Rattle.std.proofs.Common.{◌∙◌, ap}
use Rattle.std.proofs.lemmas.List.{get_or_default}
use Rattle.sql_schema.proofs.StepChains.{answered, read_step, stopped, then_step}
use Rattle.store_sql.specs.LeastShown.{least_by, lower}
use Rattle.store_sql.proofs.LeastLemmas.{by_next, next_so_far}
use Rattle.store_sql.proofs.least_reads.least_among.Goals as goal

pub loop-member-preserved : goal.loop-member-preserved
loop-member-preserved g c = next_so_far c.loop-member.invariant (read_step c.in_ok-found.ensures.reads) (λ clean. (c.least_in.ensures.reads.was_open clean).1)
    (λ clean inside s holds was. by_next s.accounts c.args.after c.loop-member.least c.lower_of-least.result (least_by s.accounts c.args.after c.args.members.now c.args.best) c.args.members.now c.loop-member.member-index _ c.loop-member-test.true
    (get_or_default c.args.members.now c.loop-member.member-index _ _ c.loop-member-test.true) (c.lower_of-least.ensures ∙ ap (lower c.loop-member.least) (c.in_ok-found.ensures.found clean s holds)) was)

pub returns-in_err-found-clause-step : goal.returns-in_err-found-clause-step
returns-in_err-found-clause-step g c = stopped c.from_residual.ensures.0 (then_step c.loop-member.invariant.step (read_step c.least_in.ensures.reads))

pub returns-clause-step : goal.returns-clause-step
returns-clause-step g c = answered c.loop-member.invariant.step _
