use Rattle.std.proofs.Common.{sym, ◌∙◌}
use Rattle.counter_api.proofs.Handled.{done, kept_out}
use Rattle.counter_api.proofs.counter.Clerk.handled.Goals as goal

pub returns-in-Err-clause-done : goal.returns-in-Err-clause-done
returns-in-Err-clause-done g c = kept_out (g.G.Gate.users c.args.self.now.gate) _ c.args.message.now c.args.moment c.in-Err.fault c.requires c.in-Err.ensures.memory

pub returns-in-Ok-stated-clause-done : goal.returns-in-Ok-stated-clause-done
returns-in-Ok-stated-clause-done g c =
    done (g.G.Gate.users c.args.self.now.gate) _ _ c.args.message.now c.args.moment c.in-Ok-stated.request (sym c.in-Ok.ensures.stated ∙ c.in-Ok-stated.is) c.requires _ _ c.carried_out.result
    c.carried_out.ensures.carried
