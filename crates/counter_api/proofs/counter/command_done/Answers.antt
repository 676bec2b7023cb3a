use Rattle.std.proofs.Common.{rules, lt-ltb}
use Rattle.counter_api.proofs.CarriedOut.{of_done, responds}
use Rattle.counter_api.proofs.counter.command_done.Goals as goal

pub returns : goal.returns
returns g c =
    let room = c.decide_policy.ensures.room in
    responds _ _ _ c.decide_policy.result c.responded.result (search rules)
    (λ honest w holds. of_done c.decide_policy.result (λ less. lt-ltb _ _ less) (room honest w holds)) c.responded.ensures
