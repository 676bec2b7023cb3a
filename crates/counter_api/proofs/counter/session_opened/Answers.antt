use Rattle.std.proofs.Common.{rules, refl}
use Rattle.counter_api.proofs.CarriedOut.{always, responds}
use Rattle.counter_api.proofs.counter.session_opened.Goals as goal

pub returns : goal.returns
returns g c =
    responds _ _ _ c.begin.result c.responded.result (search rules) (λ honest w holds. always c.begin.result refl) c.responded.ensures
