-- Where nothing is held, there is room for the longest message.
use Rattle.std.proofs.Common.{ap, arith, length}
use Rattle.std.proofs.lemmas.Bool.Decides.{nat_tests}
use Rattle.counter_loop.proofs.client.Client.holds_part.Goals as goal

pub returns : goal.returns
returns g c = λ yes none.
    let e = ap length none in
    grind (arith, nat_tests)
