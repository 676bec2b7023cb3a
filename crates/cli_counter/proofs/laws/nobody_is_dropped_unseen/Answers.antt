use Rattle.cli_counter.proofs.UnseenLemmas.{none_unseen}
use Rattle.cli_counter.proofs.laws.nobody_is_dropped_unseen.Goals as goal

pub returns : goal.returns
returns g c = λ n old new result some none. none_unseen _ g.S.StoreState.status (g.G.Gate.users c.args._gate.now) g.C.Clock.may_give c.args._visited.now n old new result some none
