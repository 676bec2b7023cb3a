-- At the place that was acquired, with its door and its system as they began.
use Rattle.cli_counter.proofs.PlaceLemmas.{at_place}
use Rattle.cli_counter.proofs.place.attend_at.Goals as goal

pub returns : goal.returns
returns g c =
    at_place _ g.S.StoreState.status _ g.C.Clock.may_give c.args.places c.args.at.place _ _ _ _ _ _ _ _ _ _ c.in-Ok.ensures.given c.in-Ok.ensures.recorded c.in-Ok.ensures.begun c.in-Ok.ensures.clock c.attend_door-parted.ensures
