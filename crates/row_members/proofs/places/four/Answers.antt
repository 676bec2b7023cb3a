use Rattle.std.proofs.Common.{arith}
use Rattle.std.proofs.lemmas.Int.{ints}
use Rattle.row_members.proofs.EightPlaces.{eight_stand}
use Rattle.row_members.proofs.places.four.Goals as goal

pub returns-clause-some : goal.returns-clause-some
returns-clause-some c =
    eight_stand _ _ _ _ _ _ _ _ _ c.told-members (omega (arith, ints)) (omega (arith, ints)) (omega (arith, ints)) (omega (arith, ints)) (omega (arith, ints)) (omega (arith, ints)) (omega (arith, ints)) (omega (arith, ints))
