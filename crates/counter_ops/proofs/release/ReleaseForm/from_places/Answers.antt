use Rattle.std.proofs.Common.{◌∙◌, ap, arith}
use Rattle.std.proofs.lemmas.Int.{ints}
use Rattle.row_members.proofs.EightPlaces.{eight_stand}
use Rattle.counter_ops.proofs.Released.{release_stands}
use Rattle.counter_ops.proofs.release.ReleaseForm.from_places.Goals as goal

pub returns-clause-some : goal.returns-clause-some
returns-clause-some c =
    let read = c.in_ok-from_row.ensures.some in (
      record { beneficiary = c.in_ok-beneficiary.ensures.some.0; operation = read.0 },
      release_stands c.in_ok-from_row.field-0 _ _ _ _ _ _ _ _ _ c.in_ok-releasable_form.ensures.some (ap (λ r. r.form) read.1) (ap (λ r. r.members) read.1)
          ∙ eight_stand _ _ _ _ _ _ _ _ _ c.told-members (omega (arith, ints, c.in_ok-beneficiary.ensures.some.1)) (omega (arith, ints)) (omega (arith, ints)) (omega (arith, ints)) (omega (arith, ints)) (omega (arith, ints)) (omega (arith, ints)) (omega (arith, ints)),
    )
