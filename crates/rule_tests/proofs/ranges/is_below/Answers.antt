-- A number and what is added lie below another where the number lies below that less what is added.
use Rattle.std.proofs.Common.{◌≡◌, ℤ, ◌+ℤ◌, ◌-ℤ◌, arith, int_lt, to_z, of_z}
use Rattle.std.specs.Int.{w128}
use Rattle.std.proofs.lemmas.Int.{ints}
use Rattle.rule_tests.proofs.ranges.is_below.Goals as goal

moved : (x y b d n : ℤ) → x ≡ b → y ≡ n -ℤ d → int_lt x y ≡ int_lt (b +ℤ d) n
moved x y b d n left right = grind (arith, ints)

pub returns : goal.returns
returns c =
    let number : to_z w128 (of_z w128 c.args.number) ≡ c.args.number = omega (arith, ints) in
    let rest : to_z w128 (of_z w128 (to_z w128 (of_z w128 c.from.result) -ℤ to_z w128 (of_z w128 c.from-2.result))) ≡ c.args.least -ℤ c.args.added =
    omega (arith, ints, c.from.ensures, c.from-2.ensures) in
    moved _ _ c.args.number c.args.added c.args.least number rest
