-- Where the difference is an amount of money, the two other tests decide.
use Rattle.std.proofs.Common.{◌≡◌, Bool, true, rules, arith, ℤ}
use Rattle.std.specs.Prelude.{◌&&◌, ◌+ℤ◌, neg_ℤ}
use Rattle.std.proofs.lemmas.Int.{ints}
use Rattle.money.specs.Range.{IsCents, is_cents}
use Rattle.drawers.specs.DrawerOff.{difference}
use Rattle.drawers.proofs.drawer_off.book_in_range.Goals as goal

test_from : (z : ℤ) → IsCents z → is_cents z ≡ true
test_from z in_range = grind (arith, ints)

the_third : (a b c result : Bool) → a ≡ true → b ≡ true → result ≡ c → result ≡ (a && b && c)
the_third a b c result first second is = grind (arith, first, second, is)

pub returns-then-differences_in_range : goal.returns-then-differences_in_range
returns-then-differences_in_range c =
    let drawers : c.is_between.result ≡ is_cents (c.args.book.now.drawers +ℤ neg_ℤ c.args.teller.now.cash) = search rules in
    the_third _ _ _ _ (test_from (difference c.args.form.now c.args.teller.now) (search rules)) (search rules) drawers
