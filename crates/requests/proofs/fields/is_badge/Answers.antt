use Rattle.std.proofs.Common.{rules, tests, arith}
use Rattle.std.specs.Char.{is_ascii_graphic}
use Rattle.std.proofs.lemmas.Iterator.{YieldsList-from_slice}
use Rattle.std.proofs.lemmas.Iterator.Search.{all_from_yields_List}
use Rattle.std.proofs.lemmas.Bool.Decides.{nat_tests}
use Rattle.requests.specs.Fields.{is_badge}
use Rattle.requests.proofs.fields.is_badge.Goals as goal

pub returns-then-value-le-MAX_BADGE_LEN : goal.returns-then-value-le-MAX_BADGE_LEN
unfolding is_badge
returns-then-value-le-MAX_BADGE_LEN c =
    let all = all_from_yields_List is_ascii_graphic _ _ c.all.result c.all.ensures.ran (YieldsList-from_slice c.args.value.now cc) (λ x b q k. search (rules, tests)) in
    grind (arith, nat_tests)

pub returns-else-value-le-MAX_BADGE_LEN : goal.returns-else-value-le-MAX_BADGE_LEN
unfolding is_badge
returns-else-value-le-MAX_BADGE_LEN c = grind (arith, nat_tests)
