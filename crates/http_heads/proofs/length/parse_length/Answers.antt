use Rattle.std.proofs.Common.{◌≡◌, ◌<◌, min, true, ◌&&◌, length, get_or, Some, sym, ap, ◌∙◌, arith}
use Rattle.std.specs.List.{list_all}
use Rattle.std.specs.Char.{is_ascii_digit, digit_value}
use Rattle.std.specs.Str.Parse.{digits_value}
use Rattle.std.proofs.lemmas.List.{take_all}
use Rattle.std.proofs.lemmas.List.Folds.{list_all_more, list_all_at}
use Rattle.std.proofs.lemmas.Bool.{and_right, and_from, lt-ltb, cond-true, cond-false}
use Rattle.std.proofs.lemmas.Bool.Decides.{nat_tests}
use Rattle.std.proofs.lemmas.Int.Digits.{digits_value_more}
use Rattle.http_heads.specs.Framing.{is_digits}
use Rattle.http_heads.proofs.length.parse_length.Goals as goal

pub returns-then-not-is_ascii_digit : goal.returns-then-not-is_ascii_digit
returns-then-not-is_ascii_digit c =
    let fails = list_all_at is_ascii_digit c.args.value.now c.loop-digit.digit-index 0 c.loop-digit-test.true (sym c.if-not-is_ascii_digit.ensures.value) in
    sym (cond-false _ _ _ (and_right _ _ fails))

pub loop-digit-preserved : goal.loop-digit-preserved
loop-digit-preserved c =
    let digit : digit_value (get_or c.args.value.now c.loop-digit.digit-index 0) ≡ c.from.result = grind (arith, nat_tests) in
    let here : is_ascii_digit (get_or c.args.value.now c.loop-digit.digit-index 0) ≡ true = sym c.if-not-is_ascii_digit.ensures.value in (
      omega (arith, digits_value_more 10 c.args.value.now _ c.loop-digit-test.true, c.min-len.ensures, c.loop-digit.invariant.0),
      list_all_more is_ascii_digit _ _ 0 c.loop-digit-test.true ∙ (λ k. c.loop-digit.invariant.1 k && here k),
    )

pub returns : goal.returns
returns c =
    let ds = c.args.value.now in
    let all = take_all c.loop-digit.digit-index ds c.loop-digit-test.false in
    let value : c.loop-digit.len ≡ min (digits_value 10 ds) 1025 = c.loop-digit.invariant.0 ∙ ap (λ l. min (digits_value 10 l) 1025) all in
    let digits : list_all is_ascii_digit ds ≡ true = sym (ap (list_all is_ascii_digit) all) ∙ c.loop-digit.invariant.1 in
    let some : 0 < length ds = grind (arith, nat_tests) in
    let number : is_digits ds ≡ true = and_from _ _ (lt-ltb _ _ some) digits in
    ap Some value ∙ sym (cond-true _ _ _ number)
