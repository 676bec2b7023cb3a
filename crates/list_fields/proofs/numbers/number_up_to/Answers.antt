use Rattle.std.proofs.Common.{◌≡◌, ◌<◌, ◌^◌, ◌∙◌, Some, None, true, false, sym, rules, arith, IsUtf8}
use Rattle.std.specs.Prelude.{nat_le}
use Rattle.std.specs.Result.{is_ok, result_ok}
use Rattle.std.specs.Str.Parse.{ParsesUnsigned}
use Rattle.std.proofs.lemmas.Bool.{cond-false, cond-true}
use Rattle.std.proofs.lemmas.Bool.Decides.{nat_tests}
use Rattle.list_fields.proofs.NumberLemmas.{none_in_bytes, none_parsed, none_started, parsed}
use Rattle.list_fields.proofs.numbers.number_up_to.Goals as goal

pub returns-then-not-starts_number : goal.returns-then-not-starts_number
returns-then-not-starts_number c = none_started c.args.most c.args.field.now c.if-not-starts_number.ensures

pub returns-in_err-ok : goal.returns-in_err-ok
returns-in_err-ok c =
    let none : c.from_residual.result ≡ None = search rules in
    let text : ¬ (IsUtf8 c.args.field.now) = search rules in
    none ∙ none_in_bytes c.args.most c.args.field.now text

pub returns-in_err-number : goal.returns-in_err-number
returns-in_err-number c =
    let none : c.from_residual-in_err-number.result ≡ None = search rules in
    let stated : ParsesUnsigned 64 10 c.args.field.now c.parse.result = search rules in
    let failed : false ≡ is_ok c.parse.result = search rules in
    let small : c.args.most < 2 ^ 64 = omega arith in
    none ∙ none_parsed c.args.most c.args.field.now c.parse.result stated c.if-not-starts_number.ensures small failed

pub returns-then-number-most : goal.returns-then-number-most
returns-then-number-most c =
    let stated : ParsesUnsigned 64 10 c.args.field.now c.parse.result = search rules in
    let is : Some c.in_ok-number.number ≡ result_ok c.parse.result = search rules in
    let low : nat_le c.in_ok-number.number c.args.most ≡ true = grind (arith, nat_tests) in
    sym (cond-true _ _ _ low) ∙ parsed c.args.most c.args.field.now c.parse.result stated c.if-not-starts_number.ensures c.in_ok-number.number is

pub returns-else-number-most : goal.returns-else-number-most
returns-else-number-most c =
    let stated : ParsesUnsigned 64 10 c.args.field.now c.parse.result = search rules in
    let is : Some c.in_ok-number.number ≡ result_ok c.parse.result = search rules in
    let high : nat_le c.in_ok-number.number c.args.most ≡ false = grind (arith, nat_tests) in
    sym (cond-false _ _ _ high) ∙ parsed c.args.most c.args.field.now c.parse.result stated c.if-not-starts_number.ensures c.in_ok-number.number is
