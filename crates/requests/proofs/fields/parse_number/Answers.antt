use Rattle.std.proofs.Common.{rules, ◌≡◌, None, Some, sym, ◌∙◌, ap, false, IsUtf8}
use Rattle.std.specs.Result.{is_ok, result_ok}
use Rattle.std.specs.Str.Parse.{ParsesUnsigned}
use Rattle.std.proofs.lemmas.Bool.{cond-false, cond-true}
use Rattle.requests.proofs.NumberLemmas.{no_number_started, no_number_in_bytes, no_number_parsed, no_number_above, number_parsed}
use Rattle.requests.proofs.fields.parse_number.Goals as goal

pub returns-then-not-starts_number-clause-value : goal.returns-then-not-starts_number-clause-value
returns-then-not-starts_number-clause-value c = sym (cond-false _ _ _ (no_number_started _ c.if-not-starts_number.ensures))

pub returns-in_err-ok-clause-value : goal.returns-in_err-ok-clause-value
returns-in_err-ok-clause-value c =
    let none : c.from_residual.result ≡ None = search rules in
    let text : ¬ (IsUtf8 c.args.value.now) = search rules in
    none ∙ sym (cond-false _ _ _ (no_number_in_bytes _ text))

pub returns-in_err-number-clause-value : goal.returns-in_err-number-clause-value
returns-in_err-number-clause-value c =
    let none : c.from_residual-in_err-number.result ≡ None = search rules in
    let parsed : ParsesUnsigned 32 10 c.args.value.now c.parse.result = search rules in
    let failed : false ≡ is_ok c.parse.result = search rules in
    none ∙ sym (cond-false _ _ _ (no_number_parsed _ _ parsed (sym c.if-not-starts_number.ensures) failed))

pub returns-then-number-le-MAX_KEY-clause-value : goal.returns-then-number-le-MAX_KEY-clause-value
returns-then-number-le-MAX_KEY-clause-value c =
    let parsed : ParsesUnsigned 32 10 c.args.value.now c.parse.result = search rules in
    let stated : Some c.in_ok-number.number ≡ result_ok c.parse.result = search rules in
    let is = number_parsed _ _ parsed (sym c.if-not-starts_number.ensures) _ stated c.if-number-le-MAX_KEY.true in
    ap Some is.1 ∙ sym (cond-true _ _ _ is.0)

pub returns-else-number-le-MAX_KEY-clause-value : goal.returns-else-number-le-MAX_KEY-clause-value
returns-else-number-le-MAX_KEY-clause-value c =
    let parsed : ParsesUnsigned 32 10 c.args.value.now c.parse.result = search rules in
    let stated : Some c.in_ok-number.number ≡ result_ok c.parse.result = search rules in
    sym (cond-false _ _ _ (no_number_above _ _ parsed (sym c.if-not-starts_number.ensures) _ stated c.if-number-le-MAX_KEY.false))
