-- The number of a session, of a release or of a slip, and what its text parses to.
use Rattle.std.proofs.Common.{◌≡◌, ℕ, ◌<◌, ◌≤◌, ◌&&◌, Bool, true, false, List, [], ◌∷◌, length, get_or, Some, Result, Ok, Err, refl, sym, ap, ◌∙◌, arith, IsUtf8}
use Rattle.std.specs.Int.{is_in_range}
use Rattle.std.specs.Result.{result_ok, is_ok}
use Rattle.std.specs.Str.{all_ascii_digits}
use Rattle.std.specs.Str.Parse.{digits_value, ParsesUnsigned}
use Rattle.std.specs.Prelude.{nat_le, unwrap_or}
use Rattle.std.specs.Option.{is_some}
use Rattle.std.proofs.lemmas.Bool.{and_from, and_parts, leb-true, le-leb, false≢true}
use Rattle.std.proofs.lemmas.Fmt.{IsAscii-from_digits}
use Rattle.std.proofs.lemmas.Str.{IsUtf8-from_ascii}
use Rattle.std.proofs.lemmas.Str.Parse.{IsNumeralModel, numerals_by_value, tells_all_ascii_digits, parse_plain}
use Rattle.requests.specs.Fields.{is_number}

own : IsNumeralModel (λ ds. all_ascii_digits ds ≡ true) (digits_value 10)
own = numerals_by_value _ tells_all_ascii_digits

no_true : (b : Bool) → (b ≡ true → ⊥) → b ≡ false
no_true true never = absurd (never refl)
no_true false never = refl

has_byte : (bs : List ℕ) → is_in_range 49 57 (get_or bs 0 0) ≡ true → 0 < length bs
has_byte [] h = absurd (false≢true h)
has_byte (b ∷ bs) h = omega arith

no_plus : (b : ℕ) → is_in_range 49 57 b ≡ true → b ≡ 43 → ⊥
no_plus b h e = false≢true (sym (ap (is_in_range 49 57) e) ∙ h)

pub number_parts : (bs : List ℕ) → is_number bs ≡ true → (all_ascii_digits bs ≡ true) × (digits_value 10 bs ≤ 999999999)
unfolding is_number
number_parts bs h =
    let parts = and_parts _ _ h in
    ((and_parts _ _ parts.0).1, leb-true _ _ parts.1)

-- a text that starts with no such digit
pub no_number_started : (bs : List ℕ) → false ≡ is_in_range 49 57 (get_or bs 0 0) → is_number bs ≡ false
unfolding is_number
no_number_started bs h = ap (λ b. b && all_ascii_digits bs && nat_le (digits_value 10 bs) 999999999) (sym h)

-- bytes that are no text
pub no_number_in_bytes : (bs : List ℕ) → ¬ (IsUtf8 bs) → is_number bs ≡ false
no_number_in_bytes bs no_text =
    no_true _ (λ h. no_text (IsUtf8-from_ascii bs (IsAscii-from_digits bs (own.to bs (number_parts bs h).0))))

-- a text that parses to no number of 32 bits
pub no_number_parsed : {E : Type 0} (bs : List ℕ) (r : Result ℕ E) → ParsesUnsigned 32 10 bs r
    → is_in_range 49 57 (get_or bs 0 0) ≡ true → false ≡ is_ok r → is_number bs ≡ false
no_number_parsed bs (Ok n) h starts e = absurd (false≢true e)
no_number_parsed bs (Err x) h starts e =
    no_true _ (λ k. parse_plain own 32 bs (Err x) h (no_plus _ starts) ((number_parts bs k).0, has_byte bs starts, omega (arith, (number_parts bs k).1)))

value_parsed : {E : Type 0} (bs : List ℕ) (r : Result ℕ E) → ParsesUnsigned 32 10 bs r
    → is_in_range 49 57 (get_or bs 0 0) ≡ true → (n : ℕ) → Some n ≡ result_ok r → (all_ascii_digits bs ≡ true) × (n ≡ digits_value 10 bs)
value_parsed {E} bs (Ok m) h starts n e =
    let stated = parse_plain own {E = E} 32 bs (Ok m) h (no_plus _ starts) in
    (stated.0.0, ap (λ o. unwrap_or o 0) e ∙ stated.1)
value_parsed {E} bs (Err x) h starts n e = absurd (false≢true (sym (ap is_some e)))

-- a text that parses to a number in its range
pub number_parsed : {E : Type 0} (bs : List ℕ) (r : Result ℕ E) → ParsesUnsigned 32 10 bs r
    → is_in_range 49 57 (get_or bs 0 0) ≡ true → (n : ℕ) → Some n ≡ result_ok r → n ≤ 999999999
    → (is_number bs ≡ true) × (n ≡ digits_value 10 bs)
unfolding is_number
number_parsed bs r h starts n e low =
    let stated = value_parsed bs r h starts n e in
    (and_from _ _ (and_from _ _ starts stated.0) (le-leb _ _ (omega (arith, stated.1, low))), stated.1)

-- a text that parses to a greater number
pub no_number_above : {E : Type 0} (bs : List ℕ) (r : Result ℕ E) → ParsesUnsigned 32 10 bs r
    → is_in_range 49 57 (get_or bs 0 0) ≡ true → (n : ℕ) → Some n ≡ result_ok r → 999999999 < n → is_number bs ≡ false
no_number_above bs r h starts n e high =
    let stated = value_parsed bs r h starts n e in
    no_true _ (λ k. omega (arith, stated.1, (number_parts bs k).1, high))
