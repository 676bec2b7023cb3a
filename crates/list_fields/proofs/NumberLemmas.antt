-- Numbers in decimal, and what their texts parse to.
use Rattle.std.proofs.Common.{◌≡◌, ℕ, ◌<◌, ◌^◌, ◌&&◌, ◌||◌, Bool, true, false, List, [], ◌∷◌, length, get_or, Some, None, Result, Ok, Err, refl, sym, ap, ◌∙◌, arith, IsUtf8, cond}
use Rattle.std.specs.Int.{is_in_range}
use Rattle.std.specs.Result.{result_ok, is_ok}
use Rattle.std.specs.Str.{all_ascii_digits, bytes_eq}
use Rattle.std.specs.Str.Parse.{digits_value, ParsesUnsigned}
use Rattle.std.specs.Prelude.{nat_le, unwrap_or}
use Rattle.std.specs.Option.{is_some}
use Rattle.std.proofs.lemmas.Bool.{leb-true, false≢true}
use Rattle.std.proofs.lemmas.Fmt.{IsAscii-from_digits}
use Rattle.std.proofs.lemmas.Slice.Eq.{bytes_eq-Decides}
use Rattle.std.proofs.lemmas.Str.{IsUtf8-from_ascii}
use Rattle.std.proofs.lemmas.Str.Parse.{IsNumeralModel, numerals_by_value, tells_all_ascii_digits, parse_plain}
use Rattle.list_fields.specs.Numbers.{is_number, number_up_to}

own : IsNumeralModel (λ ds. all_ascii_digits ds ≡ true) (digits_value 10)
own = numerals_by_value _ tells_all_ascii_digits

-- a number may start so
abbrev pub starts : List ℕ → Bool
starts bs = is_in_range 49 57 (get_or bs 0 0) || bytes_eq bs (48 ∷ [])

is_zero : (bs : List ℕ) → bytes_eq bs (48 ∷ []) ≡ true → bs ≡ 48 ∷ []
is_zero bs is = (bytes_eq-Decides bs (48 ∷ [])).0 is

parts : (a d z : Bool) → (z ≡ true → d ≡ true) → ((a && d) || z) ≡ true → ((a || z) ≡ true) × (d ≡ true)
parts true true z zero is = (refl, refl)
parts true false z zero is = (refl, zero is)
parts false d z zero is = (is, zero is)

whole : (a d z : Bool) → (a || z) ≡ true → d ≡ true → ((a && d) || z) ≡ true
whole true d z start is = ap (λ b. b || z) is
whole false d z start is = start

number_parts : (bs : List ℕ) → is_number bs ≡ true → (starts bs ≡ true) × (all_ascii_digits bs ≡ true)
unfolding is_number
number_parts bs is = parts (is_in_range 49 57 (get_or bs 0 0)) (all_ascii_digits bs) (bytes_eq bs (48 ∷ [])) (λ zero. ap all_ascii_digits (is_zero bs zero)) is

number_from : (bs : List ℕ) → starts bs ≡ true → all_ascii_digits bs ≡ true → is_number bs ≡ true
unfolding is_number
number_from bs start is = whole (is_in_range 49 57 (get_or bs 0 0)) (all_ascii_digits bs) (bytes_eq bs (48 ∷ [])) start is

no_true : (b : Bool) → (b ≡ true → ⊥) → b ≡ false
no_true true never = absurd (never refl)
no_true false never = refl

has_byte : (bs : List ℕ) → starts bs ≡ true → 0 < length bs
has_byte [] h = absurd (false≢true h)
has_byte (b ∷ bs) h = omega arith

no_plus : (bs : List ℕ) → starts bs ≡ true → get_or bs 0 0 ≡ 43 → ⊥
no_plus [] h e = absurd (false≢true h)
no_plus (b ∷ bs) h e = false≢true (sym (ap (λ c. starts (c ∷ bs)) e) ∙ h)

none_up_to : (most : ℕ) (bs : List ℕ) → is_number bs ≡ false → None ≡ number_up_to most bs
none_up_to most bs is = sym (ap (λ b. cond (b && nat_le (digits_value 10 bs) most) (Some (digits_value 10 bs)) None) is)

-- a text that starts with no such digit
pub none_started : (most : ℕ) (bs : List ℕ) → false ≡ starts bs → None ≡ number_up_to most bs
none_started most bs not_so = none_up_to most bs (no_true _ (λ is. false≢true (not_so ∙ (number_parts bs is).0)))

-- bytes that are no text
pub none_in_bytes : (most : ℕ) (bs : List ℕ) → ¬ (IsUtf8 bs) → None ≡ number_up_to most bs
none_in_bytes most bs no_text =
    none_up_to most bs (no_true _ (λ is. no_text (IsUtf8-from_ascii bs (IsAscii-from_digits bs (own.to bs (number_parts bs is).1)))))

-- a text that parses to no number of 64 bits
pub none_parsed : {E : Type 0} (most : ℕ) (bs : List ℕ) (r : Result ℕ E) → ParsesUnsigned 64 10 bs r → true ≡ starts bs → most < 2 ^ 64 → false ≡ is_ok r → None ≡ number_up_to most bs
none_parsed most bs (Ok n) h start small e = absurd (false≢true e)
none_parsed most bs (Err x) h start small e = go (is_number bs) refl (nat_le (digits_value 10 bs) most) refl
  where
    go : (b : Bool) → is_number bs ≡ b → (low : Bool) → nat_le (digits_value 10 bs) most ≡ low → None ≡ cond (b && low) (Some (digits_value 10 bs)) None
    go false is low so = refl
    go true is false high = refl
    go true is true low =
        absurd (parse_plain own 64 bs (Err x) h (no_plus bs (sym start)) ((number_parts bs is).1, has_byte bs (sym start), omega (arith, leb-true _ _ low, small)))

value_parsed : {E : Type 0} (bs : List ℕ) (r : Result ℕ E) → ParsesUnsigned 64 10 bs r → true ≡ starts bs → (n : ℕ) → Some n ≡ result_ok r → (all_ascii_digits bs ≡ true) × (n ≡ digits_value 10 bs)
value_parsed {E} bs (Ok m) h start n e =
    let stated = parse_plain own {E = E} 64 bs (Ok m) h (no_plus bs (sym start)) in
    (stated.0.0, ap (λ o. unwrap_or o 0) e ∙ stated.1)
value_parsed {E} bs (Err x) h start n e = absurd (false≢true (sym (ap is_some e)))

-- and one that parses to a number
pub parsed : {E : Type 0} (most : ℕ) (bs : List ℕ) (r : Result ℕ E) → ParsesUnsigned 64 10 bs r → true ≡ starts bs → (n : ℕ) → Some n ≡ result_ok r
    → cond (nat_le n most) (Some n) None ≡ number_up_to most bs
parsed most bs r h start n e =
    let stated = value_parsed bs r h start n e in
    ap (λ m. cond (nat_le m most) (Some m) None) stated.1 ∙ sym (ap (λ b. cond (b && nat_le (digits_value 10 bs) most) (Some (digits_value 10 bs)) None) (number_from bs (sym start) stated.0))
