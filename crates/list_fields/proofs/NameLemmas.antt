-- Bytes that are no text name nothing.
use Rattle.std.proofs.Common.{◌≡◌, ◌<◌, ◌&&◌, ℕ, List, [], ◌∷◌, Bool, true, false, cond, Option, Some, None, Result, Ok, Err, Bor, ap, ◌∙◌, option_map, refl, sym, subst, arith, length, IsUtf8}
use Rattle.std.specs.Prelude.{MatchResult, nat_le, nat_lt}
use Rattle.std.specs.List.{find, list_all}
use Rattle.std.specs.Str.{IsAscii, bytes_eq}
use Rattle.std.specs.Result.{result_ok}
use Rattle.std.proofs.lemmas.Bool.{and_parts, leb-true}
use Rattle.std.proofs.lemmas.Bool.Decides.{nat_tests}
use Rattle.std.proofs.lemmas.Slice.Eq.{bytes_eq-Decides}
use Rattle.std.proofs.lemmas.Str.{IsUtf8-from_ascii}
use Rattle.std.proofs.lemmas.Str.Ascii.{IsAscii-cons, IsAscii-nil}
use Rattle.bank_terms.specs.Procedure as procedure
use Rattle.list_fields.specs.Names as kind

small : (b : ℕ) → nat_lt b 128 ≡ true → b < 128
small b is = grind (arith, nat_tests)

ascii : (bs : List ℕ) → list_all (λ b. nat_lt b 128) bs ≡ true → IsAscii bs
ascii [] is = IsAscii-nil
ascii (b ∷ bs) is = let both = and_parts _ _ is in IsAscii-cons b bs (small b both.0) (ascii bs both.1)

no_name : {X : Type 0} (name : X → List ℕ) (all : List X) (bs : List ℕ) → list_all (λ x. list_all (λ b. nat_lt b 128) (name x)) all ≡ true → ¬ (IsUtf8 bs) → find (λ x. bytes_eq bs (name x)) all ≡ None
no_name name [] bs texts no_text = refl
no_name {X} name (x ∷ xs) bs texts no_text = go (bytes_eq bs (name x)) refl (no_name name xs bs (and_parts _ _ texts).1 no_text)
  where
    go : (b : Bool) → bytes_eq bs (name x) ≡ b → find (λ y. bytes_eq bs (name y)) xs ≡ None → cond b (Some x) (find (λ y. bytes_eq bs (name y)) xs) ≡ None
    go true is rest = absurd (no_text (subst IsUtf8 (sym ((bytes_eq-Decides bs (name x)).0 is)) (IsUtf8-from_ascii (name x) (ascii (name x) (and_parts _ _ texts).0))))
    go false is rest = rest

pub no_kind : (bs : List ℕ) → ¬ (IsUtf8 bs) → kind.kind_named bs ≡ None
no_kind bs no_text = no_name kind.name_of kind.kinds bs refl no_text

pub no_procedure : (bs : List ℕ) → ¬ (IsUtf8 bs) → procedure.procedure_named bs ≡ None
no_procedure bs no_text = no_name procedure.name_of procedure.procedures bs refl no_text

printable : (b : ℕ) → (nat_le 32 b && nat_le b 126) ≡ true → b < 128
printable b is = omega (arith, leb-true _ _ (and_parts (nat_le 32 b) (nat_le b 126) is).1)

all_printable : (bs : List ℕ) → list_all (λ b. nat_le 32 b && nat_le b 126) bs ≡ true → IsAscii bs
all_printable [] is = IsAscii-nil
all_printable (b ∷ bs) is = let both = and_parts _ _ is in IsAscii-cons b bs (printable b both.0) (all_printable bs both.1)

-- a name is text
pub name_is_text : (bs : List ℕ) → kind.is_name bs ≡ true → IsUtf8 bs
name_is_text bs is = IsUtf8-from_ascii bs (all_printable bs (and_parts (nat_lt 0 (length bs) && nat_le (length bs) 20) (list_all (λ b. nat_le 32 b && nat_le b 126) bs) is).1)

-- and is read as it is
pub name_read : {E : Type 0} (X : E → Type 0) (bs : List ℕ) (r : Result (Bor (List ℕ)) E) (o : Option (Bor (List ℕ))) → MatchResult r (λ s. (s.now ≡ bs) × IsUtf8 bs) (λ e. ¬ (IsUtf8 bs) × X e) → o ≡ result_ok r → kind.is_name bs ≡ true
    → option_map (λ s. s.now) o ≡ cond (kind.is_name bs) (Some bs) None
name_read X bs (Ok s) o stated is good = ap (option_map (λ s. s.now)) is ∙ ap Some stated.0 ∙ sym (ap (λ b. cond b (Some bs) None) good)
name_read X bs (Err e) o stated is good = absurd (stated.0 (name_is_text bs good))
