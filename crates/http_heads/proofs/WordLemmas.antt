-- The elements of a list value, one comma at a time.
use Rattle.std.proofs.Common.{◌≡◌, ◌≢◌, ℕ, zero, suc, ◌<◌, Bool, true, false, cond, ◌||◌, List, [], ◌∷◌, length, map, get_or, take, drop, refl, ap, ◌∙◌, arith}
use Rattle.std.specs.Prelude.{codes}
use Rattle.std.specs.List.{list_any}
use Rattle.std.proofs.lemmas.Bool.{eq-eqb, ne_eqb}
use Rattle.httparse.specs.Grammar.{trim_ows}
use Rattle.http_heads.specs.Fields.{eq_ignore_case}
use Rattle.http_heads.specs.Words.{cons_first, split_commas, words}

abbrev pub is_close : List ℕ → Bool
is_close word = eq_ignore_case word (codes "close")

-- no comma stands before i
abbrev pub NoCommaBefore : List ℕ → ℕ → Type 0
NoCommaBefore xs i = (k : ℕ) → k < i → get_or xs k 0 ≢ 44

-- the first piece ends at the first comma
split_at : (xs : List ℕ) (i : ℕ) → i < length xs → get_or xs i 0 ≡ 44 → NoCommaBefore xs i → split_commas xs ≡ take i xs ∷ split_commas (drop (suc i) xs)
split_at [] i inside comma before = absurd (omega arith)
split_at (b ∷ bs) zero inside comma before =
    ap (λ t. cond t ([] ∷ split_commas bs) (cons_first b (split_commas bs))) (eq-eqb b 44 comma)
split_at (b ∷ bs) (suc i) inside comma before =
    ap (λ t. cond t ([] ∷ split_commas bs) (cons_first b (split_commas bs))) (ne_eqb b 44 (before 0 (omega arith)))
    ∙ ap (cons_first b) (split_at bs i (omega arith) comma (λ k below. before (suc k) (omega arith)))

split_whole : (xs : List ℕ) → NoCommaBefore xs (length xs) → split_commas xs ≡ xs ∷ []
split_whole [] none = refl
split_whole (b ∷ bs) none =
    ap (λ t. cond t ([] ∷ split_commas bs) (cons_first b (split_commas bs))) (ne_eqb b 44 (none 0 (omega arith)))
    ∙ ap (cons_first b) (split_whole bs (λ k below. none (suc k) (omega arith)))

pub any_at : (xs : List ℕ) (i : ℕ) → i < length xs → get_or xs i 0 ≡ 44 → NoCommaBefore xs i
    → list_any is_close (words xs) ≡ (is_close (trim_ows (take i xs)) || list_any is_close (words (drop (suc i) xs)))
unfolding words
any_at xs i inside comma before = ap (λ ws. list_any is_close (map trim_ows ws)) (split_at xs i inside comma before)

or-false : (x : Bool) → (x || false) ≡ x
or-false true = refl
or-false false = refl

pub any_whole : (xs : List ℕ) → NoCommaBefore xs (length xs) → list_any is_close (words xs) ≡ is_close (trim_ows xs)
unfolding words
any_whole xs none = ap (λ ws. list_any is_close (map trim_ows ws)) (split_whole xs none) ∙ or-false (is_close (trim_ows xs))
