-- Rows made anew from the front, as far as a loop has come.
use Rattle.std.proofs.Common.{◌≡◌, ◌==◌, Bool, true, false, ℕ, ◌+◌, ◌<◌, ◌≤◌, zero, suc, List, [], ◌∷◌, map, length, get_or, refl, ap, arith, sym, ◌∙◌, add-one}
use Rattle.std.proofs.lemmas.List.{length-map}
use Rattle.std.specs.Prelude.{if◌then◌else◌}
use Rattle.std.specs.List.Sorted.{IsNonDecreasingBy}
use Rattle.std.proofs.Math.ListN.{set}

abbrev pub made_to : {X : Type 0} → (X → X) → ℕ → List X → List X
made_to f zero xs = xs
made_to f (suc i) [] = []
made_to f (suc i) (x ∷ xs) = f x ∷ made_to f i xs

pub made_to-all : {X : Type 0} (f : X → X) (i : ℕ) (xs : List X) → length xs ≤ i → made_to f i xs ≡ map f xs
made_to-all f zero [] h = refl
made_to-all f zero (x ∷ xs) h = absurd (omega arith)
made_to-all f (suc i) [] h = refl
made_to-all f (suc i) (x ∷ xs) h = ap (λ ys. f x ∷ ys) (made_to-all f i xs (omega arith))

made_to-suc : {X : Type 0} (f : X → X) (i : ℕ) (xs : List X) (d : X) → i < length xs → set (made_to f i xs) i (f (get_or (made_to f i xs) i d)) ≡ made_to f (suc i) xs
made_to-suc f i [] d h = absurd (omega arith)
made_to-suc f zero (x ∷ xs) d h = refl
made_to-suc f (suc i) (x ∷ xs) d h = ap (λ ys. f x ∷ ys) (made_to-suc f i xs d (omega arith))

-- one more row was made anew
pub made_more : {X : Type 0} (f : X → X) (i : ℕ) (xs ys : List X) (d z : X) → i < length xs → ys ≡ made_to f i xs → z ≡ f (get_or ys i d) → set ys i z ≡ made_to f (i + 1) xs
made_more f i xs ys d z h is made =
    ap (λ v. set ys i v) made
    ∙ ap (λ zs. set zs i (f (get_or zs i d))) is
    ∙ made_to-suc f i xs d h
    ∙ ap (λ n. made_to f n xs) (sym (add-one i))

-- rows that keep their keys keep their order
key-made : {X : Type 0} (n : X → ℕ) (f : X → X) → ((x : X) → n (f x) ≡ n x) → (xs : List X) (i : ℕ) (d : X) → i < length xs → n (get_or (map f xs) i d) ≡ n (get_or xs i d)
key-made n f same [] i d h = absurd (omega arith)
key-made n f same (x ∷ xs) zero d h = same x
key-made n f same (x ∷ xs) (suc i) d h = key-made n f same xs i d (omega arith)

below : (a b c d : ℕ) → a ≡ c → b ≡ d → c ≤ d → a ≤ b
below a b c d p q h = omega arith

pub IsNonDecreasingBy-made : {X : Type 0} (n : X → ℕ) (f : X → X) → ((x : X) → n (f x) ≡ n x) → (xs : List X) → IsNonDecreasingBy n xs → IsNonDecreasingBy n (map f xs)
IsNonDecreasingBy-made n f same xs in_order = λ i j d le within.
    let inside : j < length xs = simp length-map at within in
    let first : i < length xs = omega arith in
    below _ _ _ _ (key-made n f same xs i d first) (key-made n f same xs j d inside) (in_order i j d le inside)

-- a row made anew where it is of a key, and left alone where not, keeps its key
pub key-changed : {X : Type 0} (key : X → ℕ) (made : X → X) (k : ℕ) → ((x : X) → key (made x) ≡ key x) → (x : X) → key (if key x == k then made x else x) ≡ key x
key-changed key made k same x = by (key x == k)
  where
    by : (b : Bool) → key (if b then made x else x) ≡ key x
    by true = same x
    by false = refl
