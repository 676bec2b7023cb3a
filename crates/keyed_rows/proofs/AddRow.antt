-- What a row written at its place does to a list: one more row, and the order is kept.
use Rattle.std.proofs.Common.{◌≡◌, ℕ, ◌+◌, ◌<◌, ◌≤◌, suc, List, [], ◌∷◌, length, get_or, Bool, true, false, cond, refl, ap, arith, sym, ◌∙◌, subst}
use Rattle.std.specs.Prelude.{nat_le, Result, IsOk, is_ok}
use Rattle.std.specs.List.{prefix_len, insert}
use Rattle.std.specs.List.Sorted.{IsNonDecreasingBy}
use Rattle.std.proofs.lemmas.Bool.Decides.{nat_tests}
use Rattle.std.proofs.lemmas.List.Sums.{prefix_len_passes, prefix_len_stops, prefix_len-le-length}
use Rattle.std.proofs.lemmas.List.Sorted.{IsNonDecreasingBy-insert}
use Rattle.keyed_rows.specs.Ordered.{add_row}

-- the place after the rows at the front whose keys are not above the row's
abbrev pub place : {T : Type 0} → (T → ℕ) → T → List T → ℕ
place key e xs = prefix_len (λ x. nat_le (key x) (key e)) xs

-- the insertion is an insert at that place
pub insert-place : {T : Type 0} (key : T → ℕ) (e : T) (xs : List T) → insert xs (place key e xs) e ≡ add_row key e xs
insert-place key e [] = refl
insert-place key e (x ∷ xs) = go (nat_le (key x) (key e)) (insert-place key e xs)
  where
    go : (b : Bool) → insert xs (place key e xs) e ≡ add_row key e xs →
        insert (x ∷ xs) (cond b (1 + place key e xs) 0) e ≡ cond b (x ∷ add_row key e xs) (e ∷ x ∷ xs)
    go true rest =
        let one : 1 + place key e xs ≡ suc (place key e xs) = omega arith in
        ap (λ n. insert (x ∷ xs) n e) one ∙ ap (λ ys. x ∷ ys) rest
    go false rest = refl

-- there is one row more
pub length-add_row : {T : Type 0} (key : T → ℕ) (e : T) (xs : List T) → length (add_row key e xs) ≡ length xs + 1
length-add_row key e [] = omega arith
length-add_row key e (x ∷ xs) = go (nat_le (key x) (key e)) (length-add_row key e xs)
  where
    go : (b : Bool) → length (add_row key e xs) ≡ length xs + 1 → length (cond b (x ∷ add_row key e xs) (e ∷ x ∷ xs)) ≡ length (x ∷ xs) + 1
    go true rest = omega (arith, rest)
    go false rest = omega arith

le_from : (a b : ℕ) → nat_le a b ≡ true → a ≤ b
le_from a b e = grind (arith, nat_tests)

above_from : (a b : ℕ) → nat_le a b ≡ false → b < a
above_from a b e = grind (arith, nat_tests)

-- keys that do not fall along the rows do not fall along them with one more
pub IsNonDecreasingBy-add_row : {T : Type 0} (key : T → ℕ) (e : T) (xs : List T) → IsNonDecreasingBy key xs → IsNonDecreasingBy key (add_row key e xs)
IsNonDecreasingBy-add_row {T = T} key e xs sorted =
    let p : T → Bool = λ x. nat_le (key x) (key e) in
    subst (IsNonDecreasingBy key) (insert-place key e xs) (IsNonDecreasingBy-insert key xs (place key e xs) e sorted (prefix_len-le-length p xs)
    (λ k d before. le_from (key (get_or xs k d)) (key e) (prefix_len_passes p xs k d before))
    (λ k d after in_xs.
    let stops = above_from (key (get_or xs (place key e xs) d)) (key e) (prefix_len_stops p xs d (omega arith)) in
    let order = sorted (place key e xs) k d after in_xs in
    omega (arith, stops, order)))

-- what an insert at the place found in an equal list gives
pub placed : {T : Type 0} (key : T → ℕ) (e : T) (bound : ℕ) (xs seen ys : List T) (n : ℕ) → ys ≡ insert xs n e → n ≡ prefix_len (λ x. nat_le (key x) bound) seen
    → bound ≡ key e → seen ≡ xs → ys ≡ add_row key e xs
placed key e bound xs seen ys n is at bound_is same =
    is ∙ ap (λ m. insert xs m e) (at ∙ ap (λ b. prefix_len (λ x. nat_le (key x) b) seen) bound_is ∙ ap (place key e) same) ∙ insert-place key e xs

-- and the order is kept
pub placed_in_order : {T : Type 0} (key : T → ℕ) (e : T) (xs ys : List T) → ys ≡ add_row key e xs → IsNonDecreasingBy key xs → IsNonDecreasingBy key ys
placed_in_order key e xs ys is sorted = subst (IsNonDecreasingBy key) (sym is) (IsNonDecreasingBy-add_row key e xs sorted)

-- an insert that went well
pub ok_items : {T A E : Type 0} (r : Result A E) (new old : List T) (ys : List T) → IsOk r → ys ≡ cond (is_ok r) new old → ys ≡ new
ok_items r new old ys went is = is ∙ ap (λ b. cond b new old) went
