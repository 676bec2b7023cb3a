-- What a binary search by key over rows in order of key says of the rows that are there.
use Rattle.std.proofs.Common.{◌≡◌, ℕ, ◌<◌, ◌≤◌, List, [], ◌∷◌, length, get_or, Bool, true, false, Result, Ok, Err, IsTrue, ap, arith, sym, ◌∙◌, inl, inr}
use Rattle.std.specs.Prelude.{is_ok}
use Rattle.std.specs.Ordering.{nat_cmp, ordering_index}
use Rattle.std.specs.declared.cmp.Ordering.TheVariants.{Less, Equal, Greater}
use Rattle.std.specs.List.Sorted.{IsNonDecreasingBy, IsBinarySearchResult, IsSearchInRange}
use Rattle.std.proofs.lemmas.Bool.{cases_lt}
use Rattle.std.proofs.lemmas.Bool.Decides.{nat_tests}
use Rattle.std.proofs.lemmas.List.Elements.{Contains-get_or}
use Rattle.keyed_rows.specs.Ordered.{HasRow}

same_from_equal : (a b : ℕ) → nat_cmp a b ≡ Equal → a ≡ b
same_from_equal a b e = grind (arith, nat_tests)

not_less : (a b : ℕ) → nat_cmp a b ≡ Less → a ≡ b → ⊥
not_less a b e same = grind (arith, nat_tests)

not_greater : (a b : ℕ) → nat_cmp a b ≡ Greater → a ≡ b → ⊥
not_greater a b e same = grind (arith, nat_tests)

ranks_rise : (a b k : ℕ) → a ≤ b → ordering_index (nat_cmp a k) ≤ ordering_index (nat_cmp b k)
ranks_rise a b k below = grind (arith, nat_tests)

pub row_searched : {X : Type 0} (key : X → ℕ) (xs : List X) (k : ℕ) (r : Result ℕ ℕ) (t : Bool) → t ≡ is_ok r → IsSearchInRange r (length xs) → IsBinarySearchResult (λ y. nat_cmp (key y) k) xs r
    → IsNonDecreasingBy key xs → (IsTrue t → HasRow key xs k) × (HasRow key xs k → IsTrue t)
row_searched key [] k (Ok i) t is within found order = absurd (omega arith)
row_searched key (x ∷ xs) k (Ok i) t is within found order = (
  λ _. (get_or (x ∷ xs) i x, (Contains-get_or (x ∷ xs) i x within, same_from_equal _ _ (found x))),
  λ _. is,
)
row_searched key xs k (Err i) t is within parted order =
    let parts = parted (λ m n d before below. ranks_rise _ _ k (order m n d before below)) in (
      λ yes'. absurd (let e : false ≡ true = sym is ∙ yes' in cc),
      λ (row, there).
          let p = there.0.0 in
          let below : p < length xs = there.0.1 in
          let same : key (get_or xs p row) ≡ k = ap key there.0.2 ∙ there.1 in
          elim (cases_lt p i) [
            | inl before ↦ absurd (not_less _ _ (parts.0 p row (omega arith) before) same)
            | inr after ↦ absurd (not_greater _ _ (parts.1 p row after below) same)
          ],
    )
