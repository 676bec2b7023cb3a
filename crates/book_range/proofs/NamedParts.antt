-- Parts that name rows: one part more, and what their rows name.
use Rattle.std.proofs.Common.{ℕ, ◌-◌, ◌+◌, ◌<◌, List, length, get_or, map, Bool, Contains, IsTrue, refl, arith, subst}
use Rattle.std.specs.List.{AllWithin}
use Rattle.std.specs.List.Sorted.{IsPermutation}
use Rattle.std.proofs.lemmas.List.{get_or_default}
use Rattle.std.proofs.lemmas.List.Elements.{AllWithin-more, at_read}
use Rattle.std.proofs.lemmas.List.Sorted.{Contains-permutation, IsPermutation-sym}
use Rattle.book_sums.proofs.Counting.{made_of, source_of}

-- a part that is the same as the one in front
pub same_as_before : {X : Type 0} (P : X → Type 0) (xs : List X) (i : ℕ) (before this : X) → 0 < i → i < length xs → (P (get_or xs (i - 1) before) → P (get_or xs i this)) → AllWithin P xs 0 i → AllWithin P xs 0 (i + 1)
same_as_before P xs i before this some below same all =
    AllWithin-more P xs 0 i all (at_read xs P i (get_or xs i this) below (get_or_default xs i this (get_or xs i this) below) (same (all (i - 1) before (omega arith) (omega (arith, some)))))

-- what is judged of the parts of rows, in any order, is judged of the rows
pub test_of_rows : {X Y : Type 0} (P : Y → Type 0) (part : X → Y) (rows : List X) (parts : List Y) (r : Bool) → IsPermutation (map part rows) parts →
    (IsTrue r → (y : Y) → Contains parts y → P y) × (((y : Y) → Contains parts y → P y) → IsTrue r) →
    (IsTrue r → (x : X) → Contains rows x → P (part x)) × (((x : X) → Contains rows x → P (part x)) → IsTrue r)
test_of_rows P part rows parts r moved says = (
  λ is x there. says.0 is (part x) (Contains-permutation (map part rows) parts (part x) moved (made_of part rows (map part rows) x refl there)),
  λ all. says.1
      (λ y there.
      let source = source_of part rows (map part rows) y refl (Contains-permutation parts (map part rows) y (IsPermutation-sym (map part rows) parts moved) there) in
      subst P source.1.1 (all source.0 source.1.0)),
)
