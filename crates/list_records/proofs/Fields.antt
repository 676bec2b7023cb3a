-- The fields of a record, taken one after another.
use Rattle.std.proofs.Common.{◌≡◌, ◌+◌, ℕ, zero, suc, List, [], ◌∷◌, ◌++◌, take, Some, None, Bor, map, ◌&&◌, refl, ap, arith}
use Rattle.std.specs.Cmp.Lexicographic.{pointwise}
use Rattle.std.specs.Str.{bytes_eq}
use Rattle.csv.specs.Records.{field_at}
use Rattle.list_records.specs.Records.{is_record}

pub take-field : (fs : List (List ℕ)) (i : ℕ) (f : List ℕ) → Some f ≡ field_at fs i → take (i + 1) fs ≡ take i fs ++ f ∷ []
unfolding field_at
take-field [] i f is = cc
take-field (g ∷ fs) zero f is = let same : f ≡ g = cc in rw same refl
take-field (g ∷ fs) (suc i) f is = let next : suc i + 1 ≡ suc (i + 1) = omega arith in rw next (ap (λ l. g ∷ l) (take-field fs i f is))

pub take-fields : (fs : List (List ℕ)) (i : ℕ) → None ≡ field_at fs i → take i fs ≡ fs
unfolding field_at
take-fields [] zero is = refl
take-fields [] (suc i) is = refl
take-fields (g ∷ fs) zero is = cc
take-fields (g ∷ fs) (suc i) is = ap (λ l. g ∷ l) (take-fields fs i is)

-- fields that are compared through their references
pub same_fields : (xs ys : List (Bor (List ℕ))) → pointwise (λ x y. bytes_eq x.now y.now) xs ys ≡ is_record (map (λ n. n.now) xs) (map (λ f. f.now) ys)
same_fields [] [] = refl
same_fields [] (y ∷ ys) = refl
same_fields (x ∷ xs) [] = refl
same_fields (x ∷ xs) (y ∷ ys) = ap (λ b. bytes_eq x.now y.now && b) (same_fields xs ys)
