-- The eight places of a row as a list.
use Rattle.std.proofs.Common.{◌≡◌, List, [], ◌∷◌, length, get_or, ℤ, pos, refl, arith}

-- a list of eight is its eight elements
eight_are : (m : List ℤ) → length m ≡ 8 → get_or m 0 (pos 0) ∷ get_or m 1 (pos 0) ∷ get_or m 2 (pos 0) ∷ get_or m 3 (pos 0) ∷ get_or m 4 (pos 0) ∷ get_or m 5 (pos 0) ∷ get_or m 6 (pos 0) ∷ get_or m 7 (pos 0) ∷ [] ≡ m
eight_are (_ ∷ _ ∷ _ ∷ _ ∷ _ ∷ _ ∷ _ ∷ _ ∷ []) _ = refl
eight_are m has_eight = absurd (omega arith)

-- eight numbers are the list of eight that has each at its place
pub eight_stand : (m : List ℤ) (a b c d e f g h : ℤ) → length m ≡ 8 → a ≡ get_or m 0 (pos 0) → b ≡ get_or m 1 (pos 0) → c ≡ get_or m 2 (pos 0) → d ≡ get_or m 3 (pos 0) → e ≡ get_or m 4 (pos 0) → f ≡ get_or m 5 (pos 0) → g ≡ get_or m 6 (pos 0) → h ≡ get_or m 7 (pos 0) → a ∷ b ∷ c ∷ d ∷ e ∷ f ∷ g ∷ h ∷ [] ≡ m
eight_stand m a b c d e f g h has_eight p q r s t u v w = cc (eight_are m has_eight)
