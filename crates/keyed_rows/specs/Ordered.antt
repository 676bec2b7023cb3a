-- Where a row goes among rows that are ordered by a key.
use Rattle.std.specs.Prelude.{ℕ, ◌≡◌, ◌==◌, false, Contains, List, [], ◌∷◌, nat_le, if◌then◌else◌}
use Rattle.std.specs.List.{list_any}

-- The rows with one more, by straight insertion: it stands after the rows whose keys are not above its own, and so
-- after those of the same key (Knuth, The Art of Computer Programming, volume 3, 5.2.1).
abbrev pub add_row : {T : Type 0} → (T → ℕ) → T → List T → List T
add_row key e [] = e ∷ []
add_row key e (x ∷ xs) = if nat_le (key x) (key e) then x ∷ add_row key e xs else e ∷ x ∷ xs

-- no two of the keys are equal: none occurs again after itself (a primary key's uniqueness in Codd's relational model)
abbrev pub AreDistinct : List ℕ → Type 0
AreDistinct [] = Unit {0}
AreDistinct (k ∷ ks) = (list_any (λ j. j == k) ks ≡ false) × AreDistinct ks

-- a row of this key is there
abbrev pub HasRow : {T : Type 0} → (T → ℕ) → List T → ℕ → Type 0
HasRow {T} key rows k = (row : T) × (Contains rows row × (key row ≡ k))
