-- Rows that are read back, one after another.
use Rattle.std.proofs.Common.{◌≡◌, ◌<◌, ◌≤◌, ◌+◌, ℕ, Contains, List, [], ◌∷◌, ◌++◌, map, take, length, get_or, sym, ap, arith, ◌∙◌}
use Rattle.std.proofs.lemmas.List.{get_or-map, length-map, take_all, take_more}
use Rattle.std.proofs.lemmas.List.Elements.{Contains-get_or}
use Rattle.sqlite.specs.Order.{Row}

module _ {X : Type 0} (shown : X → Row) (Fits : X → Type 0) where
  -- what was read of the rows before the i-th
  abbrev pub AreRead : List Row → ℕ → List X → Type 0
  AreRead rows i xs = (there : List X) → ((x : X) → Contains there x → Fits x) → rows ≡ map shown there → xs ≡ take i there

  one_more : (i : ℕ) (row : Row) (a : X) (xs : List X) (there : List X) (rows : List Row) → i < length rows → row ≡ get_or rows i row → ((b : X) → Fits b → row ≡ shown b → a ≡ b)
      → ((x : X) → Contains there x → Fits x) → xs ≡ take i there → rows ≡ map shown there → xs ++ a ∷ [] ≡ take (i + 1) there
  one_more i row a xs [] rows below at reads fit before is = let none = ap length is in absurd (omega (arith, none, below))
  one_more i row a xs (b ∷ bs) rows below at reads fit before is =
      let there : List X = b ∷ bs in
      let long : length rows ≡ length there = ap length is ∙ length-map there shown in
      let inside : i < length there = omega (arith, long, below) in
      let here : row ≡ shown (get_or there i b) = at ∙ ap (λ l. get_or l i row) is ∙ get_or-map shown there i b row inside in
      ap (λ l. l ++ a ∷ []) before ∙ ap (λ z. take i there ++ z ∷ []) (reads (get_or there i b) (fit _ (Contains-get_or there i b inside)) here) ∙ sym (take_more there i b inside)

  pub read_more : (rows : List Row) (i : ℕ) (row : Row) (a : X) (xs : List X) → i < length rows → row ≡ get_or rows i row → ((b : X) → Fits b → row ≡ shown b → a ≡ b) → AreRead rows i xs → AreRead rows (i + 1) (xs ++ a ∷ [])
  read_more rows i row a xs below at reads before there fit is = one_more i row a xs there rows below at reads fit (before there fit is) is

  pub read_all : (rows : List Row) (i : ℕ) (xs : List X) → length rows ≤ i → AreRead rows i xs → (there : List X) → ((x : X) → Contains there x → Fits x) → rows ≡ map shown there → xs ≡ there
  read_all rows i xs past read there fit is =
      let long : length rows ≡ length there = ap length is ∙ length-map there shown in
      let over : length there ≤ i = omega (arith, long, past) in
      read there fit is ∙ take_all i there over
