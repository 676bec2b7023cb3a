-- The eight places of a row of the books that holds the numbers of an operation's members, with 0 after the last.
use Rattle.std.specs.Prelude.{ℕ, ℤ, pos, ◌≡◌, ◌-◌, List, [], ◌∷◌, ◌++◌, length, replicate, Option, Some}

-- the eight places of a row, with 0 after the last number
abbrev pub places : List ℤ → List ℤ
places numbers = numbers ++ replicate (8 - length numbers) (pos 0)

-- the value is in range, and the places hold its numbers
abbrev pub StandsIn : {T : Type 0} → (T → Type 0) → (T → List ℤ) → List ℤ → T → Type 0
StandsIn in_range numbers members x = in_range x × (places (numbers x) ≡ members)

-- a value that is in range, and whose numbers the places hold, is the one found
abbrev pub IsOnlyIn : {T : Type 0} → (T → Type 0) → (T → List ℤ) → List ℤ → Option T → Type 0
IsOnlyIn {T} in_range numbers members found = (x : T) → in_range x → places (numbers x) ≡ members → found ≡ Some x

-- the one number of a form with one member
abbrev pub key_numbers : ℕ → List ℤ
key_numbers key = pos key ∷ []
