-- The text of an amount.
use Rattle.std.specs.Prelude.{ℕ, ℤ, ◌+◌, ◌-◌, ◌/◌, ◌%◌, List, [], ◌∷◌, ◌++◌, length, replicate, decimal, unsigned_abs}
use Rattle.std.specs.Int.{is_negative}
use Rattle.std.specs.Fmt.{sign_text}

-- cents as decimal notation has them: a minus where they are below zero, the whole units, a point (46), and the two
-- digits (48 is `0`) of what is left
abbrev pub cents_text : ℤ → List ℕ
cents_text z = sign_text (is_negative z) ++ decimal (unsigned_abs z / 100) ++ 46 ∷ (48 + unsigned_abs z / 10 % 10) ∷ (48 + unsigned_abs z % 10) ∷ []

-- a text on the right of its width, filled by spaces (32), and whole where it is longer
abbrev pub right : ℕ → List ℕ → List ℕ
right width text = replicate (width - length text) 32 ++ text
