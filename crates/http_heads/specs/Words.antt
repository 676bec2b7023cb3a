-- The elements of a list value.
use Rattle.std.specs.Prelude.{ℕ, List, [], ◌∷◌, ◌==◌, map, if◌then◌else◌}
use Rattle.httparse.specs.Ascii.{comma}
use Rattle.httparse.specs.Grammar.{trim_ows}

-- the pieces, with a byte added to the front of the first
abbrev pub cons_first : ℕ → List (List ℕ) → List (List ℕ)
cons_first b [] = (b ∷ []) ∷ []
cons_first b (piece ∷ pieces) = (b ∷ piece) ∷ pieces

-- the pieces between commas
abbrev pub split_commas : List ℕ → List (List ℕ)
split_commas [] = [] ∷ []
split_commas (b ∷ bs) = let pieces = split_commas bs in if b == comma then [] ∷ pieces else cons_first b pieces

-- the elements of a list value, without the white space around them (RFC 9110, section 5.6.1)
unfoldable pub words : List ℕ → List (List ℕ)
words value = map trim_ows (split_commas value)
