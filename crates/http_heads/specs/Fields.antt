-- The values of the fields of a name.
use Rattle.std.specs.Prelude.{ℕ, Bool, List, [], ◌∷◌, map, if◌then◌else◌, flat_map, bytes_eq}
use Rattle.std.specs.Char.{to_ascii_lowercase}

-- the two texts are the same but for the case of their letters (names of fields: RFC 9110, section 5.1)
unfoldable pub eq_ignore_case : List ℕ → List ℕ → Bool
eq_ignore_case a b = bytes_eq (map to_ascii_lowercase a) (map to_ascii_lowercase b)

-- the value of each field with this name, in order
abbrev pub values_named : List ℕ → List (List ℕ × List ℕ) → List (List ℕ)
values_named name fields = flat_map (λ (f : List ℕ × List ℕ). if eq_ignore_case f.0 name then f.1 ∷ [] else []) fields
