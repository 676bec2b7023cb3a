-- What a search for a field's value found.
use Rattle.std.specs.Prelude.{◌≡◌, ℕ, ◌≤◌, List, [], ◌∷◌, length}
use Rattle.http_heads.specs.declared.fields.Found.{Found}
use Rattle.http_heads.specs.declared.fields.Found.TheVariants.{Missing, One, Several}

-- none, the one value, or several
abbrev pub IsFound : List (List ℕ) → Found → Type 0
IsFound values Missing = values ≡ []
IsFound values (One value) = values ≡ value.now ∷ []
IsFound values Several = 2 ≤ length values
