-- The line that says where connections are waited for.
use Rattle.std.specs.Prelude.{ℕ, List, [], ◌∷◌, codes, decimal}
use Rattle.std.specs.List.{concat}
use Rattle.counter_places.specs.declared.place.Place.{Place}
use Rattle.counter_places.specs.declared.place.Place.TheVariants.{Port, Socket, Inherited}

-- the number of a port, a path, or the word for a socket that was inherited
abbrev pub name_of : Place → List ℕ
name_of (Port port) = decimal port
name_of (Socket path) = path.now
name_of Inherited = codes "inherited"

abbrev pub line_of : List ℕ → List ℕ
line_of name = concat (codes "listening " ∷ name ∷ codes "\n" ∷ [])

abbrev pub listening_line : Place → List ℕ
listening_line place = line_of (name_of place)
