-- The values that are given with a statement, by the cells of a row.
use Rattle.std.specs.Prelude.{ℕ, pos, List, [], ◌∷◌}
use Rattle.sqlite.specs.declared.types.Value.TheVariants.{Int, Text}
use Rattle.sqlite.specs.Order.{Row}
use Rattle.sql_policy.specs.declared.triples.TripleCells.{TripleCells}
use Rattle.sql_policy.specs.declared.users.UserCells.{UserCells}

abbrev pub given_triple : TripleCells → Row
given_triple c = Int (pos c.user) ∷ Int (pos c.procedure) ∷ Int (pos c.set) ∷ Int (pos c.limit) ∷ Int c.first ∷ Int c.last ∷ []

-- a user of that name
abbrev pub given_user : UserCells → List ℕ → Row
given_user c name = Int (pos c.user) ∷ Text name ∷ Int (pos c.officer) ∷ Int (pos c.suspended) ∷ Int (pos c.session) ∷ Int (pos c.on) ∷ Int c.releases ∷ []
