-- Rows as they are given with a statement that writes them.
use Rattle.std.specs.Prelude.{ℕ, pos, List, [], ◌∷◌}
use Rattle.sqlite.specs.declared.types.Value.TheVariants.{Blob, Int}
use Rattle.sqlite.specs.Order.{Row}
use Rattle.sql_releases.specs.declared.releases.ReleaseCells.{ReleaseCells}
use Rattle.sql_releases.specs.declared.slips.SlipCells.{SlipCells}

abbrev pub given_release : ReleaseCells → Row
given_release c =
    Int (pos c.user) ∷ Int (pos c.number) ∷ Int (pos c.giver) ∷ Int (pos c.branch) ∷ Int (pos c.day) ∷ Int (pos c.form)
    ∷ Int c.member1 ∷ Int c.member2 ∷ Int c.member3 ∷ Int c.member4 ∷ Int c.member5 ∷ Int c.member6 ∷ Int c.member7 ∷ Int c.member8 ∷ Int (pos c.used) ∷ []

-- beside the bytes of its reply
abbrev pub given_slip : SlipCells → List ℕ → Row
given_slip c reply =
    Int (pos c.user) ∷ Int (pos c.number) ∷ Int (pos c.form)
    ∷ Int c.member1 ∷ Int c.member2 ∷ Int c.member3 ∷ Int c.member4 ∷ Int c.member5 ∷ Int c.member6 ∷ Int c.member7 ∷ Int c.member8 ∷ Blob reply ∷ []
