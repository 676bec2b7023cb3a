-- Badges as they stand in memory.
use Rattle.std.specs.Prelude.{ℕ, List, map}
use Rattle.list_opening.specs.declared.badges.Badge.{Badge}

abbrev pub rows_of : List Badge → List (List ℕ × ℕ)
rows_of badges = map (λ b. (b.badge.items, b.user)) badges
