-- Who has which badge at the sample bank.
use Rattle.std.specs.Prelude.{ℕ, List, [], ◌∷◌, Option, option_map, codes}
use Rattle.std.specs.List.{find}
use Rattle.std.specs.Str.{bytes_eq}

-- Olga, an officer; Carl and Cora, who certify; Tess and Tom, tellers; Sue, who opens accounts and closes days
abbrev pub badges : List (List ℕ × ℕ)
badges = (codes "olga", 1) ∷ (codes "carl", 2) ∷ (codes "cora", 3) ∷ (codes "tess", 7) ∷ (codes "tom", 8) ∷ (codes "sue", 9) ∷ []

-- the user of that badge
abbrev pub badge_user : List ℕ → Option ℕ
badge_user badge = option_map (λ row. row.1) (find (λ row. bytes_eq badge row.0) badges)
