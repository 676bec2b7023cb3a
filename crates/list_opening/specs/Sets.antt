-- The sets whose members are rows of a list.
use Rattle.std.specs.Prelude.{ℕ, Bool, true, not, drop, ◌==◌, if◌then◌else◌, List, [], ◌∷◌}
use Rattle.bank_policy.specs.SetRow.{SetRow}
use Rattle.list_opening.specs.declared.set_member.SetMember.{SetMember}

-- the member in front of the members of its set, where these stand first
abbrev pub with_member : SetMember → List SetRow → List SetRow
with_member m [] = record { set = m.set; members = m.member ∷ [] } ∷ []
with_member m (s ∷ sets) =
    if s.set == m.set then record { set = m.set; members = m.member ∷ s.members } ∷ sets
    else record { set = m.set; members = m.member ∷ [] } ∷ s ∷ sets

-- members of one set next to each other are the members of that set, in their order
abbrev pub grouped : List SetMember → List SetRow
grouped [] = []
grouped (m ∷ rest) = with_member m (grouped rest)

-- the first of these members is the last of its set
abbrev pub is_last : List SetMember → Bool
is_last (m ∷ n ∷ rest) = not (n.set == m.set)
is_last rest = true

abbrev pub ends_set : List SetMember → ℕ → Bool
ends_set rows i = is_last (drop i rows)
