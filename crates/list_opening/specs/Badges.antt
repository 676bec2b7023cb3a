-- The users of a list of badges.
use Rattle.std.specs.Prelude.{ℕ, List, [], ◌∷◌, ◌++◌, codes, Option, Some, None, Result, is_some, if◌then◌else◌, option_map}
use Rattle.std.specs.List.{find}
use Rattle.std.specs.Str.{bytes_eq}
use Rattle.list_fields.specs.Names.{is_badge}
use Rattle.list_records.specs.Records.{Record, begun_after, gathered, records_of}
use Rattle.list_records.specs.declared.fault.RecordFault.{RecordFault}
use Rattle.list_opening.specs.Rows.{◌>>=◌, user_number}

-- badges with their users
abbrev pub Badges : Type 0
Badges = List (List ℕ × ℕ)

-- the user of a badge, compared byte for byte
abbrev pub user_of : Badges → List ℕ → Option ℕ
user_of badges badge = option_map (λ row. row.1) (find (λ row. bytes_eq row.0 badge) badges)

-- a badge and its user
abbrev pub badge_row : Record → Option (List ℕ × ℕ)
badge_row (badge ∷ user ∷ []) = do
  number ← user_number user
  if is_badge badge then Some (badge, number) else None
badge_row _ = None

-- with the one that a record states; one that stands twice is bad
abbrev pub with_badge : Badges → Record → Option Badges
with_badge badges r = do
  row ← badge_row r
  if is_some (user_of badges row.0) then None else Some (badges ++ row ∷ [])

-- the names of its heading
abbrev pub badge_names : Record
badge_names = codes "badge" ∷ codes "user" ∷ []

-- the badges of a whole list, whose heading is `badge,user`; or the first bad record
abbrev pub badges_of : List ℕ → Result Badges RecordFault
badges_of text = gathered (begun_after badge_names) with_badge [] (records_of text)
