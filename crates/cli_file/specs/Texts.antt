-- What reading a list gives, by the bytes at its path, where those are known. Of the machine's files none are: then it is said of some text.
use Rattle.std.specs.Prelude.{◌≡◌, ◌⊎◌, ℕ, List, Option, Result, Ok, Err, IfSome}
use Rattle.list_records.specs.declared.fault.RecordFault.{RecordFault}
use Rattle.list_opening.specs.Badges.{Badges, badges_of}
use Rattle.cli_file.specs.Faults.{IsOfBadges, IsOfFile}
use Rattle.cli_file.specs.declared.fault.ActionFault.{ActionFault}

-- it is these bytes, where they are known
abbrev pub IsTextOf : Option (List ℕ) → List ℕ → Type 0
IsTextOf known text = IfSome known (λ left. text ≡ left)

-- the badges that it states, or its first bad record; or it was not read, or memory was refused
abbrev pub AreBadgesRead : List ℕ → Option (List ℕ) → Result Badges ActionFault → Type 0
AreBadgesRead list known (Ok badges) = (text : List ℕ) × IsTextOf known text × (badges_of text ≡ Ok badges)
AreBadgesRead list known (Err stated) =
    IsOfFile stated ⊎ ((text : List ℕ) × IsTextOf known text × (why : RecordFault) × (badges_of text ≡ Err why) × IsOfBadges list why stated)
