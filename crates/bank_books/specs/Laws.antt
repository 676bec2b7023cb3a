-- What holds of every plan.
use Rattle.std.specs.Prelude.{◌≡◌, ◌≤◌, true, false, List, [], ◌∷◌, ◌++◌}
use Rattle.bank_books.specs.Effects.{applied, written}
use Rattle.bank_books.specs.Version.{has_version_for, is_of_policy}
use Rattle.bank_terms.specs.Limits.{max_version}
use Rattle.bank_books.specs.WorldLists.{WorldLists}
use Rattle.bank_books.specs.declared.row_write.RowWrite.{RowWrite}

-- one more change, which is none of the policy, makes of a World what it makes of that which the rest made, where its version has room for them
abbrev pub PlanGrows : Type 0
PlanGrows = (rows : List RowWrite) (row : RowWrite) (w : WorldLists) →
    is_of_policy row ≡ false → has_version_for rows w.version ≡ true → applied (rows ++ row ∷ []) w ≡ written row (applied rows w)

-- a version that is in its limits is in its limits after every plan
abbrev pub VersionStays : Type 0
VersionStays = (rows : List RowWrite) (w : WorldLists) →
    w.version ≤ max_version → (applied rows w).version ≤ max_version
