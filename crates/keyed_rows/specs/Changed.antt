-- What becomes of the rows of one key, while all others stay.
use Rattle.std.specs.Prelude.{ℕ, ◌==◌, not, List, map, if◌then◌else◌}
use Rattle.std.specs.List.{filter}

-- they are made anew, each where it stands
abbrev pub change_rows : {T : Type 0} → (T → ℕ) → ℕ → (T → T) → List T → List T
change_rows key k made rows = map (λ row. if key row == k then made row else row) rows

-- they are taken away
abbrev pub delete_rows : {T : Type 0} → (T → ℕ) → ℕ → List T → List T
delete_rows key k rows = filter (λ row. not (key row == k)) rows
