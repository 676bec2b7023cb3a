-- Rows of groups, where a key is the group times 2 to the 32 and a number within the group.
use Rattle.std.specs.Prelude.{ℕ, ◌+◌, ◌*◌, ◌^◌, ◌&&◌, List, filter, nat_le, nat_lt}

-- the rows of a group, by their keys
abbrev pub rows_of_group : {T : Type 0} → (T → ℕ) → ℕ → List T → List T
rows_of_group key group rows = filter (λ row. nat_le (2 ^ 32 * group) (key row) && nat_lt (key row) (2 ^ 32 * (group + 1))) rows
