-- Rows in order of their keys.
use Rattle.std.specs.Prelude.{ℕ, List, [], fold}
use Rattle.keyed_rows.specs.Ordered.{add_row}

-- the rows, written one after another, each at its place by its key: those of one key keep their order
abbrev pub in_order : {T : Type 0} → (T → ℕ) → List T → List T
in_order key rows = fold (λ placed row. add_row key row placed) [] rows
