-- Rows that bear numbers within their groups.
use Rattle.std.specs.Prelude.{ℕ, ◌≡◌, ◌≤◌, List, length, Contains}
use Rattle.bank_books.specs.declared.records.BranchRecord.{BranchRecord}
use Rattle.bank_books.specs.Records.{KeptLists}
use Rattle.book_sums.specs.Groups.{rows_of_group}

-- each of the rows bears a number from 1 to how many they are
abbrev pub BearNumbers : {X : Type 0} → (X → ℕ) → List X → Type 0
BearNumbers {X} number rows = (row : X) → Contains rows row → (1 ≤ number row) × (number row ≤ length rows)

-- so do the rows of each kept branch that has this number
abbrev pub BranchesBearNumbers : {X : Type 0} → (X → ℕ) → (X → ℕ) → List X → KeptLists → ℕ → Type 0
BranchesBearNumbers key number rows kept branch =
    (b : BranchRecord) → Contains kept.branches b → b.row.branch ≡ branch → BearNumbers number (rows_of_group key b.row.branch rows)
