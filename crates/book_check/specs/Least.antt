-- The least branch of which a condition fails.
use Rattle.std.specs.Prelude.{ℕ, ◌≡◌, ◌<◌, List, slice_index_or, min, Option, Some, None}

-- a condition on branches fails of this one, and of none with a lesser number
pub record IsLeastFailing (holds : ℕ → Type 0) (branch : ℕ) : Type 0 where
  pub fails : ¬ holds branch
  pub least : (other : ℕ) → other < branch → holds other

-- the least branch of which the condition fails, or none where it holds of every number
abbrev pub IsFirstFailing : (ℕ → Type 0) → Option ℕ → Type 0
IsFirstFailing holds None = (branch : ℕ) → holds branch
IsFirstFailing holds (Some branch) = IsLeastFailing holds branch

-- the condition holds of each row of this branch among the first rows, beside what the books give for the row
abbrev pub HoldsOfBranch : {T : Type 0} → (T → T → Type 0) → (T → ℕ) → List T → List T → ℕ → ℕ → Type 0
HoldsOfBranch {T} holds branch_of rows computed count branch =
    (k : ℕ) (d : T) → k < count → branch_of (slice_index_or rows k d) ≡ branch → holds (slice_index_or rows k d) (slice_index_or computed k d)

-- the lesser of two branches, where there are such
abbrev pub lesser_of : Option ℕ → Option ℕ → Option ℕ
lesser_of None second = second
lesser_of (Some first) None = Some first
lesser_of (Some first) (Some second) = Some (min first second)
