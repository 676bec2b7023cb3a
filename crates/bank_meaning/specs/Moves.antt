-- What an operation adds to balances and histories.
use Rattle.std.specs.Prelude.{ℕ, ℤ, pos}

-- What an operation that is carried out adds to the balance of each branch, each teller and each account, and how many entries to the history of each branch.
pub record Moves : Type 0 where
  pub branches : ℕ → ℤ
  pub tellers : ℕ → ℤ
  pub accounts : ℕ → ℤ
  pub entries : ℕ → ℕ

abbrev pub moves_nothing : Moves
moves_nothing = record { branches = λ branch. pos 0; tellers = λ teller. pos 0; accounts = λ account. pos 0; entries = λ branch. 0 }
