-- Who signs the rows that an operation adds.
use Rattle.std.specs.Prelude.{◌≤◌}
use Rattle.bank_terms.specs.Limits.{max_moment}
use Rattle.bank_books.specs.Range.{IsUser}
use Rattle.bank_books.specs.WorldLists.{WorldLists}
use Rattle.bank_books.specs.declared.signature.Signature.{Signature}

-- a user who is there, at a moment in its range
pub record IsSigned (w : WorldLists) (by : Signature) : Type 0 where
  pub user : IsUser w.policy.users by.user
  pub moment : by.moment ≤ max_moment
