-- What is known of the policy as it is now, and what a plan leaves of that.
use Rattle.std.specs.Prelude.{◌≡◌, Bool, true, false, List, Option, IfSome}
use Rattle.std.specs.List.{All, list_any}
use Rattle.bank_books.specs.WorldLists.{WorldLists}
use Rattle.bank_books.specs.declared.row_write.RowWrite.{RowWrite}
use Rattle.bank_books.specs.declared.row_write.RowWrite.TheVariants as write
use Rattle.world_reads.specs.PolicyReads.{user_record}
use Rattle.store_cached.specs.declared.known.Known.{Known}
use Rattle.store_cached.specs.declared.known.KnownUser.{KnownUser}

-- what is kept of each user is what the row in this World says
abbrev pub AreOfUsers : WorldLists → List (Option KnownUser) → Type 0
AreOfUsers w users = All (λ kept. IfSome kept (λ k. k.row ≡ user_record w k.user)) users

-- it is the version of this World, and its users
pub record IsKnownOf (w : WorldLists) (known : Known) : Type 0 where
  pub version : known.version ≡ w.version
  pub users : AreOfUsers w known.users

-- a change that may be one of what the rows of users say
abbrev pub is_of_users : RowWrite → Bool
is_of_users (write.Account row) = false
is_of_users (write.Entry row) = false
is_of_users (write.Line row) = false
is_of_users (write.Proof row) = false
is_of_users (write.Release row) = true
is_of_users (write.Day d) = false
is_of_users (write.Used k) = true
is_of_users (write.Slip row) = false
is_of_users (write.Session s) = true
is_of_users (write.Policy change) = true

-- some change of the plan may be one
abbrev pub changes_users : List RowWrite → Bool
changes_users plan = list_any is_of_users plan
