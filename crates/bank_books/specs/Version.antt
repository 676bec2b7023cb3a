-- The version of the policy: how many plans have changed it.
use Rattle.std.specs.Prelude.{ℕ, ◌+◌, ◌||◌, not, nat_lt, Bool, true, false, List}
use Rattle.std.specs.List.{list_any}
use Rattle.bank_terms.specs.Limits.{max_version}
use Rattle.bank_books.specs.WorldLists.{WorldLists}
use Rattle.bank_books.specs.declared.row_write.RowWrite.{RowWrite}
use Rattle.bank_books.specs.declared.row_write.RowWrite.TheVariants as write

-- a change of the policy; a session is none
abbrev pub is_of_policy : RowWrite → Bool
is_of_policy (write.Account row) = false
is_of_policy (write.Entry row) = false
is_of_policy (write.Line row) = false
is_of_policy (write.Proof row) = false
is_of_policy (write.Release row) = false
is_of_policy (write.Day d) = false
is_of_policy (write.Used k) = false
is_of_policy (write.Slip row) = false
is_of_policy (write.Session s) = false
is_of_policy (write.Policy change) = true

-- some change of the plan is one of the policy
abbrev pub changes_policy : List RowWrite → Bool
changes_policy plan = list_any is_of_policy plan

-- the World with the next version of its policy, where that was changed
abbrev pub with_version : Bool → WorldLists → WorldLists
with_version true w = record w { version = w.version + 1 }
with_version false w = w

-- a plan that changes the policy finds a version that is not the greatest
abbrev pub has_version_for : List RowWrite → ℕ → Bool
has_version_for plan version = not (changes_policy plan) || nat_lt version max_version
