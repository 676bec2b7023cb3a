-- A plan that changes no policy, and one more change: that a release is used up.
use Rattle.std.proofs.Common.{◌≡◌, ℕ, List, [], ◌∷◌, ◌++◌, false, not, refl, ap, ◌∙◌}
use Rattle.std.proofs.Math.Bool.{or-false}
use Rattle.std.specs.Prelude.{◌||◌, nat_lt}
use Rattle.std.proofs.lemmas.List.Folds.{list_any-append}
use Rattle.bank_terms.specs.Limits.{max_version}
use Rattle.bank_books.specs.Effects.{applied, written}
use Rattle.bank_books.specs.Version.{changes_policy, is_of_policy}
use Rattle.bank_books.specs.SlipRow.{SlipRow}
use Rattle.bank_books.specs.WorldLists.{WorldLists}
use Rattle.bank_books.specs.declared.row_write.RowWrite.{RowWrite}
use Rattle.bank_books.specs.declared.row_write.RowWrite.TheVariants as write
use Rattle.bank_books.proofs.Plans.{applied-append}
use Rattle.bank_meaning.specs.PolicyRules.{used_by}
use Rattle.bank_meaning.specs.declared.leave.Authorization.TheVariants as leave

-- one more change, which is none of the policy, leaves it to the others whether the policy is changed
pub same_after : (plan : List RowWrite) (row : RowWrite) → is_of_policy row ≡ false → changes_policy (plan ++ row ∷ []) ≡ changes_policy plan
same_after plan row none = list_any-append is_of_policy plan (row ∷ []) ∙ ap (λ b. changes_policy plan || (b || false)) none ∙ or-false (changes_policy plan)

-- a slip that is taken after it
pub taken_after : (plan : List RowWrite) (row : SlipRow) → changes_policy plan ≡ false → (w : WorldLists) → applied (plan ++ write.Slip row ∷ []) w ≡ written (write.Slip row) (applied plan w)
taken_after plan row none w = applied-append plan (write.Slip row) w refl (ap (λ b. not b || nat_lt w.version max_version) none)

pub used_up_after : (plan : List RowWrite) (user number : ℕ) → changes_policy plan ≡ false → (w : WorldLists)
    → applied (plan ++ write.Used (record { user = user; number = number }) ∷ []) w ≡ used_by (leave.Release number) user (applied plan w)
used_up_after plan user number none w = applied-append plan (write.Used (record { user = user; number = number })) w refl (ap (λ b. not b || nat_lt w.version max_version) none)
