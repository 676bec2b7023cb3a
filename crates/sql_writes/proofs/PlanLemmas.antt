-- Plans as changes one after another, and the version after them.
use Rattle.std.proofs.Common.{◌≡◌, ◌++◌, ◌∷◌, [], List, IsTrue, true, false, Result, Ok, Err, OnOk, refl, sym, ap, subst, ◌∙◌, if◌then◌else◌, not, ◌||◌, nat_lt, ℕ}
use Rattle.bank_terms.specs.Limits.{max_version}
use Rattle.bank_books.specs.Effects.{all_written, applied, written}
use Rattle.bank_books.specs.Version.{changes_policy, has_version_for, with_version}
use Rattle.bank_books.specs.WorldLists.{WorldLists}
use Rattle.bank_books.specs.declared.row_write.RowWrite.{RowWrite}
use Rattle.bank_books.specs.declared.row_write.RowWrite.TheVariants as write

pub ok_both : {A E : Type 0} (r : Result A E) (P Q R : Type 0) → (P → Q → R) → OnOk r P → OnOk r Q → OnOk r R
ok_both (Ok x) P Q R both p q = both p q
ok_both (Err e) P Q R both p q = tt

pub written_last : (done : List RowWrite) (row : RowWrite) (w : WorldLists) → all_written (done ++ row ∷ []) w ≡ written row (all_written done w)
written_last [] row w = refl
written_last (x ∷ done) row w = written_last done row (written x w)

version_stays : (row : RowWrite) (w : WorldLists) → (written row w).version ≡ w.version
version_stays (write.Account row) w = refl
version_stays (write.Entry row) w = refl
version_stays (write.Line row) w = refl
version_stays (write.Proof row) w = refl
version_stays (write.Release row) w = refl
version_stays (write.Day d) w = refl
version_stays (write.Used k) w = refl
version_stays (write.Slip s) w = refl
version_stays (write.Session s) w = refl
version_stays (write.Policy change) w = refl

versions_stay : (rows : List RowWrite) (w : WorldLists) → (all_written rows w).version ≡ w.version
versions_stay [] w = refl
versions_stay (row ∷ rows) w = versions_stay rows (written row w) ∙ version_stays row w

-- a version that is there after the changes was there before them
pub room_before : (plan : List RowWrite) (w : WorldLists) → IsTrue (has_version_for plan (all_written plan w).version) → IsTrue (has_version_for plan w.version)
room_before plan w room = subst (λ v. IsTrue (has_version_for plan v)) (versions_stay plan w) room

-- a plan that leaves the policy as it is needs none
pub room_unasked : (plan : List RowWrite) (version : ℕ) → changes_policy plan ≡ false → IsTrue (has_version_for plan version)
room_unasked plan version still = subst (λ b. IsTrue (not b || nat_lt version max_version)) (sym still) refl

-- a plan that changes it, and finds a version for that
pub applied_raised : (plan : List RowWrite) (w : WorldLists) → changes_policy plan ≡ true → has_version_for plan (all_written plan w).version ≡ true → with_version true (all_written plan w) ≡ applied plan w
applied_raised plan w raised room =
    sym (ap (λ b. if b then with_version (changes_policy plan) (all_written plan w) else w) (subst (λ v. has_version_for plan v ≡ true) (versions_stay plan w) room)
    ∙ ap (λ b. with_version b (all_written plan w)) raised)
