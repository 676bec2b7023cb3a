-- What is known of the policy stays true over a plan that changes neither it nor a user.
use Rattle.std.proofs.Common.{◌≡◌, ℕ, if◌then◌else◌, Bool, true, false, List, [], ◌∷◌, Option, Some, None, IfSome, refl, ap, sym, ◌∙◌}
use Rattle.std.proofs.lemmas.List.Elements.{All-weaker}
use Rattle.bank_books.specs.Effects.{all_written, applied, in_full, written}
use Rattle.bank_books.specs.Version.{changes_policy, has_version_for, with_version}
use Rattle.bank_books.specs.WorldLists.{WorldLists}
use Rattle.bank_books.specs.declared.row_write.RowWrite.{RowWrite}
use Rattle.bank_books.specs.declared.row_write.RowWrite.TheVariants as write
use Rattle.world_reads.specs.PolicyReads.{user_record}
use Rattle.store_cached.proofs.Plans.{applied_version, neither}
use Rattle.store_cached.specs.Users.{AreOfUsers, IsKnownOf, changes_users, is_of_users}
use Rattle.store_cached.specs.declared.known.Known.{Known}
use Rattle.store_cached.specs.declared.known.KnownUser.{KnownUser}

one_written : (row : RowWrite) (w : WorldLists) (user : ℕ) → is_of_users row ≡ false → user_record (written row w) user ≡ user_record w user
one_written (write.Account row) w user none = refl
one_written (write.Entry row) w user none = refl
one_written (write.Line row) w user none = refl
one_written (write.Proof row) w user none = refl
one_written (write.Release row) w user none = absurd (cc)
one_written (write.Day d) w user none = refl
one_written (write.Used k) w user none = absurd (cc)
one_written (write.Slip row) w user none = refl
one_written (write.Session s) w user none = absurd (cc)
one_written (write.Policy change) w user none = absurd (cc)

all_kept : (plan : List RowWrite) (w : WorldLists) (user : ℕ) → changes_users plan ≡ false → user_record (all_written plan w) user ≡ user_record w user
all_kept [] w user none = refl
all_kept (row ∷ plan) w user none =
    let both = neither (is_of_users row) (changes_users plan) none in
    all_kept plan (written row w) user both.1 ∙ one_written row w user both.0

applied_kept : (plan : List RowWrite) (w : WorldLists) (user : ℕ) → changes_policy plan ≡ false → changes_users plan ≡ false → user_record (applied plan w) user ≡ user_record w user
applied_kept plan w user same none = by (has_version_for plan w.version)
  where
    by : (b : Bool) → user_record (if b then in_full plan w else w) user ≡ user_record w user
    by true = ap (λ (c : Bool). user_record (with_version c (all_written plan w)) user) same ∙ all_kept plan w user none
    by false = refl

users_along : (w v : WorldLists) (users : List (Option KnownUser)) → ((user : ℕ) → user_record v user ≡ user_record w user) → AreOfUsers w users → AreOfUsers v users
users_along w v users same are = All-weaker _ _ each users are
  where
    each : (kept : Option KnownUser) → IfSome kept (λ k. k.row ≡ user_record w k.user) → IfSome kept (λ k. k.row ≡ user_record v k.user)
    each None is = tt
    each (Some k) is = is ∙ sym (same k.user)

-- what is known is known after a plan that changes neither the policy nor a user
pub known_after : (plan : List RowWrite) (known : Option Known) (w : WorldLists) → changes_policy plan ≡ false → changes_users plan ≡ false
    → IfSome known (IsKnownOf w) → IfSome known (IsKnownOf (applied plan w))
known_after plan None w same none is = tt
known_after plan (Some known) w same none is = record {
  version = is.version ∙ sym (applied_version plan w same);
  users = users_along w (applied plan w) known.users (λ user. applied_kept plan w user same none) is.users;
}

-- the version is known after a plan that does not change the policy, without users
pub version_after : (plan : List RowWrite) (known after : Known) (w : WorldLists) → changes_policy plan ≡ false → after.version ≡ known.version
    → ((v : WorldLists) → AreOfUsers v after.users) → IsKnownOf w known → IsKnownOf (applied plan w) after
version_after plan known after w same version users is = record {
  version = version ∙ is.version ∙ sym (applied_version plan w same);
  users = users (applied plan w);
}
