-- What changes make of a release, and of how many releases a user was given.
use Rattle.std.proofs.Common.{◌≡◌, ◌≢◌, ℕ, ◌+◌, ◌*◌, ◌^◌, ◌<◌, List, [], ◌∷◌, Bool, true, cond, refl, ap, arith, sym, ◌∙◌, ◌==◌, Option, Some, None}
use Rattle.std.specs.Prelude.{if◌then◌else◌, option_map}
use Rattle.std.proofs.lemmas.Bool.{and_parts, eqb-true, ne_eqb}
use Rattle.bank_terms.specs.declared.item.Cdi.{Cdi}
use Rattle.bank_policy.specs.HeldRows.{user_row}
use Rattle.bank_policy.specs.PolicyKeys.{user_key}
use Rattle.bank_policy.specs.declared.rows.User.{User}
use Rattle.bank_books.specs.Effects.{all_written, used_up, written}
use Rattle.bank_books.specs.Keys.{release_key, release_number}
use Rattle.bank_books.specs.WorldLists.{WorldLists}
use Rattle.bank_books.specs.declared.row_write.RowWrite.{RowWrite}
use Rattle.bank_books.specs.declared.row_write.RowWrite.TheVariants as write
use Rattle.bank_books.specs.declared.rows.Release.{Release}
use Rattle.book_laws.proofs.ChangedRows.{changed_same, count-changed}
use Rattle.book_laws.proofs.LastRow.{or_else}
use Rattle.keyed_rows.proofs.Rows.{count-add_row, found_row}
use Rattle.world_reads.specs.BookReads.{is_release, release}
use Rattle.world_reads.specs.PolicyReads.{user_record_of}
use Rattle.bank_meaning.specs.declared.leave.Authorization.{Authorization}
use Rattle.bank_meaning.specs.declared.leave.Authorization.TheVariants as leave
use Rattle.two_worlds.specs.Agree.{releases_given}
use Rattle.bank_meaning.specs.Order.{AreBooksInOrder, IsInOrder}
use Rattle.bank_meaning.proofs.KeptOrder.{in_order_written}
use Rattle.two_worlds.proofs.Grown.{find_added, find_made}
use Rattle.two_worlds.proofs.Within.{AreWithin, IsWithin, still_within}

-- ---- one release

abbrev pub release_after : RowWrite → ℕ → ℕ → Option Release → Option Release
release_after (write.Release r) user number o = or_else o (cond (is_release user number r) (Some r) None)
release_after (write.Used k) user number o = option_map (λ r. if release_key r == release_number k.user k.number then used_up r else r) o
release_after _ user number o = o

abbrev pub releases_after : List RowWrite → ℕ → ℕ → Option Release → Option Release
releases_after [] user number o = o
releases_after (c ∷ cs) user number o = releases_after cs user number (release_after c user number o)

of_key : (user number : ℕ) (r : Release) → is_release user number r ≡ true → release_key r ≡ release_number user number
of_key user number r is =
    let parts = and_parts (r.user == user) (r.number == number) is in
    ap (λ k. release_number k r.number) (eqb-true r.user user parts.0) ∙ ap (release_number user) (eqb-true r.number number parts.1)

pub release_is : (c : RowWrite) (w : WorldLists) (user number : ℕ) → AreBooksInOrder w → release (written c w) user number ≡ release_after c user number (release w user number)
release_is (write.Release r) w user number order =
    find_added release_key (is_release user number) r w.releases (λ y new old. of_key user number y old ∙ sym (of_key user number r new)) order.releases
release_is (write.Used k) w user number order =
    find_made (is_release user number) (λ r. if release_key r == release_number k.user k.number then used_up r else r)
    (λ r. changed_same release_key (release_number k.user k.number) used_up (is_release user number) (λ s. refl) r) w.releases
release_is _ w user number order = refl

pub plan_release : (cs : List RowWrite) (w : WorldLists) (user number : ℕ) → IsInOrder w → release (all_written cs w) user number ≡ releases_after cs user number (release w user number)
plan_release [] w user number order = refl
plan_release (c ∷ cs) w user number order = plan_release cs (written c w) user number (in_order_written c w order) ∙ ap (releases_after cs user number) (release_is c w user number order.books)

-- ---- an authorization, as the changes that it makes

abbrev pub uses : Authorization → ℕ → List RowWrite
uses leave.Triple user = []
uses (leave.Release number) user = write.Used (record { user = user; number = number }) ∷ []

one_user : (a b m n : ℕ) → m < 2 ^ 32 → n < 2 ^ 32 → 2 ^ 32 * a + m ≡ 2 ^ 32 * b + n → (a ≡ b) × (m ≡ n)
one_user a b m n low low' same = (omega arith, omega arith)

-- it leaves each other release, where its number and those of the rows are small enough for the key
pub use_leaves : (by used user number : ℕ) (o : Option Release) → used < 2 ^ 32 → ((r : Release) → o ≡ Some r → (r.user ≡ user) × (r.number ≡ number) × (number < 2 ^ 32)) → (number ≡ used → user ≢ by)
    → releases_after (uses (leave.Release used) by) user number o ≡ o
use_leaves by used user number None small rows other = refl
use_leaves by used user number (Some r) small rows other =
    let of = rows r refl in
    ap (λ (b : Bool). Some (if b then used_up r else r)) (ne_eqb (release_key r) (release_number by used) (λ same.
    let key = sym (ap (λ k. release_number k r.number) of.0 ∙ ap (release_number user) of.1) ∙ same in
    let one = one_user user by number used of.2 small key in
    other one.1 one.0))

-- ---- how many a user was given

abbrev pub given_after : RowWrite → ℕ → Option ℕ → Option ℕ
given_after (write.Release r) user o = option_map (λ n. n + cond (r.user == user) 1 0) o
given_after _ user o = o

abbrev pub all_given_after : List RowWrite → ℕ → Option ℕ → Option ℕ
all_given_after [] user o = o
all_given_after (c ∷ cs) user o = all_given_after cs user (given_after c user o)

given_written : (w : WorldLists) (r : Release) (user : ℕ) → releases_given (written (write.Release r) w) user ≡ option_map (λ n. n + cond (r.user == user) 1 0) (releases_given w user)
given_written w r user = go (user_row w.policy user) refl
  where
    go : (o : Option User) → user_row w.policy user ≡ o
        → option_map (λ u. u.releases) (option_map (user_record_of (written (write.Release r) w)) o) ≡ option_map (λ n. n + cond (r.user == user) 1 0) (option_map (λ u. u.releases) (option_map (user_record_of w) o))
    go None is = refl
    go (Some row) is =
        let of = (found_row user_key user w.policy.users row is).1 in
        ap Some (count-add_row release_key (λ x. x.user == row.user) r w.releases ∙ ap (λ k. (user_record_of w row).releases + cond (r.user == k) 1 0) of)

given_is : (items : List Cdi) (c : RowWrite) (w : WorldLists) (user : ℕ) → IsWithin items w.tellers c → releases_given (written c w) user ≡ given_after c user (releases_given w user)
given_is items (write.Release r) w user within = given_written w r user
given_is items (write.Used k) w user within = go (user_row w.policy user)
  where
    go : (o : Option User) → option_map (λ u. u.releases) (option_map (user_record_of (written (write.Used k) w)) o) ≡ option_map (λ u. u.releases) (option_map (user_record_of w) o)
    go None = refl
    go (Some row) = ap Some (count-changed release_key (release_number k.user k.number) used_up (λ x. x.user == row.user) (λ x. refl) w.releases)
given_is items (write.Session s) w user within = absurd within
given_is items (write.Policy p) w user within = absurd within
given_is items _ w user within = refl

pub plan_gives : (items : List Cdi) (cs : List RowWrite) (w : WorldLists) (user : ℕ) → AreWithin items w.tellers cs → releases_given (all_written cs w) user ≡ all_given_after cs user (releases_given w user)
plan_gives items [] w user within = refl
plan_gives items (c ∷ cs) w user within =
    plan_gives items cs (written c w) user (still_within items c w cs within.1) ∙ ap (all_given_after cs user) (given_is items c w user within.0)
