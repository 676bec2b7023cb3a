-- A release that is used up at both banks, and a policy that is changed in the same way at both, leave them alike.
use Rattle.std.proofs.Common.{◌≡◌, ◌==◌, ◌≤◌, ◌∙◌, ℕ, Bool, true, false, Option, Some, None, refl, ap, ap₂, sym, subst, inl, inr}
use Rattle.std.specs.Prelude.{option_map, if◌then◌else◌}
use Rattle.std.proofs.lemmas.Bool.{and_parts, eqb-true}
use Rattle.keyed_rows.proofs.Rows.{find-found}
use Rattle.bank_policy.specs.HeldRows.{standing_of, user_row}
use Rattle.bank_policy.specs.Policy.{PolicyLists}
use Rattle.bank_policy.specs.declared.rows.User.{User}
use Rattle.bank_books.specs.Effects.{used_up, written}
use Rattle.bank_books.specs.Keys.{release_key, release_number}
use Rattle.bank_books.specs.Records.{release_count}
use Rattle.bank_books.specs.WorldLists.{WorldLists}
use Rattle.bank_books.specs.declared.row_write.ReleaseKey.{ReleaseKey}
use Rattle.bank_books.specs.declared.row_write.RowWrite.TheVariants as write
use Rattle.bank_books.specs.declared.rows.Release.{Release}
use Rattle.book_laws.proofs.ChangedRows.{changed_same, count-changed, each_changed}
use Rattle.world_reads.specs.BookReads.{is_release, release}
use Rattle.world_reads.specs.PolicyReads.{user_record, user_record_of}
use Rattle.bank_meaning.specs.PolicyRules.{used_by}
use Rattle.bank_meaning.specs.declared.leave.Authorization.{Authorization}
use Rattle.bank_meaning.specs.declared.leave.Authorization.TheVariants as leave
use Rattle.year_laws.specs.GoesOn.{AreBoth, Turn}
use Rattle.year_laws.specs.RequestsAlike.{ServeAlike}
use Rattle.year_laws.specs.StaysAlike.{AddsLast, IsReleaseAlike, StayAlike}
use Rattle.year_laws.proofs.RowsAlike.{carried, found_made}

-- ---- users, by the policy and by how many releases each was given

users_alike : (old new : WorldLists) → old.policy ≡ new.policy → ((user : ℕ) → release_count user old.releases ≡ release_count user new.releases) → (key : ℕ) → user_record old key ≡ user_record new key
users_alike old new same given key = ap (λ p. option_map (user_record_of old) (user_row p key)) same ∙ go (user_row new.policy key)
  where
    go : (o : Option User) → option_map (user_record_of old) o ≡ option_map (user_record_of new) o
    go None = refl
    go (Some u) = ap (λ n. Some (record { standing = standing_of u; releases = n })) (given u.user)

-- ---- a release that is used up

count_stays : (w : WorldLists) (k : ReleaseKey) (user : ℕ) → release_count user (written (write.Used k) w).releases ≡ release_count user w.releases
count_stays w k user = count-changed release_key (release_number k.user k.number) used_up (λ r. r.user == user) (λ r. refl) w.releases

users_stay : (w : WorldLists) (k : ReleaseKey) (key : ℕ) → user_record (written (write.Used k) w) key ≡ user_record w key
users_stay w k key = users_alike (written (write.Used k) w) w refl (count_stays w k) key

adds_still : (w : WorldLists) (k : ReleaseKey) → AddsLast w → AddsLast (written (write.Used k) w)
adds_still w k adds = record {
  tellers = adds.tellers;
  accounts = adds.accounts;
  entries = adds.entries;
  lines = adds.lines;
  places = adds.places;
  order = adds.order;
  releases = λ r there.
      subst (λ n. r.number ≤ n) (sym (count_stays w k r.user))
      (each_changed release_key (release_number k.user k.number) used_up w.releases (λ x. x.number ≤ release_count x.user w.releases) (λ x among is. adds.releases x among)
      (λ x among is. adds.releases x among) r there);
}

-- the release, used up where it is the one of this key
abbrev with_use : ReleaseKey → Release → Release
with_use k r = if release_key r == release_number k.user k.number then used_up r else r

release_after : (w : WorldLists) (k : ReleaseKey) (u n : ℕ) → release (written (write.Used k) w) u n ≡ option_map (with_use k) (release w u n)
release_after w k u n = found_made (is_release u n) (with_use k) (λ r. changed_same release_key (release_number k.user k.number) used_up (is_release u n) (λ x. refl) r) w.releases

used_same : (t : Turn) (c : Bool) (r s : Release) → IsReleaseAlike t r s → IsReleaseAlike t (if c then used_up r else r) (if c then used_up s else s)
used_same t true r s (inl same) = inl (record { giver = same.giver; branch = same.branch; day = same.day; used = refl; operation = same.operation })
used_same t true r s (inr past) = inr (ap used_up past.0, past.1)
used_same t false r s same = same

module _ (t : Turn) (old new : WorldLists) (stay : StayAlike t old new) (k : ReleaseKey) where
  key_of : (w : WorldLists) (u n : ℕ) (r : Release) → release w u n ≡ Some r → release_key r ≡ release_number u n
  key_of w u n r is =
      let parts = and_parts (r.user == u) (r.number == n) (find-found (is_release u n) w.releases r is).1 in
      ap₂ release_number (eqb-true r.user u parts.0) (eqb-true r.number n parts.1)

  releases : (u n : ℕ) → AreBoth (IsReleaseAlike t) (release (written (write.Used k) old) u n) (release (written (write.Used k) new) u n)
  releases u n = carried (AreBoth (IsReleaseAlike t)) _ _ _ _ (release_after old k u n) (release_after new k u n) (go (release old u n) (release new u n) refl refl (stay.releases u n))
    where
      go : (a b : Option Release) → release old u n ≡ a → release new u n ≡ b → AreBoth (IsReleaseAlike t) a b → AreBoth (IsReleaseAlike t) (option_map (with_use k) a) (option_map (with_use k) b)
      go None None a_is b_is same = tt
      go (Some r) (Some s) a_is b_is same =
          carried (IsReleaseAlike t) _ _ _ _
          (ap (λ m. if m == release_number k.user k.number then used_up r else r) (key_of old u n r a_is))
          (ap (λ m. if m == release_number k.user k.number then used_up s else s) (key_of new u n s b_is))
          (used_same t (release_number u n == release_number k.user k.number) r s same)
      go None (Some s) a_is b_is same = absurd same
      go (Some r) None a_is b_is same = absurd same

  used_at_both : StayAlike t (written (write.Used k) old) (written (write.Used k) new)
  used_at_both = record {
    alike = record {
      accounts = stay.alike.accounts;
      tellers = stay.alike.tellers;
      branches = stay.alike.branches;
      rosters = stay.alike.rosters;
      entries = stay.alike.entries;
      undone = stay.alike.undone;
      users = λ key. users_stay old k key ∙ stay.alike.users key ∙ sym (users_stay new k key);
    };
    old_adds = adds_still old k stay.old_adds;
    new_adds = adds_still new k stay.new_adds;
    turns = stay.turns;
    given = λ user. count_stays old k user ∙ stay.given user ∙ sym (count_stays new k user);
    releases = releases;
  }

-- by whatever authorizes the operation at both
pub used_stays : (t : Turn) (old new : WorldLists) → StayAlike t old new → (l : Authorization) (user : ℕ) → StayAlike t (used_by l user old) (used_by l user new)
used_stays t old new stay leave.Triple user = stay
used_stays t old new stay (leave.Release n) user = used_at_both t old new stay (record { user = user; number = n })

-- ---- a policy that is changed

policy_adds : (w : WorldLists) (p : PolicyLists) (version : ℕ) → AddsLast w → AddsLast (record w { policy = p; version = version })
policy_adds w p version adds = record { tellers = adds.tellers; accounts = adds.accounts; entries = adds.entries; lines = adds.lines; places = adds.places; order = adds.order; releases = adds.releases }

pub policy_stays : (t : Turn) (old new : WorldLists) → ServeAlike t old new → (p q : PolicyLists) (m n : ℕ) → p ≡ q → m ≡ n → ServeAlike t (record old { policy = p; version = m }) (record new { policy = q; version = n })
policy_stays t old new serve p q m n same version = record {
  books = record {
    alike = record {
      accounts = serve.books.alike.accounts;
      tellers = serve.books.alike.tellers;
      branches = serve.books.alike.branches;
      rosters = serve.books.alike.rosters;
      entries = serve.books.alike.entries;
      undone = serve.books.alike.undone;
      users = users_alike (record old { policy = p; version = m }) (record new { policy = q; version = n }) same serve.books.given;
    };
    old_adds = policy_adds old p m serve.books.old_adds;
    new_adds = policy_adds new q n serve.books.new_adds;
    turns = serve.books.turns;
    given = serve.books.given;
    releases = serve.books.releases;
  };
  policy = same;
  version = version;
  slips = serve.slips;
  slip_counts = serve.slip_counts;
}
