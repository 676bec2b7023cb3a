-- A release that is given at both banks, to the same user and for the same operation, leaves them alike.
use Rattle.std.proofs.Common.{◌≡◌, ◌==◌, ◌&&◌, ◌+◌, ◌≤◌, ◌∙◌, ℕ, Bool, true, false, cond, Option, Some, None, Contains, refl, ap, ap₂, arith, sym, subst, inl}
use Rattle.std.specs.Prelude.{option_map}
use Rattle.std.proofs.lemmas.Bool.{and_parts, eqb-true, ne_eqb}
use Rattle.keyed_rows.proofs.Rows.{count-add_row, find-add_row, found_row}
use Rattle.bank_policy.specs.HeldRows.{standing_of, user_row}
use Rattle.bank_policy.specs.PolicyKeys.{user_key}
use Rattle.bank_policy.specs.declared.rows.User.{User}
use Rattle.bank_books.specs.Effects.{written}
use Rattle.bank_books.specs.Keys.{release_key}
use Rattle.bank_books.specs.Records.{release_count}
use Rattle.bank_books.specs.WorldLists.{WorldLists}
use Rattle.bank_books.specs.declared.row_write.RowWrite.TheVariants as write
use Rattle.bank_books.specs.declared.rows.Release.{Release}
use Rattle.world_reads.specs.BookReads.{is_release, release}
use Rattle.world_reads.specs.PolicyReads.{user_record, user_record_of}
use Rattle.world_reads.specs.declared.records.UserRecord.{UserRecord}
use Rattle.year_laws.specs.GoesOn.{AreBoth, Turn}
use Rattle.year_laws.specs.StaysAlike.{AddsLast, IsReleaseAlike, IsSameRelease, StayAlike}
use Rattle.year_laws.proofs.NextRows.{IsNextRelease, release_adds}
use Rattle.year_laws.proofs.RowsAlike.{carried, found_added, none_found}

-- the user for whom it is has one more
abbrev with_release : ℕ → ℕ → UserRecord → UserRecord
with_release of key u = record u { releases = u.releases + cond (of == key) 1 0 }

user_after : (w : WorldLists) (r : Release) (key : ℕ) → user_record (written (write.Release r) w) key ≡ option_map (with_release r.user key) (user_record w key)
user_after w r key = go (user_row w.policy key) refl
  where
    go : (o : Option User) → user_row w.policy key ≡ o → option_map (user_record_of (written (write.Release r) w)) o ≡ option_map (with_release r.user key) (option_map (user_record_of w) o)
    go None is = refl
    go (Some u) is =
        ap (λ n. Some (record { standing = standing_of u; releases = n }))
        (count-add_row release_key (λ x. x.user == u.user) r w.releases
        ∙ ap (λ k. release_count u.user w.releases + cond (r.user == k) 1 0) (found_row user_key key w.policy.users u is).1)

-- ---- its number is free

past : (n c m : ℕ) → n ≤ c → m ≡ c + 1 → n ≡ m → ⊥
past n c m low next same = omega arith

free : (w : WorldLists) (r : Release) → AddsLast w → IsNextRelease w.releases r → release w r.user r.number ≡ None
free w r adds next = none_found (is_release r.user r.number) w.releases (λ y there. go y there (y.user == r.user) refl)
  where
    go : (y : Release) → Contains w.releases y → (c : Bool) → (y.user == r.user) ≡ c → (c && y.number == r.number) ≡ false
    go y there true is =
        ne_eqb y.number r.number (past y.number (release_count r.user w.releases) r.number (subst (λ k. y.number ≤ release_count k w.releases) (eqb-true y.user r.user is) (adds.releases y there)) next)
    go y there false is = refl

-- ---- the two banks with it

module _ (t : Turn) (old new : WorldLists) (stay : StayAlike t old new) (at_old r : Release) (user : at_old.user ≡ r.user) (number : at_old.number ≡ r.number) (same : IsSameRelease t at_old r)
    (old_next : IsNextRelease old.releases at_old) (new_next : IsNextRelease new.releases r) where
  tested : (u n : ℕ) → is_release u n at_old ≡ is_release u n r
  tested u n = ap₂ (λ k m. k == u && m == n) user number

  here : (w : WorldLists) (s : Release) → release w s.user s.number ≡ None → (u n : ℕ) → is_release u n s ≡ true → release w u n ≡ None
  here w s none u n is =
      let parts = and_parts (s.user == u) (s.number == n) is in
      ap₂ (release w) (sym (eqb-true s.user u parts.0)) (sym (eqb-true s.number n parts.1)) ∙ none

  releases : (u n : ℕ) → AreBoth (IsReleaseAlike t) (release (written (write.Release at_old) old) u n) (release (written (write.Release r) new) u n)
  releases u n = go (is_release u n r) refl
    where
      go : (c : Bool) → is_release u n r ≡ c → AreBoth (IsReleaseAlike t) (release (written (write.Release at_old) old) u n) (release (written (write.Release r) new) u n)
      go true is =
          carried (AreBoth (IsReleaseAlike t)) _ _ _ _
          (found_added release_key (is_release u n) at_old old.releases (tested u n ∙ is) (here old at_old (free old at_old stay.old_adds old_next) u n (tested u n ∙ is)))
          (found_added release_key (is_release u n) r new.releases is (here new r (free new r stay.new_adds new_next) u n is)) (inl same)
      go false is =
          carried (AreBoth (IsReleaseAlike t)) _ _ _ _ (find-add_row release_key (is_release u n) at_old old.releases (tested u n ∙ is))
          (find-add_row release_key (is_release u n) r new.releases is) (stay.releases u n)

  -- A release that comes next at both.
  pub release_stays : StayAlike t (written (write.Release at_old) old) (written (write.Release r) new)
  release_stays = record {
    alike = record {
      accounts = stay.alike.accounts;
      tellers = stay.alike.tellers;
      branches = stay.alike.branches;
      rosters = stay.alike.rosters;
      entries = stay.alike.entries;
      undone = stay.alike.undone;
      users = λ key.
          user_after old at_old key ∙ ap (λ k. option_map (with_release k key) (user_record old key)) user ∙ ap (option_map (with_release r.user key)) (stay.alike.users key)
          ∙ sym (user_after new r key);
    };
    old_adds = release_adds old at_old stay.old_adds old_next;
    new_adds = release_adds new r stay.new_adds new_next;
    turns = stay.turns;
    given = λ u.
        count-add_row release_key (λ x. x.user == u) at_old old.releases
        ∙ ap₂ (λ n k. n + cond (k == u) 1 0) (stay.given u) user
        ∙ sym (count-add_row release_key (λ x. x.user == u) r new.releases);
    releases = releases;
  }
