-- A World stays kept over changes that move no number.
use Rattle.std.proofs.Common.{◌≡◌, ◌≢◌, ℕ, List, map, true, false, refl, ap, sym, ◌∙◌, subst, ◌==◌, ◌≤◌, ◌<◌, ◌^◌, Option, Some, None, Contains, Bool}
use Rattle.std.specs.Prelude.{option_map, if◌then◌else◌}
use Rattle.std.specs.List.{find}
use Rattle.keyed_rows.specs.Changed.{change_rows}
use Rattle.keyed_rows.specs.Ordered.{HasRow}
use Rattle.bank_policy.specs.PolicyKeys.{user_key}
use Rattle.bank_policy.specs.PolicyWrites.{in_session}
use Rattle.bank_policy.specs.declared.rows.User.{User}
use Rattle.bank_books.specs.Effects.{on_day, used_up, written}
use Rattle.bank_books.specs.Keys.{branch_key, proof_key, release_key, release_number, teller_key}
use Rattle.bank_books.specs.Records.{account_record_of, branch_record_of, release_count, teller_record_of, slip_count}
use Rattle.bank_books.specs.WorldLists.{WorldLists}
use Rattle.bank_books.specs.declared.row_write.RowWrite.TheVariants as write
use Rattle.bank_books.specs.declared.rows.Release.{Release}
use Rattle.bank_books.specs.declared.rows.Teller.{Teller}
use Rattle.book_laws.proofs.ChangedRows.{HasRow-changed, count-changed, each_changed}
use Rattle.keyed_rows.proofs.Rows.{found_row, map-map}
use Rattle.book_kept.proofs.RowLemmas.{IsOrdered-add_row, IsOrdered-changed, find-map, map-change_rows, map_same, source}
use Rattle.book_kept.specs.Keepable.{AreReleasesKeepable, AreSlipsKeepable}
use Rattle.book_kept.specs.Laws.{DayIsKept, ProofIsKept, RowsDetermineAnswers, SessionIsKept, UsedIsKept, VersionIsKept}
use Rattle.book_kept.specs.Records.{kept_teller, kept_teller_of, kept_user_of, slip_count_of}
use Rattle.book_kept.specs.Sheets.{account_no, branch_no, sheets_of, teller_no, user_no}
use Rattle.bank_books.specs.SlipRow.{SlipRow}

pub proof_is_kept : ProofIsKept
proof_is_kept w p can free = record {
  keepable = record {
    branches = can.branches;
    tellers = can.tellers;
    accounts = can.accounts;
    entries = can.entries;
    lines = can.lines;
    proofs = IsOrdered-add_row proof_key p w.proofs can.proofs free;
    releases = can.releases;
    slips = can.slips;
    policy = can.policy;
  };
  sheets = refl;
}

pub day_is_kept : DayIsKept
day_is_kept w d can =
    let branches =
    map-change_rows branch_key branch_no d.branch (on_day d.day) (λ b. record b { row = on_day d.day b.row }) (branch_record_of w) (branch_record_of (written (write.Day d) w)) (λ x. refl) (λ x. refl) (λ x. refl)
    w.branches in
    record {
      keepable = record {
        branches = IsOrdered-changed branch_key d.branch (on_day d.day) (λ x. refl) w.branches can.branches;
        tellers = can.tellers;
        accounts = can.accounts;
        entries = can.entries;
        lines = can.lines;
        proofs = can.proofs;
        releases = can.releases;
        slips = can.slips;
        policy = can.policy;
      };
      sheets = λ i. record (sheets_of w) { branches = branches i };
    }

-- ---- a release that is used up

abbrev pub with_used : ℕ → List Release → List Release
with_used k rows = change_rows release_key k used_up rows

count_stays : (k user : ℕ) (rows : List Release) → release_count user (with_used k rows) ≡ release_count user rows
count_stays k user rows = count-changed release_key k used_up (λ r. r.user == user) (λ r. refl) rows

releases_stay : (users : List User) (k : ℕ) (rows : List Release) → AreReleasesKeepable users rows → AreReleasesKeepable users (with_used k rows)
releases_stay users k rows was = record {
  ordered = IsOrdered-changed release_key k used_up (λ r. refl) rows was.ordered;
  named = each_changed release_key k used_up rows (λ r. HasRow user_key users r.user) (λ r there is. was.named r there) (λ r there is. was.named r there);
  numbers =
      each_changed release_key k used_up rows (λ r. r.number ≤ release_count r.user (with_used k rows)) (λ r there is. counted r there) (λ r there is. counted r there);
  small = each_changed release_key k used_up rows (λ r. r.number < 2 ^ 32) (λ r there is. was.small r there) (λ r there is. was.small r there);
}
  where
    counted : (r : Release) → Contains rows r → r.number ≤ release_count r.user (with_used k rows)
    counted r there = subst (λ n. r.number ≤ n) (sym (count_stays k r.user rows)) (was.numbers r there)

pub used_is_kept : UsedIsKept
used_is_kept w k can =
    let key = release_number k.user k.number in
    let users = map_same (kept_user_of (written (write.Used k) w)) (kept_user_of w) w.policy.users (λ x there. ap (λ n. record (kept_user_of w x) { releases = n }) (count_stays key x.user w.releases)) in
    record {
      keepable = record {
        branches = can.branches;
        tellers = can.tellers;
        accounts = can.accounts;
        entries = can.entries;
        lines = can.lines;
        proofs = can.proofs;
        releases = releases_stay w.policy.users key w.releases can.releases;
        slips = can.slips;
        policy = can.policy;
      };
      sheets = λ i. record (sheets_of w) { releases = with_used key w.releases; users = users i };
    }

-- ---- a user who is made anew, by a session or a suspension

pub users_after : (w after : WorldLists) (k : ℕ) (made : User → User) → after.releases ≡ w.releases → ((u : User) → (made u).user ≡ u.user)
    → map (kept_user_of after) (change_rows user_key k made w.policy.users) ≡ change_rows user_no k (λ u. record u { row = made u.row }) (map (kept_user_of w) w.policy.users)
users_after w after k made same keeps =
    map-change_rows user_key user_no k made (λ u. record u { row = made u.row }) (kept_user_of w) (kept_user_of after) (λ u. refl)
    (λ u. λ i. record { row = made u; releases = release_count (keeps u i) (same i) }) (λ u. λ i. record { row = u; releases = release_count u.user (same i) }) w.policy.users

pub releases_after : (k : ℕ) (made : User → User) (users : List User) (rows : List Release) → ((u : User) → (made u).user ≡ u.user) → AreReleasesKeepable users rows → AreReleasesKeepable (change_rows user_key k made users) rows
releases_after k made users rows keeps was = record {
  ordered = was.ordered;
  named = λ r there. HasRow-changed user_key k made keeps users r.user (was.named r there);
  numbers = was.numbers;
  small = was.small;
}

-- the user has as many slips, and those still name that user
pub counts_after : (w : WorldLists) (k : ℕ) (made : User → User) → ((u : User) → (made u).user ≡ u.user) → map (slip_count_of w) (change_rows user_key k made w.policy.users) ≡ map (slip_count_of w) w.policy.users
counts_after w k made keeps =
    map-map (λ u. if user_key u == k then made u else u) (slip_count_of w) w.policy.users
    ∙ map_same (λ u. slip_count_of w (if user_key u == k then made u else u)) (slip_count_of w) w.policy.users (λ u there. by u (user_key u == k))
  where
    by : (u : User) (b : Bool) → slip_count_of w (if b then made u else u) ≡ slip_count_of w u
    by u true = λ i. record { user = keeps u i; slips = slip_count (keeps u i) w.slips }
    by u false = refl

pub slips_after : (k : ℕ) (made : User → User) (users : List User) (rows : List SlipRow) → ((u : User) → (made u).user ≡ u.user) → AreSlipsKeepable users rows → AreSlipsKeepable (change_rows user_key k made users) rows
slips_after k made users rows keeps was = record {
  ordered = was.ordered;
  named = λ s there. HasRow-changed user_key k made keeps users s.user (was.named s there);
  small = was.small;
}

pub session_is_kept : SessionIsKept
session_is_kept w c can =
    let users = users_after w (written (write.Session c) w) c.user (in_session c) refl (λ u. refl) in
    let counts = counts_after w c.user (in_session c) (λ u. refl) in
    record {
      keepable = record {
        branches = can.branches;
        tellers = can.tellers;
        accounts = can.accounts;
        entries = can.entries;
        lines = can.lines;
        proofs = can.proofs;
        releases = releases_after c.user (in_session c) w.policy.users w.releases (λ u. refl) can.releases;
        slips = slips_after c.user (in_session c) w.policy.users w.slips (λ u. refl) can.slips;
        policy = record {
          users = IsOrdered-changed user_key c.user (in_session c) (λ u. refl) w.policy.users can.policy.users;
          sets = can.policy.sets;
          places = can.policy.places;
          relations = can.policy.relations;
          triples = can.policy.triples;
          certifiers = can.policy.certifiers;
        };
      };
      sheets = λ i. record (sheets_of w) { users = users i; slip_counts = counts i };
    }

pub version_is_kept : VersionIsKept
version_is_kept w true can = record {
  keepable = record {
    branches = can.branches;
    tellers = can.tellers;
    accounts = can.accounts;
    entries = can.entries;
    lines = can.lines;
    proofs = can.proofs;
    releases = can.releases;
    slips = can.slips;
    policy = can.policy;
  };
  sheets = refl;
}
version_is_kept w false can = record { keepable = can; sheets = refl }

-- ---- rows by key

pub rows_determine_answers : RowsDetermineAnswers
rows_determine_answers w key can = record {
  account = find-map (λ r. account_no r == key) (account_record_of w) w.accounts;
  teller = find-map (λ r. teller_no r == key) (kept_teller_of w) w.tellers ∙ twice (find (λ r. r.teller == key) w.tellers);
  holder = λ t is.
      let tx = source (teller_record_of w) (find (λ r. r.teller == key) w.tellers) t is in
      subst (λ r. r.holder ≢ Some 0) tx.1.1 (can.tellers.holders tx.0 (found_row teller_key key w.tellers tx.0 tx.1.0).0);
  branch = find-map (λ r. branch_no r == key) (branch_record_of w) w.branches;
  user = find-map (λ r. user_no r == key) (kept_user_of w) w.policy.users;
}
  where
    twice : (o : Option Teller) → option_map (kept_teller_of w) o ≡ option_map kept_teller (option_map (teller_record_of w) o)
    twice None = refl
    twice (Some t) = refl
