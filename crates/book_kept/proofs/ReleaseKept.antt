-- A World with one more release is kept.
use Rattle.std.proofs.Common.{◌≡◌, ℕ, ◌+◌, ◌<◌, ◌^◌, map, Bool, true, false, refl, ap, sym, ◌∙◌, ◌==◌}
use Rattle.std.specs.Prelude.{if◌then◌else◌}
use Rattle.std.proofs.lemmas.Bool.{eq-eqb, eqb-true, false≢true, ne_eqb}
use Rattle.keyed_rows.specs.Changed.{change_rows}
use Rattle.keyed_rows.specs.Ordered.{HasRow, add_row}
use Rattle.bank_policy.specs.PolicyKeys.{user_key}
use Rattle.bank_policy.specs.declared.rows.User.{User}
use Rattle.bank_books.specs.Effects.{written}
use Rattle.bank_books.specs.Keys.{release_key}
use Rattle.bank_books.specs.Records.{release_count}
use Rattle.bank_books.specs.WorldLists.{WorldLists}
use Rattle.bank_books.specs.declared.row_write.RowWrite.TheVariants as write
use Rattle.bank_books.specs.declared.rows.Release.{Release}
use Rattle.keyed_rows.proofs.Rows.{count_named, count_other, each_added, found_row, map-map}
use Rattle.book_kept.proofs.NextNumber.{AreCounted-add_row, next_is_free}
use Rattle.book_kept.proofs.RowLemmas.{IsOrdered-add_row, find-map, map_same, source}
use Rattle.book_kept.specs.Changes.{release_sheets}
use Rattle.book_kept.specs.Keepable.{IsKeepable}
use Rattle.book_kept.specs.Kept.{IsKept}
use Rattle.book_kept.specs.Named.{HasReleases}
use Rattle.book_kept.specs.Records.{kept_user_of}
use Rattle.book_kept.specs.Sheets.{sheets_of, user_no}
use Rattle.book_kept.specs.declared.records.KeptUser.{KeptUser}

keeps : (w : WorldLists) (r : Release) → IsKeepable w → r.number < 2 ^ 32 → r.number ≡ release_count r.user w.releases + 1 → HasRow user_key w.policy.users r.user → IsKeepable (written (write.Release r) w)
keeps w r can small number user =
    let was = can.releases in
    record {
      branches = can.branches;
      tellers = can.tellers;
      accounts = can.accounts;
      entries = can.entries;
      lines = can.lines;
      proofs = can.proofs;
      releases = record {
        ordered = IsOrdered-add_row release_key r w.releases was.ordered (next_is_free release_key (λ o. o.user) (λ o. o.number) r w.releases (λ o. refl) was.small small was.numbers number);
        named = each_added release_key r w.releases (λ o. HasRow user_key w.policy.users o.user) user was.named;
        numbers = AreCounted-add_row release_key (λ o. o.user) (λ o. o.number) r w.releases was.numbers number;
        small = each_added release_key r w.releases (λ o. o.number < 2 ^ 32) small was.small;
      };
      slips = can.slips;
      policy = can.policy;
    }

pub release_keeps : (w : WorldLists) (r : Release) (releases after : ℕ) → IsKeepable w → HasReleases (sheets_of w) r.user releases → r.number < 2 ^ 32 → after ≡ releases + 1 → r.number ≡ after
    → IsKept w (write.Release r) (release_sheets r after)
release_keeps w r releases after can has small next number =
    let ux = source (kept_user_of w) _ has.row (sym (find-map (λ u. user_no u == r.user) (kept_user_of w) w.policy.users) ∙ has.found) in
    let there = found_row user_key r.user w.policy.users ux.0 ux.1.0 in
    let count : release_count r.user w.releases ≡ releases = ap (λ k. release_count k w.releases) (sym there.1) ∙ ap (λ (u : KeptUser). u.releases) ux.1.1 ∙ has.count in
    let after_is : after ≡ release_count r.user w.releases + 1 = next ∙ ap (λ n. n + 1) (sym count) in
    let users : map (kept_user_of (written (write.Release r) w)) w.policy.users ≡ change_rows user_no r.user (λ u. record u { releases = after }) (map (kept_user_of w) w.policy.users) =
    map_same (kept_user_of (written (write.Release r) w)) (λ x. if x.user == r.user then record (kept_user_of w x) { releases = after } else kept_user_of w x) w.policy.users
    (λ x among. by after_is x (x.user == r.user) refl)
    ∙ sym (map-map (kept_user_of w) (λ u. if user_no u == r.user then record u { releases = after } else u) w.policy.users) in
    record {
      keepable = keeps w r can small (number ∙ after_is) (ux.0, there);
      sheets = λ i. record (sheets_of w) { releases = add_row release_key r w.releases; users = users i };
    }
  where
    by : after ≡ release_count r.user w.releases + 1 → (x : User) (b : Bool) → (x.user == r.user) ≡ b
        → kept_user_of (written (write.Release r) w) x ≡ (if b then record (kept_user_of w x) { releases = after } else kept_user_of w x)
    by is x true of =
        let same = eqb-true x.user r.user of in
        ap (λ n. record (kept_user_of w x) { releases = n })
        (count_named release_key (λ o. o.user == x.user) r w.releases (eq-eqb r.user x.user (sym same)) ∙ ap (λ k. release_count k w.releases + 1) same ∙ sym is)
    by is x false of =
        ap (λ n. record (kept_user_of w x) { releases = n }) (count_other release_key (λ o. o.user == x.user) r w.releases (ne_eqb r.user x.user (λ same. absurd (false≢true (sym of ∙ eq-eqb x.user r.user (sym same))))))
