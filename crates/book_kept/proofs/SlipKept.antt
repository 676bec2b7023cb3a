-- A World with one more slip is kept.
use Rattle.std.proofs.Common.{◌≡◌, ℕ, ◌+◌, ◌<◌, ◌^◌, map, Bool, true, false, refl, ap, sym, ◌∙◌, ◌==◌}
use Rattle.std.specs.Prelude.{if◌then◌else◌}
use Rattle.std.proofs.lemmas.Bool.{eq-eqb, eqb-true, false≢true, ne_eqb}
use Rattle.keyed_rows.specs.Changed.{change_rows}
use Rattle.keyed_rows.specs.Ordered.{HasRow, add_row}
use Rattle.bank_policy.specs.PolicyKeys.{user_key}
use Rattle.bank_policy.specs.declared.rows.User.{User}
use Rattle.bank_books.specs.Effects.{written}
use Rattle.bank_books.specs.Keys.{slip_key}
use Rattle.bank_books.specs.Records.{slip_count}
use Rattle.bank_books.specs.SlipRow.{SlipRow}
use Rattle.bank_books.specs.WorldLists.{WorldLists}
use Rattle.bank_books.specs.declared.row_write.RowWrite.TheVariants as write
use Rattle.keyed_rows.proofs.Rows.{count_named, count_other, each_added, found_row, map-map}
use Rattle.book_kept.proofs.RowLemmas.{IsOrdered-add_row, find-map, map_same, source}
use Rattle.book_kept.specs.Laws.{SlipIsKept}
use Rattle.book_kept.specs.Records.{slip_count_of}
use Rattle.book_kept.specs.Sheets.{sheets_of, slip_no}
use Rattle.book_kept.specs.declared.records.SlipCount.{SlipCount}

pub slip_is_kept : SlipIsKept
slip_is_kept w s slips can has small free =
    let ux = source (slip_count_of w) _ has.row (sym (find-map (λ c. slip_no c == s.user) (slip_count_of w) w.policy.users) ∙ has.found) in
    let there = found_row user_key s.user w.policy.users ux.0 ux.1.0 in
    let count : slip_count s.user w.slips ≡ slips = ap (λ k. slip_count k w.slips) (sym there.1) ∙ ap (λ (c : SlipCount). c.slips) ux.1.1 ∙ has.count in
    let counts : map (slip_count_of (written (write.Slip s) w)) w.policy.users ≡ change_rows slip_no s.user (λ c. record c { slips = slips + 1 }) (map (slip_count_of w) w.policy.users) =
    map_same (slip_count_of (written (write.Slip s) w)) (λ x. if x.user == s.user then record (slip_count_of w x) { slips = slips + 1 } else slip_count_of w x) w.policy.users
    (λ x among. by count x (x.user == s.user) refl)
    ∙ sym (map-map (slip_count_of w) (λ c. if slip_no c == s.user then record c { slips = slips + 1 } else c) w.policy.users) in
    record {
      keepable = record {
        branches = can.branches;
        tellers = can.tellers;
        accounts = can.accounts;
        entries = can.entries;
        lines = can.lines;
        proofs = can.proofs;
        releases = can.releases;
        slips = record {
          ordered = IsOrdered-add_row slip_key s w.slips can.slips.ordered free;
          named = each_added slip_key s w.slips (λ o. HasRow user_key w.policy.users o.user) (ux.0, there) can.slips.named;
          small = each_added slip_key s w.slips (λ o. o.number < 2 ^ 32) small can.slips.small;
        };
        policy = can.policy;
      };
      sheets = λ i. record (sheets_of w) { slips = add_row slip_key s w.slips; slip_counts = counts i };
    }
  where
    by : slip_count s.user w.slips ≡ slips → (x : User) (b : Bool) → (x.user == s.user) ≡ b
        → slip_count_of (written (write.Slip s) w) x ≡ (if b then record (slip_count_of w x) { slips = slips + 1 } else slip_count_of w x)
    by is x true of =
        let same = eqb-true x.user s.user of in
        ap (λ n. record (slip_count_of w x) { slips = n })
        (count_named slip_key (λ o. o.user == x.user) s w.slips (eq-eqb s.user x.user (sym same)) ∙ ap (λ k. slip_count k w.slips + 1) same ∙ ap (λ n. n + 1) is)
    by is x false of =
        ap (λ n. record (slip_count_of w x) { slips = n }) (count_other slip_key (λ o. o.user == x.user) s w.slips (ne_eqb s.user x.user (λ same. absurd (false≢true (sym of ∙ eq-eqb x.user s.user (sym same))))))
