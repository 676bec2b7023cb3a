-- A World with one more account is kept.
use Rattle.std.proofs.Common.{◌≡◌, ℤ, pos, ◌+ℤ◌, map, Bool, true, false, refl, ap, arith, sym, ◌∙◌, subst, ◌==◌, Contains}
use Rattle.std.specs.Prelude.{if◌then◌else◌}
use Rattle.std.specs.Option.{option_map_or}
use Rattle.std.proofs.lemmas.Bool.{ne_eqb}
use Rattle.std.proofs.lemmas.Int.{ints}
use Rattle.keyed_rows.specs.Ordered.{AreDistinct, add_row}
use Rattle.bank_books.specs.Balances.{account_deltas, deltas_up_to, turn_count}
use Rattle.bank_books.specs.Effects.{written}
use Rattle.bank_books.specs.Keys.{account_key}
use Rattle.bank_books.specs.Records.{account_record_of, branch_record_of, entry_record_of}
use Rattle.bank_books.specs.WorldLists.{WorldLists}
use Rattle.bank_books.specs.declared.records.BranchRecord.{BranchRecord}
use Rattle.bank_books.specs.declared.row_write.RowWrite.TheVariants as write
use Rattle.bank_books.specs.declared.rows.Account.{Account}
use Rattle.bank_books.specs.declared.rows.Branch.{Branch}
use Rattle.bank_books.specs.declared.rows.Entry.{Entry}
use Rattle.keyed_rows.proofs.Rows.{HasRow-add_row, count_named, count_none, count_other, find-add_row, map-map, total_none}
use Rattle.book_laws.specs.Moves.{branch_homed}
use Rattle.book_kept.proofs.RowLemmas.{IsFree-map, IsOrdered-add_row, map-add_row, map_same, set_by_key}
use Rattle.book_kept.specs.Changes.{account_sheets}
use Rattle.book_kept.specs.Keepable.{IsKeepable}
use Rattle.book_kept.specs.Kept.{IsKept}
use Rattle.book_kept.specs.Named.{IsBranchRow, IsFree}
use Rattle.book_kept.specs.Records.{account_begun}
use Rattle.book_kept.specs.Sheets.{account_no, branch_no, set_row, sheets_of}
use Rattle.book_kept.specs.declared.account.AccountRows.{AccountRows}

-- its home has one account more
homes : (w : WorldLists) (a : Account) (row : Branch) (named : Bool) → (a.home == row.branch) ≡ named
    → branch_record_of (written (write.Account a) w) row ≡ (if named then branch_homed (branch_record_of w row) else branch_record_of w row)
homes w a row true is = ap (λ n. record (branch_record_of w row) { accounts = n }) (count_named account_key (λ r. r.home == row.branch) a w.accounts is)
homes w a row false is = ap (λ n. record (branch_record_of w row) { accounts = n }) (count_other account_key (λ r. r.home == row.branch) a w.accounts is)

-- no entry names it yet
unnamed : (w : WorldLists) (a : Account) → IsKeepable w → IsFree account_key w.accounts a.account → (e : Entry) → Contains w.entries e → (e.account == a.account) ≡ false
unnamed w a can free e there =
    let (row, (among, is)) = can.entries.named e there in
    ne_eqb e.account a.account (λ same. free row among (is ∙ same))

plus_zero : (z : ℤ) → z +ℤ pos 0 ≡ z
plus_zero z = omega (arith, ints)

-- so it begins with its opening, and no turns
new_record : (w : WorldLists) (a : Account) → IsKeepable w → IsFree account_key w.accounts a.account → account_record_of (written (write.Account a) w) a ≡ account_begun a
new_record w a can free =
    let none = unnamed w a can free in
    let balance : a.opening +ℤ account_deltas a.account w.entries ≡ a.opening = ap (λ z. a.opening +ℤ z) (total_none (λ e. e.account == a.account) (λ e. e.delta) w.entries none) ∙ plus_zero a.opening in
    let turns : turn_count a.account w.entries ≡ 0 = count_none (λ e. e.account == a.account) w.entries none in
    λ i. record { row = a; balance = balance i; turns = turns i }

-- and the balances after entries, which name other accounts, stay
entry_stays : (w : WorldLists) (a : Account) → IsKeepable w → IsFree account_key w.accounts a.account → (e : Entry) → Contains w.entries e → entry_record_of (written (write.Account a) w) e ≡ entry_record_of w e
entry_stays w a can free e there =
    let (row, (among, is)) = can.entries.named e there in
    let other : (a.account == e.account) ≡ false = ne_eqb a.account e.account (λ same. free row among (is ∙ sym same)) in
    ap (λ o. record (entry_record_of w e) { balance_after = option_map_or (λ r. r.opening) o (pos 0) +ℤ deltas_up_to e.account e.turn w.entries })
    (find-add_row account_key (λ r. r.account == e.account) a w.accounts other)

keeps : (w : WorldLists) (a : Account) → IsKeepable w → IsFree account_key w.accounts a.account → IsKeepable (written (write.Account a) w)
keeps w a can free = record {
  branches = can.branches;
  tellers = can.tellers;
  accounts = IsOrdered-add_row account_key a w.accounts can.accounts free;
  entries = record {
    ordered = can.entries.ordered;
    named = λ e there. HasRow-add_row account_key a w.accounts e.account (can.entries.named e there);
    turns = can.entries.turns;
    numbers = can.entries.numbers;
    small = can.entries.small;
  };
  lines = can.lines;
  proofs = can.proofs;
  releases = can.releases;
  slips = can.slips;
  policy = can.policy;
}

pub account_keeps : (w : WorldLists) (a : Account) (home : BranchRecord) (rows : AccountRows) → IsKeepable w → IsBranchRow (sheets_of w) a.home home → IsFree account_no (sheets_of w).accounts a.account
    → rows.home ≡ branch_homed home → rows.account ≡ account_begun a → IsKept w (write.Account a) (account_sheets rows)
account_keeps w a home rows can of none home_is account_is =
    let free : IsFree account_key w.accounts a.account = IsFree-map account_no (account_record_of w) w.accounts a.account none in
    let after = written (write.Account a) w in
    let branches : map (branch_record_of after) w.branches ≡ set_row branch_no rows.home (map (branch_record_of w) w.branches) =
    set_by_key branch_no (branch_record_of w) (branch_record_of after) branch_homed a.home home rows.home w.branches
    (subst AreDistinct (sym (map-map (branch_record_of w) branch_no w.branches)) can.branches.distinct) of (λ r. refl) home_is (λ x among. homes w a x (a.home == x.branch) refl) in
    let accounts : map (account_record_of after) (add_row account_key a w.accounts) ≡ add_row account_no rows.account (map (account_record_of w) w.accounts) =
    map-add_row account_no (account_record_of after) a w.accounts ∙ ap (λ r. add_row account_no r (map (account_record_of w) w.accounts)) (new_record w a can free ∙ sym account_is) in
    let entries : map (entry_record_of after) w.entries ≡ map (entry_record_of w) w.entries = map_same (entry_record_of after) (entry_record_of w) w.entries (λ e there. entry_stays w a can free e there) in
    record { keepable = keeps w a can free; sheets = λ i. record (sheets_of w) { branches = branches i; accounts = accounts i; entries = entries i } }
