-- Rows that are known of a World: as the tables have them, after changes of other rows, and after entries.
use Rattle.std.proofs.Common.{◌≡◌, ◌≢◌, ◌∙◌, ℕ, Bool, true, false, cond, List, [], ◌∷◌, None, Some, ◌==◌, ◌||◌, ap, refl, subst, sym}
use Rattle.std.specs.Prelude.{if◌then◌else◌, option_map}
use Rattle.std.specs.List.{find}
use Rattle.std.proofs.lemmas.Bool.{eq-eqb, eqb-true, false≢true, ne_eqb}
use Rattle.bank_books.specs.Effects.{all_written, applied, in_full, written}
use Rattle.keyed_rows.proofs.Rows.{found_row}
use Rattle.bank_policy.specs.PolicyKeys.{user_key}
use Rattle.bank_books.specs.Records.{account_record, branch_record, slip_count, teller_record}
use Rattle.bank_books.specs.SlipRow.{SlipRow}
use Rattle.bank_books.specs.Version.{changes_policy, has_version_for, with_version}
use Rattle.bank_books.specs.WorldLists.{WorldLists}
use Rattle.bank_books.specs.declared.records.AccountRecord.{AccountRecord}
use Rattle.bank_books.specs.declared.records.BranchRecord.{BranchRecord}
use Rattle.bank_books.specs.declared.records.TellerRecord.{TellerRecord}
use Rattle.bank_books.specs.declared.row_write.RowWrite.{RowWrite}
use Rattle.bank_books.specs.declared.row_write.RowWrite.TheVariants as write
use Rattle.bank_books.specs.declared.rows.CashLine.{CashLine}
use Rattle.bank_books.specs.declared.rows.Entry.{Entry}
use Rattle.book_kept.specs.Changes.{legs_sheets, posting_sheets}
use Rattle.book_kept.specs.Keepable.{IsKeepable}
use Rattle.book_kept.specs.Named.{AreOfEntry, AreOfLegs, IsAccountRow, IsBranchRow, IsTellerRow}
use Rattle.book_kept.specs.Records.{kept_teller, slip_count_of}
use Rattle.book_kept.specs.Sheets.{Sheets, account_no, branch_no, set_row, sheets_of, slip_no, teller_no}
use Rattle.book_kept.specs.declared.entry.EntryRows.{EntryRows}
use Rattle.book_kept.specs.declared.legs.LegRows.{LegRows}
use Rattle.book_kept.specs.declared.records.KeptTeller.{KeptTeller}
use Rattle.book_kept.specs.declared.records.SlipCount.{SlipCount}
use Rattle.book_kept.proofs.PlainKept.{rows_determine_answers}
use Rattle.book_kept.proofs.PostingKept.{find-set_row}
use Rattle.book_kept.proofs.RowLemmas.{find-map, source}
use Rattle.sql_writes.specs.Known.{AreKnownOf, AreLeftBy, AreLegsLeft, IsKeptOf, is_of_books, moves_books}
use Rattle.sql_writes.specs.declared.known.KnownRows.{KnownRows}

-- ---- as the tables have it

pub account_row_is : (w : WorldLists) (number : ℕ) (a : AccountRecord) → IsKeepable w → account_record w number ≡ Some a → IsAccountRow (sheets_of w) number a
account_row_is w number a can is = (rows_determine_answers w number can).account ∙ is

pub teller_row_is : (w : WorldLists) (number : ℕ) (t : TellerRecord) (kept : KeptTeller) → IsKeepable w → teller_record w number ≡ Some t → kept ≡ kept_teller t → IsTellerRow (sheets_of w) number kept
teller_row_is w number t kept can is made = (rows_determine_answers w number can).teller ∙ ap (option_map kept_teller) is ∙ ap (λ k. Some k) (sym made)

pub branch_row_is : (w : WorldLists) (number : ℕ) (b : BranchRecord) → IsKeepable w → branch_record w number ≡ Some b → IsBranchRow (sheets_of w) number b
branch_row_is w number b can is = (rows_determine_answers w number can).branch ∙ is

-- ---- after changes of other rows

either : (a b : Bool) → (a || b) ≡ false → (a ≡ false) × (b ≡ false)
either true b none = absurd cc
either false b none = (refl, none)

-- what is known but of slips
abbrev but_slips : KnownRows → KnownRows
but_slips known = record known { slips = None }

one_written : (row : RowWrite) (w : WorldLists) (known : KnownRows) → is_of_books row ≡ false → AreKnownOf w (but_slips known) → AreKnownOf (written row w) (but_slips known)
one_written (write.Account row) w known none is = absurd cc
one_written (write.Entry row) w known none is = absurd cc
one_written (write.Line row) w known none is = absurd cc
one_written (write.Proof row) w known none is = record { account = is.account; other = is.other; teller = is.teller; branch = is.branch; slips = tt }
one_written (write.Release row) w known none is = record { account = is.account; other = is.other; teller = is.teller; branch = is.branch; slips = tt }
one_written (write.Day d) w known none is = absurd cc
one_written (write.Used k) w known none is = record { account = is.account; other = is.other; teller = is.teller; branch = is.branch; slips = tt }
one_written (write.Slip row) w known none is = record { account = is.account; other = is.other; teller = is.teller; branch = is.branch; slips = tt }
one_written (write.Session s) w known none is = record { account = is.account; other = is.other; teller = is.teller; branch = is.branch; slips = tt }
one_written (write.Policy change) w known none is = record { account = is.account; other = is.other; teller = is.teller; branch = is.branch; slips = tt }

along : (plan : List RowWrite) (w : WorldLists) (known : KnownRows) → moves_books plan ≡ false → AreKnownOf w (but_slips known) → AreKnownOf (all_written plan w) (but_slips known)
along [] w known none is = is
along (row ∷ plan) w known none is =
    let both = either (is_of_books row) (moves_books plan) none in
    along plan (written row w) known both.1 (one_written row w known both.0 is)

pub known_along : (plan : List RowWrite) (w : WorldLists) (known : KnownRows) → moves_books plan ≡ false → AreKnownOf w known → AreKnownOf (all_written plan w) (record known { slips = None })
known_along plan w known none is = along plan w known none (record { account = is.account; other = is.other; teller = is.teller; branch = is.branch; slips = tt })

pub known_applied : (plan : List RowWrite) (w : WorldLists) (known : KnownRows) → has_version_for plan w.version ≡ true → AreKnownOf (all_written plan w) known → AreKnownOf (applied plan w) known
known_applied plan w known room is = subst (λ b. AreKnownOf (if b then in_full plan w else w) known) (sym room) (raised (changes_policy plan))
  where
    raised : (b : Bool) → AreKnownOf (with_version b (all_written plan w)) known
    raised true = record { account = is.account; other = is.other; teller = is.teller; branch = is.branch; slips = is.slips }
    raised false = is

-- ---- slips

-- how many a user has, by the row that is kept of that
pub slips_of_row : (w : WorldLists) (user : ℕ) (c : SlipCount) → find (λ it. slip_no it == user) (sheets_of w).slip_counts ≡ Some c → c.slips ≡ slip_count user w.slips
slips_of_row w user c found =
    let it = source (slip_count_of w) (find (λ u. u.user == user) w.policy.users) c (sym (find-map (λ it. slip_no it == user) (slip_count_of w) w.policy.users) ∙ found) in
    sym (ap (λ (x : SlipCount). x.slips) it.1.1) ∙ ap (λ k. slip_count k w.slips) (found_row user_key user w.policy.users it.0 it.1.0).1

-- after a slip of a user the row that bears one more is the one that is kept, and the rows of the books are as they were
pub slip_left : (w : WorldLists) (r : SlipRow) (old new : SlipCount) (known : KnownRows) → find (λ it. slip_no it == r.user) (sheets_of w).slip_counts ≡ Some old → new.user ≡ r.user
    → (sheets_of (written (write.Slip r) w)).slip_counts ≡ set_row slip_no new (sheets_of w).slip_counts → AreKnownOf w known → AreKnownOf (written (write.Slip r) w) (record known { slips = Some new })
slip_left w r old new known found at is of = record {
  account = of.account;
  other = of.other;
  teller = of.teller;
  branch = of.branch;
  slips = ap (find (λ it. slip_no it == new.user)) is ∙ find-set_row slip_no new.user old new (sheets_of w).slip_counts refl (subst (λ k. find (λ it. slip_no it == k) (sheets_of w).slip_counts ≡ Some old) (sym at) found);
}

-- ---- after entries

-- where a row was set, the one of another key is found as before
find-set_other : {X : Type 0} (key : X → ℕ) (k : ℕ) (new : X) (xs : List X) → k ≢ key new → find (λ x. key x == k) (set_row key new xs) ≡ find (λ x. key x == k) xs
find-set_other key k new [] other = refl
find-set_other {X} key k new (x ∷ xs) other = by (key x == key new) refl (find-set_other key k new xs other)
  where
    by : (b : Bool) → (key x == key new) ≡ b → find (λ y. key y == k) (set_row key new xs) ≡ find (λ y. key y == k) xs
        → cond (key (if b then new else x) == k) (Some (if b then new else x)) (find (λ y. key y == k) (set_row key new xs)) ≡ cond (key x == k) (Some x) (find (λ y. key y == k) xs)
    by true is rest =
        ap (λ c. cond c (Some new) (find (λ y. key y == k) (set_row key new xs))) (ne_eqb (key new) k (λ same. other (sym same))) ∙ rest
        ∙ ap (λ c. cond c (Some x) (find (λ y. key y == k) xs)) (sym (ne_eqb (key x) k (λ same. other (sym same ∙ eqb-true (key x) (key new) is))))
    by false is rest = ap (cond (key x == k) (Some x)) rest

-- a row of a key is found there still, whichever row is set
still_there : {X : Type 0} (key : X → ℕ) (k : ℕ) (old new : X) (xs : List X) → find (λ x. key x == k) xs ≡ Some old → (y : X) × (find (λ x. key x == k) (set_row key new xs) ≡ Some y)
still_there {X} key k old new xs found = by (key new == k) refl
  where
    by : (b : Bool) → (key new == k) ≡ b → (y : X) × (find (λ x. key x == k) (set_row key new xs) ≡ Some y)
    by true is = (new, find-set_row key k old new xs (eqb-true (key new) k is) found)
    by false is = (old, find-set_other key k new xs (λ same. false≢true (sym is ∙ eq-eqb (key new) k (sym same))) ∙ found)

module _ (w : WorldLists) (number : ℕ) (can : IsKeepable w) where
  account_left : (old new : AccountRecord) (accounts : List AccountRecord) → (sheets_of w).accounts ≡ set_row account_no new accounts → find (λ r. account_no r == number) accounts ≡ Some old → new.row.account ≡ number
      → account_record w number ≡ Some new
  account_left old new accounts is found at = sym (rows_determine_answers w number can).account ∙ ap (find (λ r. account_no r == number)) is ∙ find-set_row account_no number old new accounts at found

  branch_left : (old new : BranchRecord) (branches : List BranchRecord) → (sheets_of w).branches ≡ set_row branch_no new branches → find (λ r. branch_no r == number) branches ≡ Some old → new.row.branch ≡ number
      → branch_record w number ≡ Some new
  branch_left old new branches is found at = sym (rows_determine_answers w number can).branch ∙ ap (find (λ r. branch_no r == number)) is ∙ find-set_row branch_no number old new branches at found

  teller_left : (old new : KeptTeller) (tellers : List KeptTeller) → (sheets_of w).tellers ≡ set_row teller_no new tellers → find (λ r. teller_no r == number) tellers ≡ Some old → new.row.teller ≡ number
      → IsKeptOf w number new
  teller_left old new tellers is found at =
      let stated = rows_determine_answers w number can in
      let it = source kept_teller (teller_record w number) new (sym stated.teller ∙ ap (find (λ r. teller_no r == number)) is ∙ find-set_row teller_no number old new tellers at found) in
      record { teller = it.0; there = it.1.0; is = sym it.1.1; holder = stated.holder it.0 it.1.0 }

pub posting_left : (w v : WorldLists) (e : Entry) (l : CashLine) (a : AccountRecord) (t : KeptTeller) (b : BranchRecord) (rows : EntryRows) → AreOfEntry (sheets_of w) e a t b → IsKeepable v
    → sheets_of v ≡ posting_sheets l rows (sheets_of w) → AreLeftBy v e rows
posting_left w v e l a t b rows of can is = record {
  account = account_left v e.account can a rows.account (sheets_of w).accounts (ap (λ (s : Sheets). s.accounts) is) of.account;
  teller = teller_left v e.teller can t rows.teller (sheets_of w).tellers (ap (λ (s : Sheets). s.tellers) is) of.teller;
  branch = branch_left v e.branch can b rows.branch (sheets_of w).branches (ap (λ (s : Sheets). s.branches) is) of.branch;
}

pub legs_left : (w v : WorldLists) (e f : Entry) (a target : AccountRecord) (t : KeptTeller) (b : BranchRecord) (rows : LegRows) → AreOfLegs (sheets_of w) e f a target t b → IsKeepable v
    → sheets_of v ≡ legs_sheets rows (sheets_of w) → AreLegsLeft v e f rows
legs_left w v e f a target t b rows of can is =
    let there = still_there account_no f.account target rows.source (sheets_of w).accounts of.second in
    record {
      target = account_left v f.account can there.0 rows.target (set_row account_no rows.source (sheets_of w).accounts) (ap (λ (s : Sheets). s.accounts) is) there.1;
      teller = teller_left v e.teller can t rows.teller (sheets_of w).tellers (ap (λ (s : Sheets). s.tellers) is) of.first.teller;
      branch = branch_left v e.branch can b rows.branch (sheets_of w).branches (ap (λ (s : Sheets). s.branches) is) of.first.branch;
    }
