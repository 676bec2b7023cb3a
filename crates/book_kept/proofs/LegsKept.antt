-- A World with two entries of one teller and one branch is kept.
use Rattle.std.proofs.Common.{◌≡◌, ◌≢◌, ℕ, List, [], ◌∷◌, Bool, true, false, cond, refl, ap, sym, ◌∙◌, subst, ◌==◌, Some}
use Rattle.std.specs.Prelude.{if◌then◌else◌}
use Rattle.std.specs.List.{find}
use Rattle.std.proofs.lemmas.Bool.{eqb-true, ne_eqb}
use Rattle.bank_books.specs.Effects.{written}
use Rattle.bank_books.specs.WorldLists.{WorldLists}
use Rattle.bank_books.specs.declared.records.AccountRecord.{AccountRecord}
use Rattle.bank_books.specs.declared.records.BranchRecord.{BranchRecord}
use Rattle.bank_books.specs.declared.row_write.RowWrite.TheVariants as write
use Rattle.bank_books.specs.declared.rows.Entry.{Entry}
use Rattle.keyed_rows.proofs.Rows.{found_row}
use Rattle.book_kept.proofs.PostingKept.{find-set_row, set_row-twice}
use Rattle.book_kept.specs.After.{AreAfterEntry, AreEntered}
use Rattle.book_kept.specs.Changes.{entry_sheets, legs_sheets}
use Rattle.book_kept.specs.Keepable.{IsKeepable}
use Rattle.book_kept.specs.Kept.{AreKept}
use Rattle.book_kept.specs.Named.{AreLegs, AreOfEntry, AreOfLegs, IsAccountRow, IsBranchRow, IsTellerRow}
use Rattle.book_kept.specs.Next.{AreNextLegs, IsNextOf}
use Rattle.book_kept.specs.Records.{kept_teller_entered}
use Rattle.book_kept.specs.Sheets.{account_no, branch_no, set_row, sheets_of, teller_no}
use Rattle.book_kept.specs.declared.entry.EntryRows.{EntryRows}
use Rattle.book_kept.specs.declared.legs.LegRows.{LegRows}
use Rattle.book_kept.specs.declared.records.KeptTeller.{KeptTeller}

-- where a row was set, the one of another key is found as before
find-set_other : {X : Type 0} (key : X → ℕ) (k : ℕ) (new : X) (xs : List X) → k ≢ key new → find (λ x. key x == k) (set_row key new xs) ≡ find (λ x. key x == k) xs
find-set_other key k new [] other = refl
find-set_other {X} key k new (x ∷ xs) other = by (key x == key new) refl (find-set_other key k new xs other)
  where
    by : (b : Bool) → (key x == key new) ≡ b → find (λ y. key y == k) (set_row key new xs) ≡ find (λ y. key y == k) xs
        → cond (key (if b then new else x) == k) (Some (if b then new else x)) (find (λ y. key y == k) (set_row key new xs)) ≡ cond (key x == k) (Some x) (find (λ y. key y == k) xs)
    by true is rest =
        ap (λ c. cond c (Some new) (find (λ y. key y == k) (set_row key new xs))) (ne_eqb (key new) k (λ same. other (sym same))) ∙ rest
        ∙ ap (λ c. cond c (Some x) (find (λ y. key y == k) xs)) (sym (ne_eqb (key x) k (λ same. other (sym same ∙ eqb-true (key x) (key new) is))))
    by false is rest = ap (cond (key x == k) (Some x)) rest

-- ---- all together

pub legs_keep : (w : WorldLists) (e f : Entry) (source target : AccountRecord) (t : KeptTeller) (b : BranchRecord) (left after : EntryRows) → IsKeepable w → AreLegs e f
    → AreOfLegs (sheets_of w) e f source target t b → AreAfterEntry e source t b left → AreEntered e source t b left → AreAfterEntry f target left.teller left.branch after → AreEntered f target left.teller left.branch after
    → AreKept w (write.Entry e ∷ write.Entry f ∷ []) (legs_sheets (record { source = left.account; target = after.account; teller = after.teller; branch = after.branch; first = left.entry; second = after.entry }))
legs_keep w e f source target t b left after can legs of kept entered after_kept after_entered =
    let s = sheets_of w in
    let first = kept w can of.first in
    let rows : LegRows = record { source = left.account; target = after.account; teller = after.teller; branch = after.branch; first = left.entry; second = after.entry } in
    let source_is : account_no left.account ≡ e.account = ap account_no entered.account ∙ (found_row account_no e.account s.accounts source of.first.account).1 in
    let teller_is : teller_no left.teller ≡ f.teller = ap teller_no entered.teller ∙ (found_row teller_no e.teller s.tellers t of.first.teller).1 ∙ sym legs.teller in
    let branch_is : branch_no left.branch ≡ f.branch = ap branch_no entered.branch ∙ (found_row branch_no e.branch s.branches b of.first.branch).1 ∙ sym legs.branch in
    let account : IsAccountRow (entry_sheets left s) f.account target = find-set_other account_no f.account left.account s.accounts (λ same. legs.account (same ∙ source_is)) ∙ of.second in
    let teller : IsTellerRow (entry_sheets left s) f.teller left.teller = find-set_row teller_no f.teller t left.teller s.tellers teller_is (ap (λ k. find (λ r. teller_no r == k) s.tellers) legs.teller ∙ of.first.teller) in
    let branch : IsBranchRow (entry_sheets left s) f.branch left.branch = find-set_row branch_no f.branch b left.branch s.branches branch_is (ap (λ k. find (λ r. branch_no r == k) s.branches) legs.branch ∙ of.first.branch) in
    let found : AreOfEntry (entry_sheets left s) f target left.teller left.branch = record { account = account; teller = teller; branch = branch } in
    let second = after_kept (written (write.Entry e) w) first.keepable (subst (λ z. AreOfEntry z f target left.teller left.branch) (sym first.sheets) found) in
    let tellers = set_row-twice teller_no left.teller after.teller s.tellers (sym (ap teller_no after_entered.teller)) in
    let branches = set_row-twice branch_no left.branch after.branch s.branches (sym (ap branch_no after_entered.branch)) in
    let once : entry_sheets after (entry_sheets left s) ≡ legs_sheets rows s = λ i. record (legs_sheets rows s) { tellers = tellers i; branches = branches i } in
    record { keepable = second.keepable; sheets = second.sheets ∙ ap (entry_sheets after) first.sheets ∙ once }

-- after the first entry the second comes next
pub next_after : (e f : Entry) (source target : AccountRecord) (t : KeptTeller) (b : BranchRecord) (left : EntryRows) → AreNextLegs e f source target t b → AreEntered e source t b left → IsNextOf f target left.teller left.branch
next_after e f source target t b left next entered =
    subst (λ r. IsNextOf f target r left.branch) (sym entered.teller) (subst (IsNextOf f target (kept_teller_entered e.delta t)) (sym entered.branch) next.second)
