-- A World with an entry and its cash line is kept.
use Rattle.std.proofs.Common.{◌≡◌, ℕ, List, [], ◌∷◌, Bool, true, false, cond, refl, ap, sym, ◌∙◌, subst, ◌==◌, Some}
use Rattle.std.specs.Prelude.{if◌then◌else◌}
use Rattle.std.specs.List.{find}
use Rattle.std.proofs.lemmas.Bool.{eq-eqb, eqb-true}
use Rattle.bank_books.specs.Effects.{written}
use Rattle.bank_books.specs.WorldLists.{WorldLists}
use Rattle.bank_books.specs.declared.records.AccountRecord.{AccountRecord}
use Rattle.bank_books.specs.declared.records.BranchRecord.{BranchRecord}
use Rattle.bank_books.specs.declared.row_write.RowWrite.TheVariants as write
use Rattle.bank_books.specs.declared.rows.CashLine.{CashLine}
use Rattle.bank_books.specs.declared.rows.Entry.{Entry}
use Rattle.keyed_rows.proofs.Rows.{found_row, map-map}
use Rattle.book_kept.proofs.RowLemmas.{map_same}
use Rattle.book_kept.specs.After.{AreAfterEntry, AreAfterLine, AreEntered, AreLined}
use Rattle.book_kept.specs.Changes.{drawer_sheets, entry_sheets, posting_sheets}
use Rattle.book_kept.specs.Keepable.{IsKeepable}
use Rattle.book_kept.specs.Kept.{AreKept}
use Rattle.book_kept.specs.Named.{AreOfEntry, AreOfLine, IsBranchRow, IsTellerRow}
use Rattle.book_kept.specs.Next.{IsNextAtDrawer, IsNextPosting}
use Rattle.book_kept.specs.Records.{kept_teller_entered}
use Rattle.book_kept.specs.Sheets.{branch_no, set_row, sheets_of, teller_no}
use Rattle.book_kept.specs.declared.entry.EntryRows.{EntryRows}
use Rattle.book_kept.specs.declared.lines.LineRows.{LineRows}
use Rattle.book_kept.specs.declared.records.KeptTeller.{KeptTeller}

-- ---- a row that was set

-- it is the one that is found of its key
pub find-set_row : {X : Type 0} (key : X → ℕ) (k : ℕ) (old new : X) (xs : List X) → key new ≡ k → find (λ x. key x == k) xs ≡ Some old → find (λ x. key x == k) (set_row key new xs) ≡ Some new
find-set_row key k old new [] of found = absurd cc
find-set_row {X} key k old new (x ∷ xs) of found = by (key x == k) refl found (find-set_row key k old new xs of)
  where
    by : (b : Bool) → (key x == k) ≡ b → cond b (Some x) (find (λ y. key y == k) xs) ≡ Some old → (find (λ y. key y == k) xs ≡ Some old → find (λ y. key y == k) (set_row key new xs) ≡ Some new)
        → find (λ y. key y == k) (set_row key new (x ∷ xs)) ≡ Some new
    by true is at rest =
        ap (λ b. find (λ y. key y == k) ((if b then new else x) ∷ set_row key new xs)) (ap (λ n. key x == n) of ∙ is)
        ∙ ap (λ b. cond b (Some new) (find (λ y. key y == k) (set_row key new xs))) (eq-eqb (key new) k of)
    by false is at rest =
        ap (λ b. find (λ y. key y == k) ((if b then new else x) ∷ set_row key new xs)) (ap (λ n. key x == n) of ∙ is)
        ∙ ap (λ b. cond b (Some x) (find (λ y. key y == k) (set_row key new xs))) is ∙ rest at

-- and where it is set again the last one stands
pub set_row-twice : {X : Type 0} (key : X → ℕ) (first second : X) (xs : List X) → key first ≡ key second → set_row key second (set_row key first xs) ≡ set_row key second xs
set_row-twice {X} key first second xs same =
    map-map (λ x. if key x == key first then first else x) (λ x. if key x == key second then second else x) xs
    ∙ map_same (λ x. if key (if key x == key first then first else x) == key second then second else (if key x == key first then first else x)) (λ x. if key x == key second then second else x) xs
    (λ x there. by x (key x == key first) refl)
  where
    by : (x : X) (b : Bool) → (key x == key first) ≡ b → (if key (if b then first else x) == key second then second else (if b then first else x)) ≡ (if key x == key second then second else x)
    by x true is =
        ap (λ c. if c then second else first) (eq-eqb (key first) (key second) same)
        ∙ ap (λ c. if c then second else x) (sym (eq-eqb (key x) (key second) (eqb-true (key x) (key first) is ∙ same)))
    by x false is = refl

-- ---- all together

pub posting_keeps : (w : WorldLists) (e : Entry) (l : CashLine) (a : AccountRecord) (t : KeptTeller) (b : BranchRecord) (rows : EntryRows) (moved : LineRows) → IsKeepable w → AreOfEntry (sheets_of w) e a t b
    → l.place ≡ e.teller → l.branch ≡ e.branch → AreAfterEntry e a t b rows → AreEntered e a t b rows → AreAfterLine l rows.teller rows.branch moved → AreLined l rows.teller rows.branch moved
    → AreKept w (write.Entry e ∷ write.Line l ∷ []) (posting_sheets l (record rows { teller = moved.teller; branch = moved.branch }))
posting_keeps w e l a t b rows moved can of place branch kept entered lined_kept lined =
    let first = kept w can of in
    let s = sheets_of w in
    let teller_is : teller_no rows.teller ≡ l.place = ap teller_no entered.teller ∙ (found_row teller_no e.teller s.tellers t of.teller).1 ∙ sym place in
    let branch_is : branch_no rows.branch ≡ l.branch = ap branch_no entered.branch ∙ (found_row branch_no e.branch s.branches b of.branch).1 ∙ sym branch in
    let teller_found : IsTellerRow (entry_sheets rows s) l.place rows.teller = find-set_row teller_no l.place t rows.teller s.tellers teller_is (ap (λ k. find (λ r. teller_no r == k) s.tellers) place ∙ of.teller) in
    let branch_found : IsBranchRow (entry_sheets rows s) l.branch rows.branch = find-set_row branch_no l.branch b rows.branch s.branches branch_is (ap (λ k. find (λ r. branch_no r == k) s.branches) branch ∙ of.branch) in
    let found : AreOfLine (entry_sheets rows s) l rows.teller rows.branch = record { teller = teller_found; branch = branch_found } in
    let second = lined_kept (written (write.Entry e) w) first.keepable (subst (λ z. AreOfLine z l rows.teller rows.branch) (sym first.sheets) found) in
    let tellers = set_row-twice teller_no rows.teller moved.teller s.tellers (sym (ap teller_no lined.teller)) in
    let branches = set_row-twice branch_no rows.branch moved.branch s.branches (sym (ap branch_no lined.branch)) in
    let once : drawer_sheets l moved (entry_sheets rows s) ≡ posting_sheets l (record rows { teller = moved.teller; branch = moved.branch }) s =
    λ i. record (posting_sheets l (record rows { teller = moved.teller; branch = moved.branch }) s) { tellers = tellers i; branches = branches i } in
    record { keepable = second.keepable; sheets = second.sheets ∙ ap (drawer_sheets l moved) first.sheets ∙ once }

-- after the entry the line comes next as it did before
pub still_next : (e : Entry) (l : CashLine) (a : AccountRecord) (t : KeptTeller) (b : BranchRecord) (rows : EntryRows) → IsNextPosting e l a t b → AreEntered e a t b rows → IsNextAtDrawer l rows.teller rows.branch
still_next e l a t b rows next entered =
    subst (λ r. IsNextAtDrawer l r rows.branch) (sym entered.teller) (subst (IsNextAtDrawer l (kept_teller_entered e.delta t)) (sym entered.branch) (record {
      branch = next.line.branch;
      holder = next.line.holder;
      number = next.line.number;
      drawer = next.line.drawer;
      cash = record { vault = next.line.cash.vault; drawers = next.line.cash.drawers; cash_entries = next.line.cash.cash_entries; differences = next.line.cash.differences };
    }))
