-- A World with one more cash line is kept.
use Rattle.std.proofs.Common.{◌≡◌, ◌≢◌, ℕ, ◌+◌, ◌*◌, ◌^◌, ◌<◌, ◌≤◌, ℤ, pos, ◌+ℤ◌, map, Bool, true, false, refl, ap, arith, sym, ◌∙◌, subst, ◌==◌, ◌&&◌, Some, Contains, ◌⊎◌, inl, inr}
use Rattle.std.specs.Prelude.{if◌then◌else◌, option_and_then, unwrap_or}
use Rattle.std.specs.List.{find}
use Rattle.std.proofs.lemmas.Bool.{and_left, and_parts, and_right, cases_Bool, eq-eqb, eqb-true, false≢true, ne_eqb}
use Rattle.std.proofs.lemmas.Int.{ints}
use Rattle.keyed_rows.specs.Ordered.{AreDistinct, add_row}
use Rattle.bank_books.specs.Cash.{holder_after, holder_of, is_turnover, line_count, place_cash}
use Rattle.bank_books.specs.Effects.{written}
use Rattle.bank_books.specs.Keys.{branch_key, line_key, teller_key}
use Rattle.bank_books.specs.Range.{IsTellerOf}
use Rattle.bank_books.specs.Records.{branch_record_of}
use Rattle.bank_books.specs.WorldLists.{WorldLists}
use Rattle.bank_books.specs.declared.records.BranchRecord.{BranchRecord}
use Rattle.bank_books.specs.declared.row_write.RowWrite.TheVariants as write
use Rattle.bank_books.specs.declared.rows.CashLine.{CashLine}
use Rattle.bank_books.specs.declared.rows.LineForm.{LineForm}
use Rattle.bank_books.specs.declared.rows.LineForm.TheVariants as form
use Rattle.bank_books.specs.declared.rows.Teller.{Teller}
use Rattle.book_laws.proofs.LastRow.{last_after}
use Rattle.book_laws.proofs.LineAdded.{line_moves, share_moves}
use Rattle.keyed_rows.proofs.Rows.{each_added, find_of_key, found_by_key, found_row, map-map}
use Rattle.book_laws.specs.Moves.{branch_lined}
use Rattle.book_kept.proofs.LastRow.{last_is_new, last_stays}
use Rattle.book_kept.proofs.NextNumber.{AreCounted-add_row, next_is_free}
use Rattle.book_kept.proofs.RowLemmas.{IsOrdered-add_row, find-map, map_same, set_by_key, source}
use Rattle.book_kept.specs.Changes.{drawer_sheets, vault_sheets}
use Rattle.book_kept.specs.Keepable.{IsKeepable}
use Rattle.book_kept.specs.Kept.{IsKept}
use Rattle.book_kept.specs.Named.{AreOfLine, IsBranchRow}
use Rattle.book_kept.specs.Records.{kept_holder, kept_teller_lined, kept_teller_of}
use Rattle.book_kept.specs.Sheets.{branch_no, set_row, sheets_of, teller_no}
use Rattle.book_kept.specs.declared.lines.LineRows.{LineRows}
use Rattle.book_kept.specs.declared.records.KeptTeller.{KeptTeller}

-- it puts the drawer of the teller on or off
abbrev pub turns_over : ℕ → CashLine → Bool
turns_over teller l = l.place == teller && is_turnover l.form

plus_zero : (z : ℤ) → z +ℤ pos 0 ≡ z
plus_zero z = omega (arith, ints)

-- what the cash of a drawer is moved by
cash_moves : (w : WorldLists) (l : CashLine) (x : Teller) (here : Bool) → (l.branch == x.branch && l.place == x.teller) ≡ here
    → place_cash x.branch x.teller (add_row line_key l w.lines) ≡ place_cash x.branch x.teller w.lines +ℤ (if here then l.amount else pos 0)
cash_moves w l x here is = share_moves l w.lines x.branch (λ y. y.place == x.teller) ∙ ap (λ b. place_cash x.branch x.teller w.lines +ℤ (if b then l.amount else pos 0)) is

-- ---- the drawers at which it is not

holder_stays : (w : WorldLists) (l : CashLine) (teller : ℕ) → turns_over teller l ≡ false → holder_of (add_row line_key l w.lines) teller ≡ holder_of w.lines teller
holder_stays w l teller fails = ap (option_and_then (λ line. holder_after line line.form)) (last_stays line_key (turns_over teller) l w.lines fails)

elsewhere : (w : WorldLists) (l : CashLine) (x : Teller) → (l.place == x.teller) ≡ false → kept_teller_of (written (write.Line l) w) x ≡ kept_teller_of w x
elsewhere w l x other =
    let cash = cash_moves w l x false (and_right (l.branch == x.branch) (l.place == x.teller) other) ∙ plus_zero (place_cash x.branch x.teller w.lines) in
    let holder = ap (λ o. unwrap_or o 0) (holder_stays w l x.teller (and_left (l.place == x.teller) (is_turnover l.form) other)) in
    λ i. record (kept_teller_of w x) { cash = cash i; holder = holder i }

-- ---- the drawer at which it is

-- no line that came before at that drawer stands after it
before : (w : WorldLists) (l : CashLine) (x : Teller) → IsKeepable w → Contains w.tellers x → x.teller ≡ l.place → x.branch ≡ l.branch → l.number ≡ line_count l.branch w.lines + 1
    → (y : CashLine) → Contains w.lines y → turns_over x.teller y ≡ true → line_key y ≤ line_key l
before w l x can there at of next y among passes = by (can.lines.places y among)
  where
    place : y.place ≡ x.teller
    place = eqb-true y.place x.teller (and_parts (y.place == x.teller) (is_turnover y.form) passes).0

    low : (b b' n n' c : ℕ) → b ≡ b' → n ≤ c → n' ≡ c + 1 → 2 ^ 32 * b + n ≤ 2 ^ 32 * b' + n'
    low b b' n n' c same below is = omega arith

    by : (y.place ≡ 0) ⊎ IsTellerOf w.tellers y.branch y.place → line_key y ≤ line_key l
    by (inl vault) = absurd (can.tellers.places x there (sym place ∙ vault))
    by (inr (row, (within, named, branch))) =
        let same : row ≡ x = one row within (named ∙ place) in
        let of_branch : y.branch ≡ l.branch = sym branch ∙ ap (λ (t : Teller). t.branch) same ∙ of in
        low y.branch l.branch y.number l.number (line_count l.branch w.lines) of_branch (subst (λ k. y.number ≤ line_count k w.lines) of_branch (can.lines.numbers y among)) next
      where
        one : (row : Teller) → Contains w.tellers row → row.teller ≡ x.teller → row ≡ x
        one row within key = found_by_key teller_key x.teller w.tellers x row can.tellers.ordered.distinct (find_of_key teller_key x.teller w.tellers x can.tellers.ordered.distinct there refl) within key

-- so it says who holds the drawer, if it puts that on or off
holder_moves : (w : WorldLists) (l : CashLine) (x : Teller) → IsKeepable w → Contains w.tellers x → x.teller ≡ l.place → x.branch ≡ l.branch → l.number ≡ line_count l.branch w.lines + 1
    → unwrap_or (holder_of (add_row line_key l w.lines) x.teller) 0 ≡ kept_holder l l.form (unwrap_or (holder_of w.lines x.teller) 0)
holder_moves w l x can there at of next = by l.form refl
  where
    here : (f : LineForm) → l.form ≡ f → turns_over x.teller l ≡ is_turnover f
    here f is = ap (λ b. b && is_turnover l.form) (eq-eqb l.place x.teller (sym at)) ∙ ap is_turnover is

    new : (f : LineForm) → l.form ≡ f → is_turnover f ≡ true → unwrap_or (holder_of (add_row line_key l w.lines) x.teller) 0 ≡ unwrap_or (holder_after l f) 0
    new f is turns =
        ap (λ o. unwrap_or (option_and_then (λ line. holder_after line line.form) o) 0)
        (last_is_new line_key (turns_over x.teller) l w.lines can.lines.ordered.in_order (here f is ∙ turns) (before w l x can there at of next))
        ∙ ap (λ g. unwrap_or (holder_after l g) 0) is

    old : (f : LineForm) → l.form ≡ f → is_turnover f ≡ false → unwrap_or (holder_of (add_row line_key l w.lines) x.teller) 0 ≡ unwrap_or (holder_of w.lines x.teller) 0
    old f is stays = ap (λ o. unwrap_or o 0) (holder_stays w l x.teller (here f is ∙ stays))

    stated : (f : LineForm) → l.form ≡ f → kept_holder l f (unwrap_or (holder_of w.lines x.teller) 0) ≡ kept_holder l l.form (unwrap_or (holder_of w.lines x.teller) 0)
    stated f is = ap (λ g. kept_holder l g (unwrap_or (holder_of w.lines x.teller) 0)) (sym is)

    by : (f : LineForm) → l.form ≡ f → unwrap_or (holder_of (add_row line_key l w.lines) x.teller) 0 ≡ kept_holder l l.form (unwrap_or (holder_of w.lines x.teller) 0)
    by form.CashEntry is = old form.CashEntry is refl ∙ stated form.CashEntry is
    by form.On is = new form.On is refl ∙ stated form.On is
    by form.Off is = new form.Off is refl ∙ stated form.Off is
    by form.Move is = old form.Move is refl ∙ stated form.Move is
    by form.Difference is = old form.Difference is refl ∙ stated form.Difference is

at_drawer : (w : WorldLists) (l : CashLine) (x : Teller) → IsKeepable w → Contains w.tellers x → x.teller ≡ l.place → x.branch ≡ l.branch → l.number ≡ line_count l.branch w.lines + 1
    → kept_teller_of (written (write.Line l) w) x ≡ kept_teller_lined l (kept_teller_of w x)
at_drawer w l x can there at of next =
    let cash = cash_moves w l x true (ap (λ b. b && l.place == x.teller) (eq-eqb l.branch x.branch (sym of)) ∙ eq-eqb l.place x.teller (sym at)) in
    let holder = holder_moves w l x can there at of next in
    λ i. record (kept_teller_of w x) { cash = cash i; holder = holder i }

-- ---- the World can be kept still

-- nobody holds a drawer as user 0, where that is not the user of a line that puts one on
nobody : (w : WorldLists) (l : CashLine) → IsKeepable w → ((t : Teller) → Contains w.tellers t → turns_over t.teller l ≡ true → holder_after l l.form ≢ Some 0) → (t : Teller) → Contains w.tellers t
    → holder_of (add_row line_key l w.lines) t.teller ≢ Some 0
nobody w l can new t there = elim (cases_Bool (turns_over t.teller l)) [
  | inl turns ↦ elim (last_after line_key (turns_over t.teller) l w.lines) [
    | inl is ↦ λ zero_holds. new t there turns (sym (ap (option_and_then (λ line. holder_after line line.form)) is) ∙ zero_holds)
    | inr same ↦ λ zero_holds. can.tellers.holders t there (sym (ap (option_and_then (λ line. holder_after line line.form)) same) ∙ zero_holds)
  ]
  | inr fails ↦ λ zero_holds. can.tellers.holders t there (sym (holder_stays w l t.teller fails) ∙ zero_holds)
]

keeps : (w : WorldLists) (l : CashLine) → IsKeepable w → l.number < 2 ^ 32 → l.number ≡ line_count l.branch w.lines + 1 → ((l.place ≡ 0) ⊎ IsTellerOf w.tellers l.branch l.place)
    → ((t : Teller) → Contains w.tellers t → turns_over t.teller l ≡ true → holder_after l l.form ≢ Some 0) → IsKeepable (written (write.Line l) w)
keeps w l can small number place holder =
    let was = can.lines in
    record {
      branches = can.branches;
      tellers = record { ordered = can.tellers.ordered; places = can.tellers.places; holders = nobody w l can holder };
      accounts = can.accounts;
      entries = can.entries;
      lines = record {
        ordered = IsOrdered-add_row line_key l w.lines was.ordered (next_is_free line_key (λ y. y.branch) (λ y. y.number) l w.lines (λ y. refl) was.small small was.numbers number);
        places = each_added line_key l w.lines (λ y. (y.place ≡ 0) ⊎ IsTellerOf w.tellers y.branch y.place) place was.places;
        numbers = AreCounted-add_row line_key (λ y. y.branch) (λ y. y.number) l w.lines was.numbers number;
        small = each_added line_key l w.lines (λ y. y.number < 2 ^ 32) small was.small;
      };
      proofs = can.proofs;
      releases = can.releases;
      slips = can.slips;
      policy = can.policy;
    }

-- ---- all together

-- the number of the line, by the branch that was found
next_number : (w : WorldLists) (l : CashLine) (b after : BranchRecord) → IsBranchRow (sheets_of w) l.branch b → after ≡ branch_lined l b → l.number ≡ after.lines → l.number ≡ line_count l.branch w.lines + 1
next_number w l b after of is number =
    let bx = source (branch_record_of w) _ b (sym (find-map (λ r. branch_no r == l.branch) (branch_record_of w) w.branches) ∙ of) in
    number ∙ ap (λ (r : BranchRecord). r.lines) is ∙ ap (λ (r : BranchRecord). r.lines + 1) (sym bx.1.1)
    ∙ ap (λ k. line_count k w.lines + 1) (found_row branch_key l.branch w.branches bx.0 bx.1.0).1

branches_after : (w : WorldLists) (l : CashLine) (b after : BranchRecord) → IsKeepable w → IsBranchRow (sheets_of w) l.branch b → after ≡ branch_lined l b
    → map (branch_record_of (written (write.Line l) w)) w.branches ≡ set_row branch_no after (map (branch_record_of w) w.branches)
branches_after w l b after can of is =
    set_by_key branch_no (branch_record_of w) (branch_record_of (written (write.Line l) w)) (branch_lined l) l.branch b after w.branches
    (subst AreDistinct (sym (map-map (branch_record_of w) branch_no w.branches)) can.branches.distinct) of (λ r. refl) is (λ x among. (line_moves w l).branches x)

pub vault_keeps : (w : WorldLists) (l : CashLine) (b after : BranchRecord) → IsKeepable w → IsBranchRow (sheets_of w) l.branch b → l.number < 2 ^ 32 → l.place ≡ 0
    → after ≡ branch_lined l b → l.number ≡ after.lines → IsKept w (write.Line l) (vault_sheets l after)
vault_keeps w l b after can of small vault is number =
    let apart : (x : Teller) → Contains w.tellers x → (l.place == x.teller) ≡ false = λ x among. ne_eqb l.place x.teller (λ same. can.tellers.places x among (sym same ∙ vault)) in
    let branches = branches_after w l b after can of is in
    let tellers = map_same (kept_teller_of (written (write.Line l) w)) (kept_teller_of w) w.tellers (λ x among. elsewhere w l x (apart x among)) in
    record {
      keepable = keeps w l can small (next_number w l b after of is number) (inl vault)
          (λ x among turns. absurd (false≢true (sym (apart x among) ∙ (and_parts (l.place == x.teller) (is_turnover l.form) turns).0)));
      sheets = λ i. record (sheets_of w) { branches = branches i; tellers = tellers i; lines = add_row line_key l w.lines };
    }

pub drawer_keeps : (w : WorldLists) (l : CashLine) (t : KeptTeller) (b : BranchRecord) (rows : LineRows) → IsKeepable w → AreOfLine (sheets_of w) l t b → l.number < 2 ^ 32 → t.row.branch ≡ l.branch
    → holder_after l l.form ≢ Some 0 → rows.teller ≡ kept_teller_lined l t → rows.branch ≡ branch_lined l b → l.number ≡ rows.branch.lines → IsKept w (write.Line l) (drawer_sheets l rows)
drawer_keeps w l t b rows can of small branch holder teller_is branch_is number =
    let tx = source (kept_teller_of w) _ t (sym (find-map (λ r. teller_no r == l.place) (kept_teller_of w) w.tellers) ∙ of.teller) in
    let there = found_row teller_key l.place w.tellers tx.0 tx.1.0 in
    let of_branch : tx.0.branch ≡ l.branch = ap (λ (r : KeptTeller). r.row.branch) tx.1.1 ∙ branch in
    let next = next_number w l b rows.branch of.branch branch_is number in
    let branches = branches_after w l b rows.branch can of.branch branch_is in
    let tellers =
    set_by_key teller_no (kept_teller_of w) (kept_teller_of (written (write.Line l) w)) (kept_teller_lined l) l.place t rows.teller w.tellers
    (subst AreDistinct (sym (map-map (kept_teller_of w) teller_no w.tellers)) can.tellers.ordered.distinct) of.teller (λ r. refl) teller_is
    (λ x among. by x among next tx.0 tx.1.0 of_branch (l.place == x.teller) refl) in
    record {
      keepable = keeps w l can small next (inr (tx.0, (there.0, there.1, of_branch))) (λ x among turns. holder);
      sheets = λ i. record (sheets_of w) { branches = branches i; tellers = tellers i; lines = add_row line_key l w.lines };
    }
  where
    by : (x : Teller) → Contains w.tellers x → l.number ≡ line_count l.branch w.lines + 1 → (found : Teller) → find (λ r. r.teller == l.place) w.tellers ≡ Some found → found.branch ≡ l.branch
        → (here : Bool) → (l.place == x.teller) ≡ here → kept_teller_of (written (write.Line l) w) x ≡ (if here then kept_teller_lined l (kept_teller_of w x) else kept_teller_of w x)
    by x among next found is of_branch true at =
        let named : x.teller ≡ l.place = sym (eqb-true l.place x.teller at) in
        at_drawer w l x can among named (ap (λ (r : Teller). r.branch) (found_by_key teller_key l.place w.tellers found x can.tellers.ordered.distinct is among named) ∙ of_branch) next
    by x among next found is of_branch false other = elsewhere w l x other
