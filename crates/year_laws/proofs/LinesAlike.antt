-- A cash line that is added at both banks, at each with the number that comes next there, leaves them alike.
use Rattle.std.proofs.Common.{◌≡◌, ◌≢◌, ◌==◌, ◌&&◌, ◌+◌, ◌*◌, ◌^◌, ◌≤◌, ◌+ℤ◌, ◌∙◌, ℕ, pos, Bool, true, false, Option, Some, None, Contains, refl, ap, ap₂, arith, sym, subst}
use Rattle.std.specs.Prelude.{option_and_then, if◌then◌else◌}
use Rattle.std.specs.List.{filter}
use Rattle.std.proofs.lemmas.Bool.{and_parts, eqb-true}
use Rattle.keyed_rows.specs.Ordered.{add_row}
use Rattle.keyed_rows.proofs.Rows.{found_row}
use Rattle.bank_books.specs.Balances.{branch_row, teller_row}
use Rattle.bank_books.specs.Cash.{holder_after, holder_of, is_turnover, line_count}
use Rattle.bank_books.specs.Effects.{written}
use Rattle.bank_books.specs.Keys.{branch_key, line_key, teller_key}
use Rattle.bank_books.specs.Records.{branch_record, branch_record_of, teller_record, teller_record_of}
use Rattle.bank_books.specs.WorldLists.{WorldLists}
use Rattle.bank_books.specs.declared.records.BranchRecord.{BranchRecord}
use Rattle.bank_books.specs.declared.row_write.RowWrite.TheVariants as write
use Rattle.bank_books.specs.declared.rows.Branch.{Branch}
use Rattle.bank_books.specs.declared.rows.CashLine.{CashLine}
use Rattle.bank_books.specs.declared.rows.LineForm.{LineForm}
use Rattle.bank_books.specs.declared.rows.LineForm.TheVariants as form
use Rattle.bank_books.specs.declared.rows.Teller.{Teller}
use Rattle.book_laws.specs.Moves.{branch_lined, to_vault}
use Rattle.book_laws.proofs.LineAdded.{line_moves, share_moves}
use Rattle.world_reads.specs.BookReads.{is_teller_of, roster}
use Rattle.year_laws.specs.GoesOn.{AreBoth, AreEach, IsSameBranch, IsSameTeller, Turn}
use Rattle.year_laws.specs.StaysAlike.{AddsLast, StayAlike}
use Rattle.year_laws.proofs.LastLine.{last_is_new, last_stays}
use Rattle.year_laws.proofs.NextRows.{IsNextLine, line_adds}
use Rattle.year_laws.proofs.RowsAlike.{both_moved, carried, each_moved, from_passing}

-- lines that move the same; their numbers are of each bank
pub record IsSameLine (old new : CashLine) : Type 0 where
  pub branch : old.branch ≡ new.branch
  pub place : old.place ≡ new.place
  pub amount : old.amount ≡ new.amount
  pub form : old.form ≡ new.form
  pub user : old.user ≡ new.user

-- ---- who holds a drawer with one line more

-- it puts the drawer of the teller on or off
abbrev turns_over : ℕ → CashLine → Bool
turns_over teller l = l.place == teller && is_turnover l.form

-- one teller is of one branch
one_branch : (o : Option Teller) (a b : Teller) → o ≡ Some a → o ≡ Some b → a.branch ≡ b.branch
one_branch None a b first second = absurd cc
one_branch (Some c) a b first second = cc

low : (b b' n n' c : ℕ) → b ≡ b' → n ≤ c → n' ≡ c + 1 → 2 ^ 32 * b + n ≤ 2 ^ 32 * b' + n'
low b b' n n' c same below is = omega arith

-- no line at its drawer stands after it
before : (w : WorldLists) (l : CashLine) → AddsLast w → IsNextLine w.tellers w.lines l → l.place ≢ 0 → (y : CashLine) → Contains w.lines y → y.place ≡ l.place → line_key y ≤ line_key l
before w l adds next drawer y there at =
    let own = next.place drawer in
    let other = adds.places y there (λ zero. drawer (sym at ∙ zero)) in
    let same : y.branch ≡ l.branch = sym other.1.1 ∙ one_branch (teller_row l.place w.tellers) other.0 own.0 (subst (λ k. teller_row k w.tellers ≡ Some other.0) at other.1.0) own.1.0 ∙ own.1.1 in
    low y.branch l.branch y.number l.number (line_count l.branch w.lines) same (subst (λ k. y.number ≤ line_count k w.lines) same (adds.lines y there)) next.number

-- so it says who holds the drawer, if it puts that on or off
holder_moves : (w : WorldLists) (l : CashLine) → AddsLast w → IsNextLine w.tellers w.lines l → (teller : ℕ) → teller ≢ 0
    → holder_of (add_row line_key l w.lines) teller ≡ (if turns_over teller l then holder_after l l.form else holder_of w.lines teller)
holder_moves w l adds next teller some = go (turns_over teller l) refl
  where
    go : (c : Bool) → turns_over teller l ≡ c → holder_of (add_row line_key l w.lines) teller ≡ (if c then holder_after l l.form else holder_of w.lines teller)
    go true is =
        let at : l.place ≡ teller = eqb-true l.place teller (and_parts (l.place == teller) (is_turnover l.form) is).0 in
        ap (option_and_then (λ line. holder_after line line.form)) (last_is_new line_key (turns_over teller) l w.lines adds.order is (λ y there passes.
        before w l adds next (λ zero. some (sym at ∙ zero)) y there (eqb-true y.place teller (and_parts (y.place == teller) (is_turnover y.form) passes).0 ∙ sym at)))
    go false is = ap (option_and_then (λ line. holder_after line line.form)) (last_stays line_key (turns_over teller) l w.lines is)

after_line : (f : LineForm) (a b : CashLine) → a.user ≡ b.user → holder_after a f ≡ holder_after b f
after_line form.On a b same = ap Some same
after_line form.CashEntry a b same = refl
after_line form.Off a b same = refl
after_line form.Move a b same = refl
after_line form.Difference a b same = refl

-- ---- the two banks with it

branch_lined_alike : (n : ℕ) (c : Bool) (l m : CashLine) (a b : BranchRecord) → to_vault l ≡ to_vault m → IsSameBranch n a b → IsSameBranch n (if c then branch_lined l a else a) (if c then branch_lined m b else b)
branch_lined_alike n true l m a b given same =
    record { day = same.day; balance = same.balance; vault = ap₂ (λ z v. z +ℤ v) same.vault given; entries = same.entries; accounts = same.accounts }
branch_lined_alike n false l m a b given same = same

module _ (t : Turn) (old new : WorldLists) (stay : StayAlike t old new) (at_old l : CashLine) (line : IsSameLine at_old l) (old_next : IsNextLine old.tellers old.lines at_old)
    (new_next : IsNextLine new.tellers new.lines l) where
  abbrev old_after : WorldLists
  old_after = written (write.Line at_old) old

  abbrev new_after : WorldLists
  new_after = written (write.Line l) new

  cash_after : (x y : Teller) → IsSameTeller (teller_record_of old x) (teller_record_of new y) → (teller_record_of old_after x).cash ≡ (teller_record_of new_after y).cash
  cash_after x y same =
      share_moves at_old old.lines x.branch (λ z. z.place == x.teller)
      ∙ ap₂ (λ z v. z +ℤ v) same.cash (
      ap (λ b. if b == x.branch && at_old.place == x.teller then at_old.amount else pos 0) line.branch
      ∙ ap (λ p. if l.branch == x.branch && p == x.teller then at_old.amount else pos 0) line.place
      ∙ ap (λ a. if l.branch == x.branch && l.place == x.teller then a else pos 0) line.amount
      ∙ ap₂ (λ b k. if l.branch == b && l.place == k then l.amount else pos 0) same.branch same.teller)
      ∙ sym (share_moves l new.lines y.branch (λ z. z.place == y.teller))

  turned : (x y : Teller) → x.teller ≡ y.teller → turns_over x.teller at_old ≡ turns_over y.teller l
  turned x y same = ap₂ (λ p f. p == x.teller && is_turnover f) line.place line.form ∙ ap (λ k. l.place == k && is_turnover l.form) same

  holder_same : holder_after at_old at_old.form ≡ holder_after l l.form
  holder_same = ap (holder_after at_old) line.form ∙ after_line l.form at_old l line.user

  holders_after : (x y : Teller) → x.teller ≢ 0 → IsSameTeller (teller_record_of old x) (teller_record_of new y) → (teller_record_of old_after x).holder ≡ (teller_record_of new_after y).holder
  holders_after x y some same =
      holder_moves old at_old stay.old_adds old_next x.teller some
      ∙ ap (λ c. if c then holder_after at_old at_old.form else holder_of old.lines x.teller) (turned x y same.teller)
      ∙ ap₂ (λ h k. if turns_over y.teller l then h else k) holder_same same.holder
      ∙ sym (holder_moves new l stay.new_adds new_next y.teller (λ zero. some (same.teller ∙ zero)))

  teller_after : (x y : Teller) → x.teller ≢ 0 → IsSameTeller (teller_record_of old x) (teller_record_of new y) → IsSameTeller (teller_record_of old_after x) (teller_record_of new_after y)
  teller_after x y some same = record { teller = same.teller; branch = same.branch; balance = same.balance; cash = cash_after x y same; holder = holders_after x y some same }

  tellers : (key : ℕ) → AreBoth IsSameTeller (teller_record old_after key) (teller_record new_after key)
  tellers key =
      both_moved IsSameTeller (teller_record_of old) (teller_record_of old_after) (teller_record_of new) (teller_record_of new_after) (teller_row key old.tellers) (teller_row key new.tellers) (stay.alike.tellers key)
      (λ x y x_is y_is same. teller_after x y (stay.old_adds.tellers x (found_row teller_key key old.tellers x x_is).0) same)

  rosters : (branch : ℕ) → AreEach IsSameTeller (roster old_after branch) (roster new_after branch)
  rosters branch =
      each_moved IsSameTeller (teller_record_of old) (teller_record_of old_after) (teller_record_of new) (teller_record_of new_after) (filter (is_teller_of branch) old.tellers)
      (filter (is_teller_of branch) new.tellers) (stay.alike.rosters branch)
      (λ x y there too same. teller_after x y (stay.old_adds.tellers x (from_passing (is_teller_of branch) old.tellers x there)) same)

  branch_after : (w : WorldLists) (added : CashLine) (row : Branch) (key : ℕ) → row.branch ≡ key
      → branch_record_of (written (write.Line added) w) row ≡ (if added.branch == key then branch_lined added (branch_record_of w row) else branch_record_of w row)
  branch_after w added row key is =
      (line_moves w added).branches row ∙ ap (λ k. if added.branch == k then branch_lined added (branch_record_of w row) else branch_record_of w row) is

  vault_same : to_vault at_old ≡ to_vault l
  vault_same = ap₂ (λ p a. if p == 0 then a else pos 0) line.place line.amount

  branches : (key : ℕ) → AreBoth (IsSameBranch (t.entries key)) (branch_record old_after key) (branch_record new_after key)
  branches key =
      both_moved (IsSameBranch (t.entries key)) (branch_record_of old) (branch_record_of old_after) (branch_record_of new) (branch_record_of new_after) (branch_row key old.branches) (branch_row key new.branches)
      (stay.alike.branches key) (λ x y x_is y_is same.
      carried (IsSameBranch (t.entries key)) _ _ _ _
      (branch_after old at_old x key (found_row branch_key key old.branches x x_is).1
      ∙ ap (λ b. if b == key then branch_lined at_old (branch_record_of old x) else branch_record_of old x) line.branch)
      (branch_after new l y key (found_row branch_key key new.branches y y_is).1)
      (branch_lined_alike (t.entries key) (l.branch == key) at_old l (branch_record_of old x) (branch_record_of new y) vault_same same))

  -- A line that comes next at both.
  pub line_stays : StayAlike t old_after new_after
  line_stays = record {
    alike = record {
      accounts = stay.alike.accounts;
      tellers = tellers;
      branches = branches;
      rosters = rosters;
      entries = stay.alike.entries;
      undone = stay.alike.undone;
      users = stay.alike.users;
    };
    old_adds = line_adds old at_old stay.old_adds old_next;
    new_adds = line_adds new l stay.new_adds new_next;
    turns = stay.turns;
    given = stay.given;
    releases = stay.releases;
  }
