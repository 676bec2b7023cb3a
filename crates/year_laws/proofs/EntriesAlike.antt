-- An entry that is added at both banks, at each by the numbers that it has there, leaves them alike.
use Rattle.std.proofs.Common.{◌≡◌, ◌≢◌, ◌==◌, ◌&&◌, ◌||◌, ◌+◌, ◌≤◌, ◌+ℤ◌, ◌∙◌, ℕ, ℤ, Bool, true, false, not, None, Contains, refl, ap, ap₂, arith, sym, subst}
use Rattle.std.specs.Prelude.{option_map, if◌then◌else◌}
use Rattle.std.specs.List.{filter, list_any}
use Rattle.std.proofs.lemmas.Bool.{and_parts, eq-eqb, eqb-false, eqb-true, ne_eqb}
use Rattle.keyed_rows.proofs.Rows.{find-add_row, found_row}
use Rattle.bank_books.specs.Balances.{account_row, branch_row, entry_count, teller_row}
use Rattle.bank_books.specs.Effects.{written}
use Rattle.bank_books.specs.Keys.{account_key, branch_key, entry_key}
use Rattle.bank_books.specs.Records.{account_record, account_record_of, branch_record, branch_record_of, teller_record, teller_record_of}
use Rattle.bank_books.specs.WorldLists.{WorldLists}
use Rattle.bank_books.specs.declared.records.AccountRecord.{AccountRecord}
use Rattle.bank_books.specs.declared.records.BranchRecord.{BranchRecord}
use Rattle.bank_books.specs.declared.records.TellerRecord.{TellerRecord}
use Rattle.bank_books.specs.declared.row_write.RowWrite.TheVariants as write
use Rattle.bank_books.specs.declared.rows.Account.{Account}
use Rattle.bank_books.specs.declared.rows.Branch.{Branch}
use Rattle.bank_books.specs.declared.rows.Entry.{Entry}
use Rattle.bank_books.specs.declared.rows.Teller.{Teller}
use Rattle.book_laws.specs.Moves.{account_entered, branch_entered, teller_entered}
use Rattle.book_laws.proofs.EntryMoved.{entry_moves}
use Rattle.world_reads.specs.BookReads.{entry, is_entry, is_teller_of, roster, undoes_entry, undone}
use Rattle.year_laws.specs.GoesOn.{AreBoth, AreEach, GoesOn, IsSameAccount, IsSameBranch, IsSameTeller, Turn, entry_at_old, number_at_old}
use Rattle.year_laws.specs.StaysAlike.{AddsLast, StayAlike}
use Rattle.year_laws.proofs.FoundAlike.{one_more}
use Rattle.year_laws.proofs.NextRows.{IsNextEntry, entry_adds}
use Rattle.year_laws.proofs.RowsAlike.{any_added, both_moved, carried, each_moved, found_added, none_found}

-- ---- records with one entry more, where it is theirs

account_entered_alike : (n : ℕ) (delta : ℤ) (c : Bool) (a b : AccountRecord) → IsSameAccount n a b → IsSameAccount n (if c then account_entered delta a else a) (if c then account_entered delta b else b)
account_entered_alike n delta true a b same =
    record { home = same.home; floor = same.floor; balance = ap (λ z. z +ℤ delta) same.balance; turns = one_more a.turns b.turns n same.turns }
account_entered_alike n delta false a b same = same

teller_entered_alike : (delta : ℤ) (c : Bool) (a b : TellerRecord) → IsSameTeller a b → IsSameTeller (if c then teller_entered delta a else a) (if c then teller_entered delta b else b)
teller_entered_alike delta true a b same =
    record { teller = same.teller; branch = same.branch; balance = ap (λ z. z +ℤ delta) same.balance; cash = same.cash; holder = same.holder }
teller_entered_alike delta false a b same = same

branch_entered_alike : (n : ℕ) (delta : ℤ) (c : Bool) (a b : BranchRecord) → IsSameBranch n a b → IsSameBranch n (if c then branch_entered delta a else a) (if c then branch_entered delta b else b)
branch_entered_alike n delta true a b same = record {
  day = same.day;
  balance = ap (λ z. z +ℤ delta) same.balance;
  vault = same.vault;
  entries = one_more a.entries b.entries n same.entries;
  accounts = same.accounts;
}
branch_entered_alike n delta false a b same = same

-- ---- numbers

moved_apart : (a b n : ℕ) → (a ≡ b → ⊥) → a + n ≡ b + n → ⊥
moved_apart a b n apart same = apart (omega (arith, same))

-- two numbers are equal where they are with as many more
moved_test : (a b n : ℕ) → (a + n == b + n) ≡ (a == b)
moved_test a b n = go (a == b) refl
  where
    go : (c : Bool) → (a == b) ≡ c → (a + n == b + n) ≡ c
    go true is = eq-eqb (a + n) (b + n) (ap (λ k. k + n) (eqb-true a b is))
    go false is = ne_eqb (a + n) (b + n) (moved_apart a b n (eqb-false a b is))

not_zero : (a n : ℕ) → a ≢ 0 → a + n ≢ 0
not_zero a n some zero = some (omega (arith, zero))

no_other : (a n b : ℕ) → a ≢ 0 → b ≡ 0 → b ≡ a + n → ⊥
no_other a n b some zero is = some (omega (arith, zero, is))

-- a number that another entry names is the one of an entry at both, or at neither
named_test : (t : Turn) (branch named number : ℕ) → number ≢ 0 → (number_at_old t branch named == number + t.entries branch) ≡ (named == number)
named_test t branch named number some = go (named == 0) refl
  where
    go : (c : Bool) → (named == 0) ≡ c → ((if c then 0 else named + t.entries branch) == number + t.entries branch) ≡ (named == number)
    go true is =
        ne_eqb 0 (number + t.entries branch) (no_other number (t.entries branch) 0 some refl)
        ∙ sym (ne_eqb named number (λ same. some (sym same ∙ eqb-true named 0 is)))
    go false is = moved_test named number (t.entries branch)

-- what holds of a branch may be looked at where the branch is the entry's
at_branch : (of branch : ℕ) (f g : ℕ → Bool) → f of ≡ g of → (of == branch && f branch) ≡ (of == branch && g branch)
at_branch of branch f g same = go (of == branch) refl
  where
    go : (c : Bool) → (of == branch) ≡ c → (c && f branch) ≡ (c && g branch)
    go true is = subst (λ k. f k ≡ g k) (eqb-true of branch is) same
    go false is = refl

is_entry_alike : (t : Turn) (e : Entry) (branch number : ℕ) → is_entry branch (number + t.entries branch) (entry_at_old t e) ≡ is_entry branch number e
is_entry_alike t e branch number =
    at_branch e.branch branch (λ k. e.number + t.entries e.branch == number + t.entries k) (λ k. e.number == number) (moved_test e.number number (t.entries e.branch))

undoes_alike : (t : Turn) (e : Entry) (branch number : ℕ) → number ≢ 0 → undoes_entry branch (number + t.entries branch) (entry_at_old t e) ≡ undoes_entry branch number e
undoes_alike t e branch number some =
    at_branch e.branch branch (λ k. number_at_old t e.branch e.undoes == number + t.entries k) (λ k. e.undoes == number) (named_test t e.branch e.undoes number some)

-- of tests on numbers that are not 0
tested : (a b x y : Bool) → a ≡ false → b ≡ false → (not a && x) ≡ (not b && y) → x ≡ y
tested true b x y none also is = absurd cc
tested false true x y none also is = absurd cc
tested false false x y none also is = is

both_tested : (a b x y : Bool) → a ≡ false → b ≡ false → x ≡ y → (not a && x) ≡ (not b && y)
both_tested a b x y none also same = ap₂ (λ c z. not c && z) (none ∙ sym also) same

-- the number of an entry that comes next is free
past : (n c m : ℕ) → n ≤ c → m ≡ c + 1 → n ≡ m → ⊥
past n c m low next same = omega arith

free : (w : WorldLists) (e : Entry) → AddsLast w → IsNextEntry w.accounts w.entries e → entry w e.branch e.number ≡ None
free w e adds next = none_found (is_entry e.branch e.number) w.entries (λ y there. go y there (y.branch == e.branch) refl)
  where
    go : (y : Entry) → Contains w.entries y → (c : Bool) → (y.branch == e.branch) ≡ c → (c && y.number == e.number) ≡ false
    go y there true is =
        ne_eqb y.number e.number (past y.number (entry_count e.branch w.entries) e.number (subst (λ k. y.number ≤ entry_count k w.entries) (eqb-true y.branch e.branch is) (adds.entries y there)) next.number)
    go y there false is = refl

-- ---- the two banks with it

module _ (t : Turn) (old new : WorldLists) (on : GoesOn t old new) (e : Entry) where
  abbrev at_old : Entry
  at_old = entry_at_old t e

  abbrev old_after : WorldLists
  old_after = written (write.Entry at_old) old

  abbrev new_after : WorldLists
  new_after = written (write.Entry e) new

  account_after : (w : WorldLists) (added : Entry) (row : Account) (key : ℕ) → row.account ≡ key
      → account_record_of (written (write.Entry added) w) row ≡ (if added.account == key then account_entered added.delta (account_record_of w row) else account_record_of w row)
  account_after w added row key is =
      (entry_moves w added).accounts row ∙ ap (λ k. if added.account == k then account_entered added.delta (account_record_of w row) else account_record_of w row) is

  accounts : (key : ℕ) → AreBoth (IsSameAccount (t.turns key)) (account_record old_after key) (account_record new_after key)
  accounts key =
      both_moved (IsSameAccount (t.turns key)) (account_record_of old) (account_record_of old_after) (account_record_of new) (account_record_of new_after) (account_row key old.accounts) (account_row key new.accounts)
      (on.accounts key) (λ x y x_is y_is same.
      carried (IsSameAccount (t.turns key)) _ _ _ _ (account_after old at_old x key (found_row account_key key old.accounts x x_is).1) (account_after new e y key (found_row account_key key new.accounts y y_is).1)
      (account_entered_alike (t.turns key) e.delta (e.account == key) (account_record_of old x) (account_record_of new y) same))

  teller_after : (x y : Teller) → IsSameTeller (teller_record_of old x) (teller_record_of new y) → IsSameTeller (teller_record_of old_after x) (teller_record_of new_after y)
  teller_after x y same =
      carried IsSameTeller _ _ _ _ ((entry_moves old at_old).tellers x)
      ((entry_moves new e).tellers y ∙ ap (λ k. if e.teller == k then teller_entered e.delta (teller_record_of new y) else teller_record_of new y) (sym same.teller))
      (teller_entered_alike e.delta (e.teller == x.teller) (teller_record_of old x) (teller_record_of new y) same)

  tellers : (key : ℕ) → AreBoth IsSameTeller (teller_record old_after key) (teller_record new_after key)
  tellers key =
      both_moved IsSameTeller (teller_record_of old) (teller_record_of old_after) (teller_record_of new) (teller_record_of new_after) (teller_row key old.tellers) (teller_row key new.tellers) (on.tellers key)
      (λ x y x_is y_is same. teller_after x y same)

  rosters : (branch : ℕ) → AreEach IsSameTeller (roster old_after branch) (roster new_after branch)
  rosters branch =
      each_moved IsSameTeller (teller_record_of old) (teller_record_of old_after) (teller_record_of new) (teller_record_of new_after) (filter (is_teller_of branch) old.tellers)
      (filter (is_teller_of branch) new.tellers) (on.rosters branch) (λ x y there too same. teller_after x y same)

  branch_after : (w : WorldLists) (added : Entry) (row : Branch) (key : ℕ) → row.branch ≡ key
      → branch_record_of (written (write.Entry added) w) row ≡ (if added.branch == key then branch_entered added.delta (branch_record_of w row) else branch_record_of w row)
  branch_after w added row key is =
      (entry_moves w added).branches row ∙ ap (λ k. if added.branch == k then branch_entered added.delta (branch_record_of w row) else branch_record_of w row) is

  branches : (key : ℕ) → AreBoth (IsSameBranch (t.entries key)) (branch_record old_after key) (branch_record new_after key)
  branches key =
      both_moved (IsSameBranch (t.entries key)) (branch_record_of old) (branch_record_of old_after) (branch_record_of new) (branch_record_of new_after) (branch_row key old.branches) (branch_row key new.branches)
      (on.branches key) (λ x y x_is y_is same.
      carried (IsSameBranch (t.entries key)) _ _ _ _ (branch_after old at_old x key (found_row branch_key key old.branches x x_is).1) (branch_after new e y key (found_row branch_key key new.branches y y_is).1)
      (branch_entered_alike (t.entries key) e.delta (e.branch == key) (branch_record_of old x) (branch_record_of new y) same))

  -- its number is free at the bank of the next year, and so at the other
  entries : entry new e.branch e.number ≡ None → (branch number : ℕ) → number ≢ 0 → entry old_after branch (number + t.entries branch) ≡ option_map (entry_at_old t) (entry new_after branch number)
  entries none branch number some = go (is_entry branch number e) refl
    where
      here : is_entry branch number e ≡ true → entry new branch number ≡ None
      here is =
          let parts = and_parts (e.branch == branch) (e.number == number) is in
          ap₂ (entry new) (sym (eqb-true e.branch branch parts.0)) (sym (eqb-true e.number number parts.1)) ∙ none

      go : (c : Bool) → is_entry branch number e ≡ c → entry old_after branch (number + t.entries branch) ≡ option_map (entry_at_old t) (entry new_after branch number)
      go true is =
          found_added entry_key (is_entry branch (number + t.entries branch)) at_old old.entries (is_entry_alike t e branch number ∙ is) (on.entries branch number some ∙ ap (option_map (entry_at_old t)) (here is))
          ∙ sym (ap (option_map (entry_at_old t)) (found_added entry_key (is_entry branch number) e new.entries is (here is)))
      go false is =
          find-add_row entry_key (is_entry branch (number + t.entries branch)) at_old old.entries (is_entry_alike t e branch number ∙ is) ∙ on.entries branch number some
          ∙ sym (ap (option_map (entry_at_old t)) (find-add_row entry_key (is_entry branch number) e new.entries is))

  undone_alike : (branch number : ℕ) → number ≢ 0 → undone old_after branch (number + t.entries branch) ≡ undone new_after branch number
  undone_alike branch number some =
      let at_both = ne_eqb (number + t.entries branch) 0 (not_zero number (t.entries branch) some) in
      let none = ne_eqb number 0 some in
      both_tested _ _ _ _ at_both none (
      any_added entry_key (undoes_entry branch (number + t.entries branch)) at_old old.entries
      ∙ ap₂ (λ x y. x || y) (undoes_alike t e branch number some)
      (tested _ _ (list_any (undoes_entry branch (number + t.entries branch)) old.entries) (list_any (undoes_entry branch number) new.entries) at_both none (on.undone branch number some))
      ∙ sym (any_added entry_key (undoes_entry branch number) e new.entries))

  alike_after : entry new e.branch e.number ≡ None → GoesOn t old_after new_after
  alike_after none = record {
    accounts = accounts;
    tellers = tellers;
    branches = branches;
    rosters = rosters;
    entries = entries none;
    undone = undone_alike;
    users = on.users;
  }

-- An entry that comes next at both.
pub entry_stays : (t : Turn) (old new : WorldLists) → StayAlike t old new → (at_old e : Entry) → at_old ≡ entry_at_old t e → IsNextEntry old.accounts old.entries at_old → IsNextEntry new.accounts new.entries e
    → StayAlike t (written (write.Entry at_old) old) (written (write.Entry e) new)
entry_stays t old new stay at_old e is old_next new_next = record {
  alike = subst (λ x. GoesOn t (written (write.Entry x) old) (written (write.Entry e) new)) (sym is) (alike_after t old new stay.alike e (free new e stay.new_adds new_next));
  old_adds = entry_adds old at_old stay.old_adds old_next;
  new_adds = entry_adds new e stay.new_adds new_next;
  turns = stay.turns;
  given = stay.given;
  releases = stay.releases;
}
