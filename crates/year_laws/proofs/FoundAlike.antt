-- What is found at both banks: accounts, tellers and branches that are there, and the numbers that come next.
use Rattle.std.proofs.Common.{◌≡◌, ◌≢◌, ◌==◌, ◌+◌, ℕ, List, true, Some, refl, ap, arith, subst}
use Rattle.std.specs.Prelude.{option_map, if◌then◌else◌}
use Rattle.std.proofs.lemmas.Bool.{eq-eqb, eqb-true, ne_eqb}
use Rattle.keyed_rows.specs.Ordered.{add_row}
use Rattle.keyed_rows.proofs.Rows.{count_named, found_row}
use Rattle.bank_books.specs.Balances.{account_row, branch_row, entry_count, teller_row}
use Rattle.bank_books.specs.Cash.{line_count}
use Rattle.bank_books.specs.Keys.{branch_key, entry_key, line_key}
use Rattle.bank_books.specs.Records.{account_record_of, branch_record_of, teller_record, teller_record_of}
use Rattle.bank_books.specs.WorldLists.{WorldLists}
use Rattle.bank_books.specs.declared.rows.Account.{Account}
use Rattle.bank_books.specs.declared.rows.Branch.{Branch}
use Rattle.bank_books.specs.declared.rows.CashLine.{CashLine}
use Rattle.bank_books.specs.declared.rows.Entry.{Entry}
use Rattle.bank_books.specs.declared.rows.Teller.{Teller}
use Rattle.rule_tests.specs.Rules.{teller_is_of}
use Rattle.year_laws.specs.GoesOn.{GoesOn, IsSameAccount, IsSameBranch, IsSameTeller, Turn, number_at_old}
use Rattle.year_laws.specs.StaysAlike.{IsDrawerOf}
use Rattle.year_laws.proofs.RowsAlike.{found_both}

-- ---- rows that are there

module _ (t : Turn) (old new : WorldLists) (on : GoesOn t old new) (key : ℕ) where
  pub same_account : (x y : Account) → account_row key old.accounts ≡ Some x → account_row key new.accounts ≡ Some y → IsSameAccount (t.turns key) (account_record_of old x) (account_record_of new y)
  same_account x y x_is y_is =
      found_both (IsSameAccount (t.turns key)) (account_record_of old) (account_record_of new) (account_row key old.accounts) (account_row key new.accounts) x y x_is y_is (on.accounts key)

  pub same_teller : (x y : Teller) → teller_row key old.tellers ≡ Some x → teller_row key new.tellers ≡ Some y → IsSameTeller (teller_record_of old x) (teller_record_of new y)
  same_teller x y x_is y_is =
      found_both IsSameTeller (teller_record_of old) (teller_record_of new) (teller_row key old.tellers) (teller_row key new.tellers) x y x_is y_is (on.tellers key)

  pub same_branch : (x y : Branch) → branch_row key old.branches ≡ Some x → branch_row key new.branches ≡ Some y → IsSameBranch (t.entries key) (branch_record_of old x) (branch_record_of new y)
  same_branch x y x_is y_is =
      found_both (IsSameBranch (t.entries key)) (branch_record_of old) (branch_record_of new) (branch_row key old.branches) (branch_row key new.branches) x y x_is y_is (on.branches key)

-- a teller that is there, of the branch that the rule asks for
pub drawer_of : (w : WorldLists) (branch place : ℕ) (row : Teller) → teller_row place w.tellers ≡ Some row → teller_is_of (teller_record w place) branch ≡ true → IsDrawerOf w.tellers branch place
drawer_of w branch place row is of = (row, (is, eqb-true row.branch branch (subst (λ o. teller_is_of (option_map (teller_record_of w) o) branch ≡ true) is of)))

-- ---- numbers

pub one_more : (a b n : ℕ) → a ≡ b + n → a + 1 ≡ (b + 1) + n
one_more a b n is = omega (arith, is)

pub two_more : (a b n : ℕ) → a ≡ b + n → a + 2 ≡ (b + 2) + n
two_more a b n is = omega (arith, is)

pub first_is_some : (n : ℕ) → n + 1 ≢ 0
first_is_some n zero = absurd (omega (arith, zero))

pub second_is_some : (n : ℕ) → n + 2 ≢ 0
second_is_some n zero = absurd (omega (arith, zero))

-- of an entry that is named
pub named_at_old : (t : Turn) (branch number : ℕ) → number ≢ 0 → number_at_old t branch number ≡ number + t.entries branch
named_at_old t branch number some = ap (λ c. if c then 0 else number + t.entries branch) (ne_eqb number 0 some)

-- how many entries, and how many lines, the branch has by its record
pub entries_are : (w : WorldLists) (key : ℕ) (row : Branch) → branch_row key w.branches ≡ Some row → (branch_record_of w row).entries ≡ entry_count key w.entries
entries_are w key row is = ap (λ k. entry_count k w.entries) (found_row branch_key key w.branches row is).1

pub lines_are : (w : WorldLists) (key : ℕ) (row : Branch) → branch_row key w.branches ≡ Some row → (branch_record_of w row).lines ≡ line_count key w.lines
lines_are w key row is = ap (λ k. line_count k w.lines) (found_row branch_key key w.branches row is).1

next_but_one : (n c c' : ℕ) → n ≡ c → c' ≡ c + 1 → n + 2 ≡ c' + 1
next_but_one n c c' is more = omega (arith, is, more)

next_but_two : (n c c' c'' : ℕ) → n ≡ c → c' ≡ c + 1 → c'' ≡ c' + 1 → n + 3 ≡ c'' + 1
next_but_two n c c' c'' is more again = omega (arith, is, more, again)

-- the number after that of an entry that is added
pub entry_after : (e : Entry) (entries : List Entry) (n : ℕ) → n ≡ entry_count e.branch entries → n + 2 ≡ entry_count e.branch (add_row entry_key e entries) + 1
entry_after e entries n is = next_but_one n _ _ is (count_named entry_key (λ r. r.branch == e.branch) e entries (eq-eqb e.branch e.branch refl))

-- of a line, and of a second one at the same branch
pub line_after : (l : CashLine) (lines : List CashLine) (n : ℕ) → n ≡ line_count l.branch lines → n + 2 ≡ line_count l.branch (add_row line_key l lines) + 1
line_after l lines n is = next_but_one n _ _ is (count_named line_key (λ r. r.branch == l.branch) l lines (eq-eqb l.branch l.branch refl))

pub line_after_two : (l m : CashLine) (lines : List CashLine) (n : ℕ) → l.branch ≡ m.branch → n ≡ line_count m.branch lines → n + 3 ≡ line_count m.branch (add_row line_key m (add_row line_key l lines)) + 1
line_after_two l m lines n same is =
    next_but_two n _ _ _ is (count_named line_key (λ r. r.branch == m.branch) l lines (eq-eqb l.branch m.branch same))
    (count_named line_key (λ r. r.branch == m.branch) m (add_row line_key l lines) (eq-eqb m.branch m.branch refl))
