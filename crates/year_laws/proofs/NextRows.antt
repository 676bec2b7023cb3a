-- Entries, cash lines, accounts and releases that come next, and that with one of them a bank still adds last.
use Rattle.std.proofs.Common.{◌≡◌, ◌≢◌, ◌==◌, ◌+◌, ◌≤◌, ◌∙◌, ℕ, List, Option, Some, None, Contains, refl, ap, arith, sym, subst, inl, inr}
use Rattle.std.specs.List.{count_by}
use Rattle.std.proofs.lemmas.Bool.{eq-eqb, ne_eqb}
use Rattle.keyed_rows.specs.Ordered.{add_row}
use Rattle.keyed_rows.proofs.AddRow.{IsNonDecreasingBy-add_row}
use Rattle.keyed_rows.proofs.Rows.{Contains-add_row_cases, count-add_row, count_named, each_added, find-add_row}
use Rattle.bank_books.specs.Balances.{account_row, entry_count}
use Rattle.bank_books.specs.Cash.{line_count}
use Rattle.bank_books.specs.Effects.{written}
use Rattle.bank_books.specs.Keys.{account_key, entry_key, line_key, release_key}
use Rattle.bank_books.specs.Records.{release_count}
use Rattle.bank_books.specs.WorldLists.{WorldLists}
use Rattle.bank_books.specs.declared.row_write.RowWrite.TheVariants as write
use Rattle.bank_books.specs.declared.rows.Account.{Account}
use Rattle.bank_books.specs.declared.rows.CashLine.{CashLine}
use Rattle.bank_books.specs.declared.rows.Entry.{Entry}
use Rattle.bank_books.specs.declared.rows.Release.{Release}
use Rattle.bank_books.specs.declared.rows.Teller.{Teller}
use Rattle.year_laws.specs.StaysAlike.{AddsLast, IsDrawerOf, IsOpened}

-- an entry bears the next number of its branch, and its account is there
pub record IsNextEntry (accounts : List Account) (entries : List Entry) (e : Entry) : Type 0 where
  pub number : e.number ≡ entry_count e.branch entries + 1
  pub account : IsOpened accounts e.account

-- a cash line bears the next number of its branch, and is at the vault or at a drawer of that
pub record IsNextLine (tellers : List Teller) (lines : List CashLine) (l : CashLine) : Type 0 where
  pub number : l.number ≡ line_count l.branch lines + 1
  pub place : l.place ≢ 0 → IsDrawerOf tellers l.branch l.place

-- ---- numbers

high : (n c c' d : ℕ) → n ≤ c → c' ≡ c + d → n ≤ c'
high n c c' d low more = omega arith

last : (n c c' : ℕ) → n ≡ c + 1 → c' ≡ c + 1 → n ≤ c'
last n c c' is more = omega arith

-- numbers go up to how many there are, with the row that bears the next one
numbers_kept : {X : Type 0} (key group number : X → ℕ) (e : X) (xs : List X) → ((x : X) → Contains xs x → number x ≤ count_by (λ r. group r == group x) xs)
    → number e ≡ count_by (λ r. group r == group e) xs + 1 → (x : X) → Contains (add_row key e xs) x → number x ≤ count_by (λ r. group r == group x) (add_row key e xs)
numbers_kept key group number e xs counted next x there = elim (Contains-add_row_cases key e xs x there) [
  | inl new ↦ subst (λ y. number y ≤ count_by (λ r. group r == group y) (add_row key e xs)) new
      (last (number e) _ _ next (count_named key (λ r. group r == group e) e xs (eq-eqb (group e) (group e) refl)))
  | inr old ↦ high (number x) _ _ _ (counted x old) (count-add_row key (λ r. group r == group x) e xs)
]

-- ---- what still adds last

pub entry_adds : (w : WorldLists) (e : Entry) → AddsLast w → IsNextEntry w.accounts w.entries e → AddsLast (written (write.Entry e) w)
entry_adds w e adds next = record {
  tellers = adds.tellers;
  accounts = each_added entry_key e w.entries (λ y. IsOpened w.accounts y.account) next.account adds.accounts;
  entries = numbers_kept entry_key (λ y. y.branch) (λ y. y.number) e w.entries adds.entries next.number;
  lines = adds.lines;
  places = adds.places;
  order = adds.order;
  releases = adds.releases;
}

pub line_adds : (w : WorldLists) (l : CashLine) → AddsLast w → IsNextLine w.tellers w.lines l → AddsLast (written (write.Line l) w)
line_adds w l adds next = record {
  tellers = adds.tellers;
  accounts = adds.accounts;
  entries = adds.entries;
  lines = numbers_kept line_key (λ y. y.branch) (λ y. y.number) l w.lines adds.lines next.number;
  places = each_added line_key l w.lines (λ y. y.place ≢ 0 → IsDrawerOf w.tellers y.branch y.place) next.place adds.places;
  order = IsNonDecreasingBy-add_row line_key l w.lines adds.order;
  releases = adds.releases;
}

-- accounts that are there are there still
opened_still : (a : Account) (accounts : List Account) → account_row a.account accounts ≡ None → (key : ℕ) → IsOpened accounts key → IsOpened (add_row account_key a accounts) key
opened_still a accounts free key (row, is) =
    (row, find-add_row account_key (λ r. r.account == key) a accounts (ne_eqb a.account key (λ same. apart (account_row key accounts) (ap (λ k. account_row k accounts) (sym same) ∙ free) is)) ∙ is)
  where
    apart : (o : Option Account) → o ≡ None → o ≡ Some row → ⊥
    apart None none some = absurd cc
    apart (Some r) none some = absurd cc

pub account_adds : (w : WorldLists) (a : Account) → AddsLast w → account_row a.account w.accounts ≡ None → AddsLast (written (write.Account a) w)
account_adds w a adds free = record {
  tellers = adds.tellers;
  accounts = λ e there. opened_still a w.accounts free e.account (adds.accounts e there);
  entries = adds.entries;
  lines = adds.lines;
  places = adds.places;
  order = adds.order;
  releases = adds.releases;
}

-- a release bears the next number of its user
abbrev pub IsNextRelease : List Release → Release → Type 0
IsNextRelease releases r = r.number ≡ release_count r.user releases + 1

pub release_adds : (w : WorldLists) (r : Release) → AddsLast w → IsNextRelease w.releases r → AddsLast (written (write.Release r) w)
release_adds w r adds next = record {
  tellers = adds.tellers;
  accounts = adds.accounts;
  entries = adds.entries;
  lines = adds.lines;
  places = adds.places;
  order = adds.order;
  releases = numbers_kept release_key (λ y. y.user) (λ y. y.number) r w.releases adds.releases next;
}
