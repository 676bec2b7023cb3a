-- What is known of a drawer that is put on or off: its teller and its branch are there, and the lines at its branch are what lines may be.
use Rattle.std.proofs.Common.{◌≡◌, ◌≢◌, ℕ, ◌==◌, ◌||◌, true, false, ap, arith, ◌∙◌, Option, Some}
use Rattle.std.specs.Prelude.{is_none, option_map}
use Rattle.std.proofs.lemmas.Bool.{eqb-true, or_parts}
use Rattle.row_members.specs.Ranges.{IsKey}
use Rattle.bank_books.specs.Balances.{branch_row, teller_row}
use Rattle.bank_books.specs.Keys.{teller_key}
use Rattle.bank_books.specs.Range.{IsTellerOf}
use Rattle.bank_books.specs.Records.{branch_record, branch_record_of, teller_record_of}
use Rattle.bank_books.specs.WorldLists.{WorldLists}
use Rattle.bank_books.specs.declared.rows.Branch.{Branch}
use Rattle.bank_books.specs.declared.rows.Teller.{Teller}
use Rattle.keyed_rows.proofs.Rows.{found_row}
use Rattle.rule_tests.proofs.RuleTests.{source_of}
use Rattle.rule_tests.specs.BranchParts.{cash_book_of}
use Rattle.rule_tests.specs.declared.cash_book.CashBook.{CashBook}
use Rattle.drawers.specs.DrawerRows.{drawer_rows, is_unknown}
use Rattle.drawers.specs.declared.drawer_rows.DrawerRows.{DrawerRows}

pub record AreThere (w : WorldLists) (teller branch : ℕ) : Type 0 where
  pub holder : Teller
  pub holder_is : teller_row teller w.tellers ≡ Some holder
  pub home : Branch
  pub home_is : branch_row branch w.branches ≡ Some home

-- the cash book of the branch
abbrev pub book_of : (w : WorldLists) (teller branch : ℕ) → AreThere w teller branch → CashBook
book_of w teller branch there = cash_book_of (branch_record_of w there.home)

pub are_there : (w : WorldLists) (teller branch : ℕ) → is_unknown (drawer_rows w teller branch) ≡ false → AreThere w teller branch
are_there w teller branch known =
    let rows : DrawerRows = drawer_rows w teller branch in
    let first = or_parts (is_none rows.teller || is_none rows.cash_book) (is_none rows.vault) known in
    let second = or_parts (is_none rows.teller) (is_none rows.cash_book) first.0 in
    let holder = source_of (teller_record_of w) (teller_row teller w.tellers) second.0 in
    let record_of = source_of cash_book_of (branch_record w branch) second.1 in
    let home = source_of (branch_record_of w) (branch_row branch w.branches) (ap is_none record_of.1) in
    record { holder = holder.0; holder_is = holder.1; home = home.0; home_is = home.1 }

-- what it is judged on, by what is found of its teller and its branch
abbrev pub rows_of : WorldLists → Option Teller → Option Branch → DrawerRows
rows_of w teller branch = record {
  teller = option_map (teller_record_of w) teller;
  cash_book = option_map cash_book_of (option_map (branch_record_of w) branch);
  vault = option_map (λ b. b.vault) (option_map (branch_record_of w) branch);
}

pub rows_are : (w : WorldLists) (teller branch : ℕ) (there : AreThere w teller branch) → drawer_rows w teller branch ≡ rows_of w (Some there.holder) (Some there.home)
rows_are w teller branch there = ap (λ o. rows_of w o (branch_row branch w.branches)) there.holder_is ∙ ap (λ o. rows_of w (Some there.holder) o) there.home_is

-- a teller of this branch, where the rule says so
pub teller_is : (w : WorldLists) (teller branch : ℕ) (there : AreThere w teller branch) → (there.holder.branch == branch) ≡ true → IsTellerOf w.tellers branch teller
teller_is w teller branch there of =
    let found = found_row teller_key teller w.tellers there.holder there.holder_is in
    (there.holder, (found.0, found.1, eqb-true there.holder.branch branch of))

pub no_vault : (key : ℕ) → IsKey key → key ≢ 0
no_vault key is none = omega (arith, is.0)
