-- The rows that a drawer which is put on or off is judged on.
use Rattle.std.specs.Prelude.{ℕ, ◌||◌, Bool, is_none, option_map}
use Rattle.bank_books.specs.Records.{branch_record, teller_record}
use Rattle.bank_books.specs.WorldLists.{WorldLists}
use Rattle.rule_tests.specs.BranchParts.{cash_book_of}
use Rattle.drawers.specs.declared.drawer_rows.DrawerRows.{DrawerRows}

-- in a World, of a teller and a branch
abbrev pub drawer_rows : WorldLists → ℕ → ℕ → DrawerRows
drawer_rows w teller branch = record {
  teller = teller_record w teller;
  cash_book = option_map cash_book_of (branch_record w branch);
  vault = option_map (λ b. b.vault) (branch_record w branch);
}

-- the teller or the branch is not there
abbrev pub is_unknown : DrawerRows → Bool
is_unknown rows = is_none rows.teller || is_none rows.cash_book || is_none rows.vault
