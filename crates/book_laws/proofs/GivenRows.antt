-- The numbers that a World gives stand beside its rows, and are what its entries and lines give: by computation.
use Rattle.std.proofs.Common.{◌≡◌, ℕ, refl}
use Rattle.bank_books.specs.Conditions.{IsAccountOfHistory, IsBranchOfHistory, IsBranchOfLines, IsGivenByEntries, IsGivenByLines, IsTellerOfLines, home_of}
use Rattle.bank_books.specs.Range.{AreOfRows}
use Rattle.bank_books.specs.Records.{account_record_of, branch_record_of, entry_record_of, kept_of, teller_record_of}
use Rattle.bank_books.specs.WorldLists.{WorldLists}
use Rattle.keyed_rows.proofs.Rows.{every_made, map-made}

pub rows_given : (w : WorldLists) → AreOfRows w (kept_of w)
rows_given w = record {
  branches = map-made (branch_record_of w) (λ b. b.row) (λ row. refl) w.branches;
  tellers = map-made (teller_record_of w) (λ t. t.row) (λ row. refl) w.tellers;
  accounts = map-made (account_record_of w) (λ a. a.row) (λ row. refl) w.accounts;
  entries = map-made (entry_record_of w) (λ e. e.row) (λ row. refl) w.entries;
  users = refl;
}

pub given_by_entries : (w : WorldLists) (branch : ℕ) → IsGivenByEntries w (kept_of w) branch
given_by_entries w branch = record {
  branches =
      every_made (branch_record_of w) (λ b. b.row.branch ≡ branch → IsBranchOfHistory b (branch_record_of w b.row)) w.branches
      (λ row there of. record { balance = refl; entries = refl; history = refl; accounts = refl });
  tellers = every_made (teller_record_of w) (λ t. t.row.branch ≡ branch → t.balance ≡ (teller_record_of w t.row).balance) w.tellers (λ row there of. refl);
  accounts =
      every_made (account_record_of w) (λ a. a.row.home ≡ branch → IsAccountOfHistory a (account_record_of w a.row)) w.accounts
      (λ row there of. record { balance = refl; turns = refl });
  entries =
      every_made (entry_record_of w) (λ e. home_of w.accounts e.row.account ≡ branch → e.balance_after ≡ (entry_record_of w e.row).balance_after) w.entries
      (λ row there of. refl);
}

pub given_by_lines : (w : WorldLists) (branch : ℕ) → IsGivenByLines w (kept_of w) branch
given_by_lines w branch = record {
  branches =
      every_made (branch_record_of w) (λ b. b.row.branch ≡ branch → IsBranchOfLines b (branch_record_of w b.row)) w.branches
      (λ row there of. record { vault = refl; lines = refl; drawers = refl; cash_entries = refl; differences = refl });
  tellers =
      every_made (teller_record_of w) (λ t. t.row.branch ≡ branch → IsTellerOfLines t (teller_record_of w t.row)) w.tellers
      (λ row there of. record { cash = refl; holder = refl });
}
