-- All that is kept but the balances after entries.
use Rattle.std.specs.Prelude.{◌≡◌, map}
use Rattle.bank_books.specs.Records.{account_record_of, branch_record_of, release_count_of, teller_record_of}
use Rattle.bank_books.specs.WorldLists.{WorldLists}
use Rattle.book_sums.specs.declared.records.Records.{Records}

-- they are what the World gives for each of its rows
pub record AreRecordsOf (w : WorldLists) (r : Records) : Type 0 where
  pub branches : r.branches.items ≡ map (branch_record_of w) w.branches
  pub tellers : r.tellers.items ≡ map (teller_record_of w) w.tellers
  pub accounts : r.accounts.items ≡ map (account_record_of w) w.accounts
  pub users : r.users.items ≡ map (release_count_of w) w.policy.users
