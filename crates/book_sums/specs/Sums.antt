-- The parts that the rows of a World have in its sums, by group.
use Rattle.std.specs.Prelude.{ℕ, pos, ◌+ℤ◌, ◌<◌, ◌^◌, List, length, map, Option}
use Rattle.std.specs.List.{All}
use Rattle.std.specs.List.Sorted.{IsPermutation}
use Rattle.bank_policy.specs.declared.rows.User.{User}
use Rattle.bank_books.specs.Balances.{account_opening, branch_deltas}
use Rattle.bank_books.specs.Cash.{cash_entry_total, difference_total, drawer_total}
use Rattle.book_sums.specs.Shares.{group_count, group_total, total_at, total_up_to}
use Rattle.bank_books.specs.SlipRow.{SlipRow}
use Rattle.bank_books.specs.WorldLists.{WorldLists}
use Rattle.bank_books.specs.declared.records.AccountRecord.{AccountRecord}
use Rattle.bank_books.specs.declared.records.BranchRecord.{BranchRecord}
use Rattle.bank_books.specs.declared.records.EntryRecord.{EntryRecord}
use Rattle.bank_books.specs.declared.records.ReleaseCount.{ReleaseCount}
use Rattle.bank_books.specs.declared.records.TellerRecord.{TellerRecord}
use Rattle.bank_books.specs.declared.rows.Account.{Account}
use Rattle.bank_books.specs.declared.rows.Branch.{Branch}
use Rattle.bank_books.specs.declared.rows.CashLine.{CashLine}
use Rattle.bank_books.specs.declared.rows.Entry.{Entry}
use Rattle.bank_books.specs.declared.rows.Release.{Release}
use Rattle.bank_books.specs.declared.rows.Teller.{Teller}
use Rattle.book_sums.specs.declared.shares.Part.{Part}
use Rattle.book_sums.specs.declared.sums.Sums.{Sums}

-- an entry in the sums of its teller by branch, and of its account by turn
abbrev pub teller_part : Entry → Part
teller_part e = record { group = e.teller; number = e.branch; amount = e.delta }

abbrev pub turn_part : Entry → Part
turn_part e = record { group = e.account; number = e.turn; amount = e.delta }

-- a line in the sums of its branch by place
abbrev pub place_part : CashLine → Part
place_part l = record { group = l.branch; number = l.place; amount = l.amount }

-- an account in the count of its home, and a release in that of its user
abbrev pub home_part : Account → Part
home_part a = record { group = a.home; number = 0; amount = pos 0 }

abbrev pub user_part : Release → Part
user_part r = record { group = r.user; number = 0; amount = pos 0 }

-- a slip, too
abbrev pub slip_part : SlipRow → Part
slip_part s = record { group = s.user; number = 0; amount = pos 0 }

-- The sums hold the parts of these rows and no others, in an order of their own. The entries and the lines of a branch are
-- found by their keys, in which 32 bits hold their numbers.
pub record AreSumsOf (w : WorldLists) (s : Sums) : Type 0 where
  pub by_teller : IsPermutation (map teller_part w.entries) s.by_teller
  pub by_turn : IsPermutation (map turn_part w.entries) s.by_turn
  pub by_place : IsPermutation (map place_part w.lines) s.by_place
  pub by_home : IsPermutation (map home_part w.accounts) s.by_home
  pub by_user : IsPermutation (map user_part w.releases) s.by_user
  pub slips_by_user : IsPermutation (map slip_part w.slips) s.slips_by_user
  pub entry_numbers : All (λ e. e.number < 2 ^ 32) w.entries
  pub line_numbers : All (λ l. l.number < 2 ^ 32) w.lines

-- rows with the numbers that sums give them, a branch beside its own entries and lines
abbrev pub branch_record_from : Sums → List Entry → List CashLine → Branch → BranchRecord
branch_record_from s entries lines row = record {
  row = row;
  balance = row.opening +ℤ branch_deltas row.branch entries;
  vault = row.cash +ℤ total_at row.branch 0 s.by_place;
  entries = length entries;
  lines = length lines;
  accounts = group_count row.branch s.by_home;
  history = branch_deltas row.branch entries;
  drawers = drawer_total row.branch lines;
  cash_entries = cash_entry_total row.branch lines;
  differences = difference_total row.branch lines;
}

abbrev pub teller_record_from : Sums → Teller → Option ℕ → TellerRecord
teller_record_from s row holder = record {
  row = row;
  balance = row.opening +ℤ group_total row.teller s.by_teller;
  cash = total_at row.branch row.teller s.by_place;
  holder = holder;
}

abbrev pub account_record_from : Sums → Account → AccountRecord
account_record_from s row = record {
  row = row;
  balance = row.opening +ℤ group_total row.account s.by_turn;
  turns = group_count row.account s.by_turn;
}

abbrev pub entry_record_from : WorldLists → Sums → Entry → EntryRecord
entry_record_from w s row = record {
  row = row;
  balance_after = account_opening row.account w.accounts +ℤ total_up_to row.account row.turn s.by_turn;
}

abbrev pub release_count_from : Sums → User → ReleaseCount
release_count_from s row = record { user = row.user; releases = group_count row.user s.by_user; slips = group_count row.user s.slips_by_user }
