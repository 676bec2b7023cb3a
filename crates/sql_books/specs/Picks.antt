-- Which rows of the books are asked for, by their columns.
use Rattle.std.specs.Prelude.{ℕ, ◌==◌, ◌&&◌, Bool, nat_le, nat_lt}
use Rattle.bank_books.specs.declared.records.AccountRecord.{AccountRecord}
use Rattle.bank_books.specs.declared.records.EntryRecord.{EntryRecord}
use Rattle.book_kept.specs.declared.records.KeptTeller.{KeptTeller}

-- from the one number to the other
abbrev pub is_account_between : ℕ → ℕ → AccountRecord → Bool
is_account_between low high a = nat_le low a.row.account && nat_le a.row.account high

abbrev pub is_teller_of : ℕ → KeptTeller → Bool
is_teller_of branch t = t.row.branch == branch

-- above a number
abbrev pub is_teller_after : ℕ → ℕ → KeptTeller → Bool
is_teller_after branch after t = t.row.branch == branch && nat_lt after t.row.teller

abbrev pub is_entry : ℕ → ℕ → EntryRecord → Bool
is_entry branch number e = e.row.branch == branch && e.row.number == number

-- the turn of this number of an account
abbrev pub is_entry_at : ℕ → ℕ → EntryRecord → Bool
is_entry_at account turn e = e.row.account == account && e.row.turn == turn

-- it corrects the entry of this number
abbrev pub undoes_entry : ℕ → ℕ → EntryRecord → Bool
undoes_entry branch number e = e.row.branch == branch && e.row.undoes == number
