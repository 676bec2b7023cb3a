-- Rows with the numbers that are kept beside them, where these differ from what the books give: all of them are whole numbers.
use Rattle.std.specs.Prelude.{ℕ, ℤ, ◌+ℤ◌, List, map, unwrap_or}
use Rattle.std.specs.List.{enumerate_from}
use Rattle.bank_policy.specs.SetRow.{SetRow}
use Rattle.bank_policy.specs.declared.rows.Member.{Member}
use Rattle.bank_policy.specs.declared.rows.User.{User}
use Rattle.bank_books.specs.Records.{release_count, teller_record_of, slip_count}
use Rattle.bank_books.specs.WorldLists.{WorldLists}
use Rattle.bank_books.specs.declared.records.AccountRecord.{AccountRecord}
use Rattle.bank_books.specs.declared.records.EntryRecord.{EntryRecord}
use Rattle.bank_books.specs.declared.records.TellerRecord.{TellerRecord}
use Rattle.bank_books.specs.declared.rows.Account.{Account}
use Rattle.bank_books.specs.declared.rows.CashLine.{CashLine}
use Rattle.bank_books.specs.declared.rows.Entry.{Entry}
use Rattle.bank_books.specs.declared.rows.LineForm.{LineForm}
use Rattle.bank_books.specs.declared.rows.LineForm.TheVariants as form
use Rattle.bank_books.specs.declared.rows.Teller.{Teller}
use Rattle.book_kept.specs.declared.records.KeptTeller.{KeptTeller}
use Rattle.book_kept.specs.declared.records.KeptUser.{KeptUser}
use Rattle.book_kept.specs.declared.records.MemberRow.{MemberRow}
use Rattle.book_kept.specs.declared.records.SlipCount.{SlipCount}

-- a teller, whose drawer is held by user 0 where nobody holds it
abbrev pub kept_teller : TellerRecord → KeptTeller
kept_teller t = record { row = t.row; balance = t.balance; cash = t.cash; holder = unwrap_or t.holder 0 }

abbrev pub kept_teller_of : WorldLists → Teller → KeptTeller
kept_teller_of w row = kept_teller (teller_record_of w row)

-- after an entry of this delta
abbrev pub kept_teller_entered : ℤ → KeptTeller → KeptTeller
kept_teller_entered delta t = record t { balance = t.balance +ℤ delta }

-- who holds the drawer after a line of this form
abbrev pub kept_holder : CashLine → LineForm → ℕ → ℕ
kept_holder l form.On holder = l.user
kept_holder l form.Off holder = 0
kept_holder l _ holder = holder

-- after a line at its drawer
abbrev pub kept_teller_lined : CashLine → KeptTeller → KeptTeller
kept_teller_lined l t = record t { cash = t.cash +ℤ l.amount; holder = kept_holder l l.form t.holder }

-- an account that no entry names
abbrev pub account_begun : Account → AccountRecord
account_begun row = record { row = row; balance = row.opening; turns = 0 }

-- an entry that leaves its account with this balance
abbrev pub entry_left : Entry → AccountRecord → EntryRecord
entry_left e after = record { row = e; balance_after = after.balance }

abbrev pub kept_user_of : WorldLists → User → KeptUser
kept_user_of w row = record { row = row; releases = release_count row.user w.releases }

-- how many slips a user has
abbrev pub slip_count_of : WorldLists → User → SlipCount
slip_count_of w row = record { user = row.user; slips = slip_count row.user w.slips }

-- a member of a set at its place
abbrev pub member_row : ℕ → ℕ × Member → MemberRow
member_row set placed = record { set = set; place = placed.0; member = placed.1 }

-- the members of a set, whose places are 1, 2, 3 and so on
abbrev pub member_rows : SetRow → List MemberRow
member_rows row = map (member_row row.set) (enumerate_from 1 row.members)
