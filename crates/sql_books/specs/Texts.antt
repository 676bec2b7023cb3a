-- The texts of the statements on the tables of the books.
use Rattle.std.specs.Prelude.{ℕ, List, codes}

-- ---- the row of the bank

abbrev pub version_text : List ℕ
version_text = codes "SELECT policy FROM bank WHERE id = 1"

abbrev pub set_version_text : List ℕ
set_version_text = codes "UPDATE bank SET policy = ?1 WHERE id = 1"

-- ---- accounts

abbrev pub account_text : List ℕ
account_text = codes "SELECT account, home, opening, floor, balance, turns FROM accounts WHERE account = ?1"

abbrev pub least_account_text : List ℕ
least_account_text = codes "SELECT account, home, opening, floor, balance, turns FROM accounts WHERE account >= ?1 AND account <= ?2 ORDER BY account LIMIT 1"

abbrev pub add_account_text : List ℕ
add_account_text = codes "INSERT INTO accounts (account, home, opening, floor, balance, turns) VALUES (?1, ?2, ?3, ?4, ?5, ?6)"

abbrev pub set_account_text : List ℕ
set_account_text = codes "UPDATE accounts SET home = ?2, opening = ?3, floor = ?4, balance = ?5, turns = ?6 WHERE account = ?1"

-- ---- tellers

abbrev pub teller_text : List ℕ
teller_text = codes "SELECT teller, branch, opening, balance, cash, holder FROM tellers WHERE teller = ?1"

abbrev pub roster_text : List ℕ
roster_text = codes "SELECT teller, branch, opening, balance, cash, holder FROM tellers WHERE branch = ?1 ORDER BY teller"

abbrev pub next_teller_text : List ℕ
next_teller_text = codes "SELECT teller, branch, opening, balance, cash, holder FROM tellers WHERE branch = ?1 AND teller > ?2 ORDER BY teller LIMIT 1"

abbrev pub add_teller_text : List ℕ
add_teller_text = codes "INSERT INTO tellers (teller, branch, opening, balance, cash, holder) VALUES (?1, ?2, ?3, ?4, ?5, ?6)"

abbrev pub set_teller_text : List ℕ
set_teller_text = codes "UPDATE tellers SET branch = ?2, opening = ?3, balance = ?4, cash = ?5, holder = ?6 WHERE teller = ?1"

-- ---- branches

abbrev pub branch_text : List ℕ
branch_text = codes "SELECT branch, opening, cash, day, balance, vault, entries, lines, accounts, history, drawers, cash_entries, differences FROM branches WHERE branch = ?1"

abbrev pub add_branch_text : List ℕ
add_branch_text = codes "INSERT INTO branches (branch, opening, cash, day, balance, vault, entries, lines, accounts, history, drawers, cash_entries, differences) VALUES (?1, ?2, ?3, ?4, ?5, ?6, ?7, ?8, ?9, ?10, ?11, ?12, ?13)"

abbrev pub set_branch_text : List ℕ
set_branch_text = codes "UPDATE branches SET opening = ?2, cash = ?3, day = ?4, balance = ?5, vault = ?6, entries = ?7, lines = ?8, accounts = ?9, history = ?10, drawers = ?11, cash_entries = ?12, differences = ?13 WHERE branch = ?1"

-- ---- entries

abbrev pub entry_text : List ℕ
entry_text = codes "SELECT branch, number, account, turn, teller, delta, moment, day, user_no, form, partner, undoes, balance_after FROM entries WHERE branch = ?1 AND number = ?2"

abbrev pub turn_text : List ℕ
turn_text = codes "SELECT branch, number, account, turn, teller, delta, moment, day, user_no, form, partner, undoes, balance_after FROM entries WHERE account = ?1 AND turn = ?2 ORDER BY branch, number LIMIT 1"

abbrev pub undoing_text : List ℕ
undoing_text = codes "SELECT number FROM entries WHERE branch = ?1 AND undoes = ?2"

abbrev pub add_entry_text : List ℕ
add_entry_text = codes "INSERT INTO entries (branch, number, account, turn, teller, delta, moment, day, user_no, form, partner, undoes, balance_after) VALUES (?1, ?2, ?3, ?4, ?5, ?6, ?7, ?8, ?9, ?10, ?11, ?12, ?13)"

-- ---- lines

abbrev pub add_line_text : List ℕ
add_line_text = codes "INSERT INTO lines (branch, number, place, amount, form, moment, day, user_no) VALUES (?1, ?2, ?3, ?4, ?5, ?6, ?7, ?8)"

-- ---- proofs

abbrev pub add_proof_text : List ℕ
add_proof_text = codes "INSERT INTO proofs (branch, day, entries, balance, cash) VALUES (?1, ?2, ?3, ?4, ?5)"
