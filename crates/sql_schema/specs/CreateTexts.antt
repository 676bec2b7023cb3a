-- The texts that define the tables and the indexes, in the order in which they are made.
use Rattle.std.specs.Prelude.{ℕ, List, codes}

abbrev pub create_bank : List ℕ
create_bank = codes "CREATE TABLE bank (id INTEGER PRIMARY KEY, version INTEGER NOT NULL, policy INTEGER NOT NULL) STRICT"

abbrev pub create_users : List ℕ
create_users = codes "CREATE TABLE users (user_no INTEGER PRIMARY KEY, name TEXT NOT NULL, officer INTEGER NOT NULL, suspended INTEGER NOT NULL, session INTEGER NOT NULL, is_on INTEGER NOT NULL, releases INTEGER NOT NULL) STRICT"

abbrev pub create_sets : List ℕ
create_sets = codes "CREATE TABLE sets (set_no INTEGER PRIMARY KEY) STRICT"

abbrev pub create_members : List ℕ
create_members = codes "CREATE TABLE members (set_no INTEGER NOT NULL, place INTEGER NOT NULL, kind INTEGER NOT NULL, low INTEGER NOT NULL, high INTEGER NOT NULL, PRIMARY KEY (set_no, place)) STRICT"

abbrev pub create_relations : List ℕ
create_relations = codes "CREATE TABLE relations (procedure INTEGER NOT NULL, set_no INTEGER NOT NULL, by_user INTEGER NOT NULL, PRIMARY KEY (procedure, set_no)) STRICT"

abbrev pub create_grants : List ℕ
create_grants = codes "CREATE TABLE grants (user_no INTEGER NOT NULL, procedure INTEGER NOT NULL, set_no INTEGER NOT NULL, ceiling INTEGER NOT NULL, first_at INTEGER NOT NULL, last_at INTEGER NOT NULL, PRIMARY KEY (user_no, procedure, set_no), FOREIGN KEY (procedure, set_no) REFERENCES relations (procedure, set_no) ON DELETE CASCADE) STRICT"

abbrev pub create_certifiers : List ℕ
create_certifiers = codes "CREATE TABLE certifiers (user_no INTEGER NOT NULL, procedure INTEGER NOT NULL, PRIMARY KEY (user_no, procedure)) STRICT"

abbrev pub create_branches : List ℕ
create_branches = codes "CREATE TABLE branches (branch INTEGER PRIMARY KEY, opening INTEGER NOT NULL, cash INTEGER NOT NULL, day INTEGER NOT NULL, balance INTEGER NOT NULL, vault INTEGER NOT NULL, entries INTEGER NOT NULL, lines INTEGER NOT NULL, accounts INTEGER NOT NULL, history INTEGER NOT NULL, drawers INTEGER NOT NULL, cash_entries INTEGER NOT NULL, differences INTEGER NOT NULL) STRICT"

abbrev pub create_tellers : List ℕ
create_tellers = codes "CREATE TABLE tellers (teller INTEGER PRIMARY KEY, branch INTEGER NOT NULL, opening INTEGER NOT NULL, balance INTEGER NOT NULL, cash INTEGER NOT NULL, holder INTEGER NOT NULL) STRICT"

abbrev pub create_accounts : List ℕ
create_accounts = codes "CREATE TABLE accounts (account INTEGER PRIMARY KEY, home INTEGER NOT NULL, opening INTEGER NOT NULL, floor INTEGER NOT NULL, balance INTEGER NOT NULL, turns INTEGER NOT NULL) STRICT"

abbrev pub create_entries : List ℕ
create_entries = codes "CREATE TABLE entries (branch INTEGER NOT NULL, number INTEGER NOT NULL, account INTEGER NOT NULL, turn INTEGER NOT NULL, teller INTEGER NOT NULL, delta INTEGER NOT NULL, moment INTEGER NOT NULL, day INTEGER NOT NULL, user_no INTEGER NOT NULL, form INTEGER NOT NULL, partner INTEGER NOT NULL, undoes INTEGER NOT NULL, balance_after INTEGER NOT NULL, PRIMARY KEY (branch, number), UNIQUE (account, turn)) STRICT"

abbrev pub create_lines : List ℕ
create_lines = codes "CREATE TABLE lines (branch INTEGER NOT NULL, number INTEGER NOT NULL, place INTEGER NOT NULL, amount INTEGER NOT NULL, form INTEGER NOT NULL, moment INTEGER NOT NULL, day INTEGER NOT NULL, user_no INTEGER NOT NULL, PRIMARY KEY (branch, number)) STRICT"

abbrev pub create_proofs : List ℕ
create_proofs = codes "CREATE TABLE proofs (branch INTEGER NOT NULL, day INTEGER NOT NULL, entries INTEGER NOT NULL, balance INTEGER NOT NULL, cash INTEGER NOT NULL, PRIMARY KEY (branch, day)) STRICT"

abbrev pub create_releases : List ℕ
create_releases = codes "CREATE TABLE releases (user_no INTEGER NOT NULL, number INTEGER NOT NULL, giver INTEGER NOT NULL, branch INTEGER NOT NULL, day INTEGER NOT NULL, form INTEGER NOT NULL, member1 INTEGER NOT NULL, member2 INTEGER NOT NULL, member3 INTEGER NOT NULL, member4 INTEGER NOT NULL, member5 INTEGER NOT NULL, member6 INTEGER NOT NULL, member7 INTEGER NOT NULL, member8 INTEGER NOT NULL, used INTEGER NOT NULL, PRIMARY KEY (user_no, number)) STRICT"

abbrev pub create_entries_index : List ℕ
create_entries_index = codes "CREATE INDEX entries_by_undoes ON entries (branch, undoes)"

abbrev pub create_tellers_index : List ℕ
create_tellers_index = codes "CREATE INDEX tellers_by_branch ON tellers (branch, teller)"

abbrev pub create_slips : List ℕ
create_slips = codes "CREATE TABLE slips (user_no INTEGER NOT NULL, slip INTEGER NOT NULL, form INTEGER NOT NULL, member1 INTEGER NOT NULL, member2 INTEGER NOT NULL, member3 INTEGER NOT NULL, member4 INTEGER NOT NULL, member5 INTEGER NOT NULL, member6 INTEGER NOT NULL, member7 INTEGER NOT NULL, member8 INTEGER NOT NULL, reply BLOB NOT NULL, PRIMARY KEY (user_no, slip)) STRICT"

abbrev pub create_slip_counts : List ℕ
create_slip_counts = codes "CREATE TABLE slip_counts (user_no INTEGER PRIMARY KEY, slips INTEGER NOT NULL) STRICT"
