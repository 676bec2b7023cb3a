-- The texts of the queries for whole tables, in order of their keys.
use Rattle.std.specs.Prelude.{ℕ, List, codes}

abbrev pub all_bank_text : List ℕ
all_bank_text = codes "SELECT id, version, policy FROM bank ORDER BY id"

-- ---- the policy

abbrev pub all_users_text : List ℕ
all_users_text = codes "SELECT user_no, name, officer, suspended, session, is_on, releases FROM users ORDER BY user_no"

abbrev pub all_sets_text : List ℕ
all_sets_text = codes "SELECT set_no FROM sets ORDER BY set_no"

abbrev pub all_members_text : List ℕ
all_members_text = codes "SELECT set_no, place, kind, low, high FROM members ORDER BY set_no, place"

abbrev pub all_relations_text : List ℕ
all_relations_text = codes "SELECT procedure, set_no, by_user FROM relations ORDER BY procedure, set_no"

-- the triples of the first schema version, and of the later ones

abbrev pub first_triples_text : List ℕ
first_triples_text = codes "SELECT user_no, procedure, set_no, ceiling FROM triples ORDER BY user_no, procedure, set_no"

abbrev pub grants_text : List ℕ
grants_text = codes "SELECT user_no, procedure, set_no, ceiling, first_at, last_at FROM grants ORDER BY user_no, procedure, set_no"

abbrev pub all_certifiers_text : List ℕ
all_certifiers_text = codes "SELECT user_no, procedure FROM certifiers ORDER BY user_no, procedure"

-- ---- the books

abbrev pub all_branches_text : List ℕ
all_branches_text = codes "SELECT branch, opening, cash, day, balance, vault, entries, lines, accounts, history, drawers, cash_entries, differences FROM branches ORDER BY branch"

abbrev pub all_tellers_text : List ℕ
all_tellers_text = codes "SELECT teller, branch, opening, balance, cash, holder FROM tellers ORDER BY teller"

abbrev pub all_accounts_text : List ℕ
all_accounts_text = codes "SELECT account, home, opening, floor, balance, turns FROM accounts ORDER BY account"

abbrev pub all_entries_text : List ℕ
all_entries_text = codes "SELECT branch, number, account, turn, teller, delta, moment, day, user_no, form, partner, undoes, balance_after FROM entries ORDER BY branch, number"

abbrev pub all_lines_text : List ℕ
all_lines_text = codes "SELECT branch, number, place, amount, form, moment, day, user_no FROM lines ORDER BY branch, number"

abbrev pub all_proofs_text : List ℕ
all_proofs_text = codes "SELECT branch, day, entries, balance, cash FROM proofs ORDER BY branch, day"

abbrev pub all_releases_text : List ℕ
all_releases_text = codes "SELECT user_no, number, giver, branch, day, form, member1, member2, member3, member4, member5, member6, member7, member8, used FROM releases ORDER BY user_no, number"

abbrev pub all_slips_text : List ℕ
all_slips_text = codes "SELECT user_no, slip, form, member1, member2, member3, member4, member5, member6, member7, member8, reply FROM slips ORDER BY user_no, slip"

abbrev pub all_slip_counts_text : List ℕ
all_slip_counts_text = codes "SELECT user_no, slips FROM slip_counts ORDER BY user_no"
