-- The texts of the statements on the tables of the policy.
use Rattle.std.specs.Prelude.{ℕ, List, codes}

-- ---- users

abbrev pub user_text : List ℕ
user_text = codes "SELECT user_no, name, officer, suspended, session, is_on, releases FROM users WHERE user_no = ?1"

abbrev pub add_user_text : List ℕ
add_user_text = codes "INSERT INTO users (user_no, name, officer, suspended, session, is_on, releases) VALUES (?1, ?2, ?3, ?4, ?5, ?6, ?7)"

abbrev pub set_user_text : List ℕ
set_user_text = codes "UPDATE users SET name = ?2, officer = ?3, suspended = ?4, session = ?5, is_on = ?6, releases = ?7 WHERE user_no = ?1"

-- ---- sets and their members

abbrev pub set_text : List ℕ
set_text = codes "SELECT set_no FROM sets WHERE set_no = ?1"

abbrev pub sets_text : List ℕ
sets_text = codes "SELECT set_no FROM sets ORDER BY set_no"

abbrev pub add_set_text : List ℕ
add_set_text = codes "INSERT INTO sets (set_no) VALUES (?1)"

abbrev pub members_text : List ℕ
members_text = codes "SELECT set_no, place, kind, low, high FROM members WHERE set_no = ?1 ORDER BY place"

abbrev pub add_member_text : List ℕ
add_member_text = codes "INSERT INTO members (set_no, place, kind, low, high) VALUES (?1, ?2, ?3, ?4, ?5)"

-- ---- relations

abbrev pub relation_text : List ℕ
relation_text = codes "SELECT procedure, set_no, by_user FROM relations WHERE procedure = ?1 AND set_no = ?2"

abbrev pub relations_text : List ℕ
relations_text = codes "SELECT procedure, set_no, by_user FROM relations WHERE procedure = ?1 ORDER BY set_no"

abbrev pub add_relation_text : List ℕ
add_relation_text = codes "INSERT INTO relations (procedure, set_no, by_user) VALUES (?1, ?2, ?3)"

abbrev pub remove_relation_text : List ℕ
remove_relation_text = codes "DELETE FROM relations WHERE procedure = ?1 AND set_no = ?2"

-- ---- triples

abbrev pub triple_text : List ℕ
triple_text = codes "SELECT user_no, procedure, set_no, ceiling, first_at, last_at FROM grants WHERE user_no = ?1 AND procedure = ?2 AND set_no = ?3"

abbrev pub triples_text : List ℕ
triples_text = codes "SELECT user_no, procedure, set_no, ceiling, first_at, last_at FROM grants WHERE user_no = ?1 AND procedure = ?2 ORDER BY set_no"

abbrev pub user_triples_text : List ℕ
user_triples_text = codes "SELECT user_no, procedure, set_no, ceiling, first_at, last_at FROM grants WHERE user_no = ?1 ORDER BY procedure, set_no"

abbrev pub add_triple_text : List ℕ
add_triple_text = codes "INSERT INTO grants (user_no, procedure, set_no, ceiling, first_at, last_at) VALUES (?1, ?2, ?3, ?4, ?5, ?6)"

abbrev pub remove_triple_text : List ℕ
remove_triple_text = codes "DELETE FROM grants WHERE user_no = ?1 AND procedure = ?2 AND set_no = ?3"

-- ---- certifiers

abbrev pub certifier_text : List ℕ
certifier_text = codes "SELECT user_no, procedure FROM certifiers WHERE user_no = ?1 AND procedure = ?2"

abbrev pub add_certifier_text : List ℕ
add_certifier_text = codes "INSERT INTO certifiers (user_no, procedure) VALUES (?1, ?2)"

abbrev pub remove_certifier_text : List ℕ
remove_certifier_text = codes "DELETE FROM certifiers WHERE user_no = ?1 AND procedure = ?2"
