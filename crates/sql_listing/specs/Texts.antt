-- The texts of the statements that read the tables of the policy in order of key, and what is given with them.
use Rattle.std.specs.Prelude.{ℕ, List, [], ◌∷◌, codes, pos}
use Rattle.sqlite.specs.Order.{Row}
use Rattle.sqlite.specs.declared.types.Value.TheVariants.{Int}
use Rattle.sql_listing.specs.declared.parts.Part.{Part}

abbrev pub users_text : List ℕ
users_text = codes "SELECT user_no, name, officer, suspended, session, is_on, releases FROM users WHERE user_no > ?1 ORDER BY user_no LIMIT ?2"

abbrev pub certifiers_text : List ℕ
certifiers_text = codes "SELECT user_no, procedure FROM certifiers WHERE user_no >= ?1 AND (user_no > ?1 OR (user_no = ?1 AND procedure > ?2)) ORDER BY user_no, procedure LIMIT ?3"

abbrev pub members_text : List ℕ
members_text = codes "SELECT set_no, place, kind, low, high FROM members WHERE set_no >= ?1 AND (set_no > ?1 OR (set_no = ?1 AND place > ?2)) ORDER BY set_no, place LIMIT ?3"

abbrev pub relations_text : List ℕ
relations_text = codes "SELECT procedure, set_no, by_user FROM relations WHERE procedure >= ?1 AND (procedure > ?1 OR (procedure = ?1 AND set_no > ?2)) ORDER BY procedure, set_no LIMIT ?3"

abbrev pub triples_text : List ℕ
triples_text = codes "SELECT user_no, procedure, set_no, ceiling, first_at, last_at FROM grants WHERE user_no >= ?1 AND (user_no > ?1 OR (user_no = ?1 AND (procedure > ?2 OR (procedure = ?2 AND set_no > ?3)))) ORDER BY user_no, procedure, set_no LIMIT ?4"

-- ---- by how many columns a table's key has

abbrev pub given_one : Part → Row
given_one p = Int p.first ∷ Int p.count ∷ []

abbrev pub given_two : Part → Row
given_two p = Int p.first ∷ Int (pos p.second) ∷ Int p.count ∷ []

abbrev pub given_three : Part → Row
given_three p = Int p.first ∷ Int (pos p.second) ∷ Int (pos p.third) ∷ Int p.count ∷ []
