-- The texts of the statements on the releases and the slips.
use Rattle.std.specs.Prelude.{ℕ, List, codes}

-- ---- releases

abbrev pub release_text : List ℕ
release_text = codes "SELECT user_no, number, giver, branch, day, form, member1, member2, member3, member4, member5, member6, member7, member8, used FROM releases WHERE user_no = ?1 AND number = ?2"

abbrev pub add_release_text : List ℕ
add_release_text = codes "INSERT INTO releases (user_no, number, giver, branch, day, form, member1, member2, member3, member4, member5, member6, member7, member8, used) VALUES (?1, ?2, ?3, ?4, ?5, ?6, ?7, ?8, ?9, ?10, ?11, ?12, ?13, ?14, ?15)"

abbrev pub use_up_text : List ℕ
use_up_text = codes "UPDATE releases SET used = 1 WHERE user_no = ?1 AND number = ?2"

-- ---- slips

abbrev pub slip_text : List ℕ
slip_text = codes "SELECT user_no, slip, form, member1, member2, member3, member4, member5, member6, member7, member8, reply FROM slips WHERE user_no = ?1 AND slip = ?2"

abbrev pub add_slip_text : List ℕ
add_slip_text = codes "INSERT INTO slips (user_no, slip, form, member1, member2, member3, member4, member5, member6, member7, member8, reply) VALUES (?1, ?2, ?3, ?4, ?5, ?6, ?7, ?8, ?9, ?10, ?11, ?12)"

-- ---- counts of slips

abbrev pub slip_count_text : List ℕ
slip_count_text = codes "SELECT user_no, slips FROM slip_counts WHERE user_no = ?1"

abbrev pub add_slip_count_text : List ℕ
add_slip_count_text = codes "INSERT INTO slip_counts (user_no, slips) VALUES (?1, ?2)"

abbrev pub set_slip_count_text : List ℕ
set_slip_count_text = codes "UPDATE slip_counts SET slips = ?2 WHERE user_no = ?1"
