-- What the statements on the tables of the policy show: the rows after some columns, in order of key.
use Rattle.std.proofs.Common.{◌≡◌, ℕ, ℤ, pos, negsuc, List, [], ◌∷◌, map, filter, drop, codes, false, Option, refl, ◌∙◌}
use Rattle.sqlite.specs.declared.types.Value.TheVariants.{Null, Int}
use Rattle.sqlite.specs.Command.TheVariants.{Select}
use Rattle.sqlite.specs.Collation.TheVariants.{Binary}
use Rattle.sqlite.specs.Listing.{understood, reads_listing}
use Rattle.sqlite.specs.Order.{Row}
use Rattle.sqlite.specs.State.{Shown, State}
use Rattle.sqlite.specs.Term.{Term, col, op2}
use Rattle.sqlite.specs.Query.{output}
use Rattle.sqlite.proofs.Callers.{IsPlain, command_of}
use Rattle.sqlite_sql.specs.Query.{as_count, limited}
use Rattle.sqlite_sql.specs.declared.ops.BinaryOp.TheVariants.{And, Compare, Or}
use Rattle.sqlite_sql.specs.declared.ops.CompareOp.TheVariants.{Eq, Gt}
use Rattle.sqlite_tied.specs.Compute.{everything}
use Rattle.sqlite_value.specs.declared.keys.Key.{Key}
use Rattle.bank_policy.specs.PolicyKeys.{certifier_key, relation_key, triple_key}
use Rattle.bank_terms.specs.Procedure.{number_of}
use Rattle.book_kept.specs.Sheets.{Sheets, member_no, user_no}
use Rattle.sql_schema.specs.Cells.{AnyRow, MemberFits, RelationFits, TripleFits, certifier_cells, member_cells, relation_cells, triple_cells, user_cells}
use Rattle.sql_schema.specs.Held.{HoldsTables}
use Rattle.sql_schema.specs.Held.Sheet.{certifiers as in_certifiers, members as in_members, relations as in_relations, triples as in_triples, users as in_users}
use Rattle.sql_schema.specs.HeldRows.{all_but_rowid, all_of_it}
use Rattle.sql_schema.specs.Schema.{bank_schema}
use Rattle.bank_terms.proofs.Procedures.{small_number}
use Rattle.sql_schema.proofs.ReadLemmas.{answered, in_order, in_order_of_fitting, is_at_least, no_offset, rises_by_one, rises_by_three, rises_by_two, rising_key}
use Rattle.sql_schema.proofs.ScanLemmas.{passes, scan}
use Rattle.sql_listing.specs.Columns.{at_most, is_past, part_of}
use Rattle.sql_listing.specs.Lines.{cells_of, line_of, rows_of}
use Rattle.sql_listing.specs.Texts.{certifiers_text, given_one, given_three, given_two, members_text, relations_text, triples_text, users_text}
use Rattle.sql_listing.specs.declared.columns.Columns.{Columns}
use Rattle.sql_listing.specs.declared.kinds.LineKind.TheVariants as kind
use Rattle.sql_listing.proofs.ColumnTests.{past_one, past_three, past_two}

-- LIMIT by a number that is given
counted : {X : Type 0} (count : ℤ) (xs : List X) → limited (as_count (Int count)) xs ≡ at_most count xs
counted (pos n) xs = refl
counted (negsuc n) xs = refl

-- ---- WHERE the first columns come after those that are given, and ORDER BY them

abbrev is_above : ℕ → ℕ → Term
is_above place parameter = op2 (Compare Gt Binary) (col 1 place) (col 0 parameter)

abbrev is_same : ℕ → ℕ → Term
is_same place parameter = op2 (Compare Eq Binary) (col 1 place) (col 0 parameter)

abbrev after_one : List Term
after_one = is_above 0 0 ∷ []

abbrev after_two : List Term
after_two = is_at_least 1 0 ∷ op2 Or (is_above 1 0) (op2 And (is_same 1 0) (is_above 2 1)) ∷ []

abbrev after_three : List Term
after_three = is_at_least 1 0 ∷ op2 Or (is_above 1 0) (op2 And (is_same 1 0) (op2 Or (is_above 2 1) (op2 And (is_same 2 1) (is_above 3 2)))) ∷ []

abbrev order_one : List (Term × Key)
order_one = (col 1 0, rising_key) ∷ []

abbrev order_two : List (Term × Key)
order_two = (col 1 1, rising_key) ∷ (col 1 2, rising_key) ∷ []

abbrev order_three : List (Term × Key)
order_three = (col 1 1, rising_key) ∷ (col 1 2, rising_key) ∷ (col 1 3, rising_key) ∷ []

-- ---- users

abbrev user_columns : List Term
user_columns = col 1 0 ∷ col 1 2 ∷ col 1 3 ∷ col 1 4 ∷ col 1 5 ∷ col 1 6 ∷ col 1 7 ∷ []

pub users_are : (command_of (understood bank_schema users_text) ≡ Select (record { lets = []; body = scan 1 after_one user_columns order_one (col 0 1) no_offset }) (codes "user_no" ∷ codes "name" ∷ codes "officer" ∷ codes "suspended" ∷ codes "session" ∷ codes "is_on" ∷ codes "releases" ∷ [])) × (reads_listing bank_schema users_text ≡ false) × IsPlain (understood bank_schema users_text)
unfolding understood everything
users_are = (refl, refl, (refl, refl))

pub selects_users : (old new : State) (s : Sheets) (after : Option Columns) (count : ℤ) (rows : List Row) → HoldsTables old.now s → Shown users_text (given_one (part_of after count)) old new rows
    → rows ≡ at_most count (map (cells_of kind.User) (filter (λ r. is_past after (line_of kind.User r)) (rows_of s kind.User)))
selects_users old new s after count rows holds h =
    let params = given_one (part_of after count) in
    in_order all_of_it (λ c. c) user_cells user_no AnyRow 1 (λ db. refl) after_one user_columns order_one (col 0 1) no_offset params (λ r. is_past after (line_of kind.User r))
    (λ r. (refl, refl)) (λ u. past_one after count u.row.user) old.now.trees s.users rows (holds.rows in_users)
    (answered users_text _ (scan 1 after_one user_columns order_one (col 0 1) no_offset) params users_are.0 users_are.1 users_are.2 old new rows holds.schema h)
    (λ x y _ _ less. rises_by_one x.row.user y.row.user less)
    ∙ counted count _

-- ---- certifiers

abbrev certifier_columns : List Term
certifier_columns = col 1 1 ∷ col 1 2 ∷ []

pub certifiers_are : (command_of (understood bank_schema certifiers_text) ≡ Select (record { lets = []; body = scan 9 after_two certifier_columns order_two (col 0 2) no_offset }) (codes "user_no" ∷ codes "procedure" ∷ [])) × (reads_listing bank_schema certifiers_text ≡ false) × IsPlain (understood bank_schema certifiers_text)
unfolding understood everything
certifiers_are = (refl, refl, (refl, refl))

certifiers_read : (params r : Row) → (passes after_two params r ≡ passes after_two params (Null ∷ drop 1 r)) × (output (scan 9 after_two certifier_columns order_two (col 0 2) no_offset) (params ∷ r ∷ []) ≡ output (scan 9 after_two certifier_columns order_two (col 0 2) no_offset) (params ∷ (Null ∷ drop 1 r) ∷ []))
certifiers_read params [] = (refl, refl)
certifiers_read params (v ∷ r) = (refl, refl)

pub selects_certifiers : (old new : State) (s : Sheets) (after : Option Columns) (count : ℤ) (rows : List Row) → HoldsTables old.now s → Shown certifiers_text (given_two (part_of after count)) old new rows
    → rows ≡ at_most count (map (cells_of kind.Certifier) (filter (λ r. is_past after (line_of kind.Certifier r)) (rows_of s kind.Certifier)))
selects_certifiers old new s after count rows holds h =
    let params = given_two (part_of after count) in
    in_order_of_fitting all_but_rowid (λ c. Null ∷ c) certifier_cells certifier_key AnyRow 9 (λ db. refl) after_two certifier_columns order_two (col 0 2) no_offset params (λ r. is_past after (line_of kind.Certifier r))
    (certifiers_read params) (λ x. past_two after count x.user (number_of x.procedure)) old.now.trees s.certifiers rows (holds.rows in_certifiers)
    (answered certifiers_text _ (scan 9 after_two certifier_columns order_two (col 0 2) no_offset) params certifiers_are.0 certifiers_are.1 certifiers_are.2 old new rows holds.schema h)
    (λ x y _ _ less. rises_by_two x.user (number_of x.procedure) y.user (number_of y.procedure) (small_number x.procedure) (small_number y.procedure) less)
    ∙ counted count _

-- ---- members

abbrev member_columns : List Term
member_columns = col 1 1 ∷ col 1 2 ∷ col 1 3 ∷ col 1 4 ∷ col 1 5 ∷ []

pub members_are : (command_of (understood bank_schema members_text) ≡ Select (record { lets = []; body = scan 3 after_two member_columns order_two (col 0 2) no_offset }) (codes "set_no" ∷ codes "place" ∷ codes "kind" ∷ codes "low" ∷ codes "high" ∷ [])) × (reads_listing bank_schema members_text ≡ false) × IsPlain (understood bank_schema members_text)
unfolding understood everything
members_are = (refl, refl, (refl, refl))

members_read : (params r : Row) → (passes after_two params r ≡ passes after_two params (Null ∷ drop 1 r)) × (output (scan 3 after_two member_columns order_two (col 0 2) no_offset) (params ∷ r ∷ []) ≡ output (scan 3 after_two member_columns order_two (col 0 2) no_offset) (params ∷ (Null ∷ drop 1 r) ∷ []))
members_read params [] = (refl, refl)
members_read params (v ∷ r) = (refl, refl)

pub selects_members : (old new : State) (s : Sheets) (after : Option Columns) (count : ℤ) (rows : List Row) → HoldsTables old.now s → Shown members_text (given_two (part_of after count)) old new rows
    → rows ≡ at_most count (map (cells_of kind.Member) (filter (λ r. is_past after (line_of kind.Member r)) (rows_of s kind.Member)))
selects_members old new s after count rows holds h =
    let params = given_two (part_of after count) in
    in_order_of_fitting all_but_rowid (λ c. Null ∷ c) member_cells member_no MemberFits 3 (λ db. refl) after_two member_columns order_two (col 0 2) no_offset params (λ r. is_past after (line_of kind.Member r))
    (members_read params) (λ m. past_two after count m.set m.place) old.now.trees s.members rows (holds.rows in_members)
    (answered members_text _ (scan 3 after_two member_columns order_two (col 0 2) no_offset) params members_are.0 members_are.1 members_are.2 old new rows holds.schema h)
    (λ x y p q less. rises_by_two x.set x.place y.set y.place p q less)
    ∙ counted count _

-- ---- relations

abbrev relation_columns : List Term
relation_columns = col 1 1 ∷ col 1 2 ∷ col 1 3 ∷ []

pub relations_are : (command_of (understood bank_schema relations_text) ≡ Select (record { lets = []; body = scan 5 after_two relation_columns order_two (col 0 2) no_offset }) (codes "procedure" ∷ codes "set_no" ∷ codes "by_user" ∷ [])) × (reads_listing bank_schema relations_text ≡ false) × IsPlain (understood bank_schema relations_text)
unfolding understood everything
relations_are = (refl, refl, (refl, refl))

relations_read : (params r : Row) → (passes after_two params r ≡ passes after_two params (Null ∷ drop 1 r)) × (output (scan 5 after_two relation_columns order_two (col 0 2) no_offset) (params ∷ r ∷ []) ≡ output (scan 5 after_two relation_columns order_two (col 0 2) no_offset) (params ∷ (Null ∷ drop 1 r) ∷ []))
relations_read params [] = (refl, refl)
relations_read params (v ∷ r) = (refl, refl)

pub selects_relations : (old new : State) (s : Sheets) (after : Option Columns) (count : ℤ) (rows : List Row) → HoldsTables old.now s → Shown relations_text (given_two (part_of after count)) old new rows
    → rows ≡ at_most count (map (cells_of kind.Relation) (filter (λ r. is_past after (line_of kind.Relation r)) (rows_of s kind.Relation)))
selects_relations old new s after count rows holds h =
    let params = given_two (part_of after count) in
    in_order_of_fitting all_but_rowid (λ c. Null ∷ c) relation_cells relation_key RelationFits 5 (λ db. refl) after_two relation_columns order_two (col 0 2) no_offset params (λ r. is_past after (line_of kind.Relation r))
    (relations_read params) (λ r. past_two after count (number_of r.procedure) r.set) old.now.trees s.relations rows (holds.rows in_relations)
    (answered relations_text _ (scan 5 after_two relation_columns order_two (col 0 2) no_offset) params relations_are.0 relations_are.1 relations_are.2 old new rows holds.schema h)
    (λ x y p q less. rises_by_two (number_of x.procedure) x.set (number_of y.procedure) y.set p q less)
    ∙ counted count _

-- ---- triples

abbrev triple_columns : List Term
triple_columns = col 1 1 ∷ col 1 2 ∷ col 1 3 ∷ col 1 4 ∷ col 1 5 ∷ col 1 6 ∷ []

pub triples_are : (command_of (understood bank_schema triples_text) ≡ Select (record { lets = []; body = scan 7 after_three triple_columns order_three (col 0 3) no_offset }) (codes "user_no" ∷ codes "procedure" ∷ codes "set_no" ∷ codes "ceiling" ∷ codes "first_at" ∷ codes "last_at" ∷ [])) × (reads_listing bank_schema triples_text ≡ false) × IsPlain (understood bank_schema triples_text)
unfolding understood everything
triples_are = (refl, refl, (refl, refl))

triples_read : (params r : Row) → (passes after_three params r ≡ passes after_three params (Null ∷ drop 1 r)) × (output (scan 7 after_three triple_columns order_three (col 0 3) no_offset) (params ∷ r ∷ []) ≡ output (scan 7 after_three triple_columns order_three (col 0 3) no_offset) (params ∷ (Null ∷ drop 1 r) ∷ []))
triples_read params [] = (refl, refl)
triples_read params (v ∷ r) = (refl, refl)

pub selects_triples : (old new : State) (s : Sheets) (after : Option Columns) (count : ℤ) (rows : List Row) → HoldsTables old.now s → Shown triples_text (given_three (part_of after count)) old new rows
    → rows ≡ at_most count (map (cells_of kind.Triple) (filter (λ r. is_past after (line_of kind.Triple r)) (rows_of s kind.Triple)))
selects_triples old new s after count rows holds h =
    let params = given_three (part_of after count) in
    in_order_of_fitting all_but_rowid (λ c. Null ∷ c) triple_cells triple_key TripleFits 7 (λ db. refl) after_three triple_columns order_three (col 0 3) no_offset params (λ r. is_past after (line_of kind.Triple r))
    (triples_read params) (λ t. past_three after count t.user (number_of t.procedure) t.set) old.now.trees s.triples rows (holds.rows in_triples)
    (answered triples_text _ (scan 7 after_three triple_columns order_three (col 0 3) no_offset) params triples_are.0 triples_are.1 triples_are.2 old new rows holds.schema h)
    (λ x y p q less. rises_by_three x.user (number_of x.procedure) x.set y.user (number_of y.procedure) y.set (small_number x.procedure) (small_number y.procedure) p q less)
    ∙ counted count _
