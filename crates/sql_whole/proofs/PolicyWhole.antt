-- The queries for the tables of the policy, whole.
use Rattle.std.proofs.Common.{ℕ, List, [], ◌∷◌, codes, inl, inr, refl}
use Rattle.sqlite.specs.Listing.{understood}
use Rattle.sqlite.specs.Term.{Term, col}
use Rattle.sqlite_tied.specs.Compute.{everything}
use Rattle.sqlite_value.specs.declared.keys.Key.{Key}
use Rattle.bank_terms.specs.Procedure.{number_of}
use Rattle.bank_policy.specs.PolicyKeys.{certifier_key, relation_key, triple_key}
use Rattle.book_kept.specs.Sheets.{member_no, user_no}
use Rattle.sql_schema.specs.Cells.{AnyRow, MemberFits, RelationFits, TripleFits, TripleFitsIn, certifier_cells, member_cells, relation_cells, set_cells, triple_cells, triple_cells_in, user_cells}
use Rattle.sql_schema.specs.Held.{set_no}
use Rattle.sql_schema.specs.Held.Sheet.{users as in_users, sets as in_sets, members as in_members, relations as in_relations, triples as in_triples, certifiers as in_certifiers}
use Rattle.sql_schema.specs.declared.edition.Edition.{Edition}
use Rattle.sql_schema.specs.declared.edition.Edition.TheVariants.{First, Second, Third}
use Rattle.sql_schema.specs.HeldRows.{all_but_rowid, all_of_it}
use Rattle.sql_schema.specs.Schema.{certifiers_table, grants_table, members_table, relations_table, sets_table, triples_table, users_table}
use Rattle.sql_schema.specs.ReadBack.{stored_by_columns, stored_by_rowid}
use Rattle.bank_terms.proofs.Procedures.{small_number}
use Rattle.sql_schema.proofs.ReadLemmas.{rises_by_one, rises_by_three, rises_by_two, rising_key}
use Rattle.sql_schema.proofs.NamedTables.{certifiers_there, members_there, relations_there, sets_there, triples_there, users_there}
use Rattle.sql_whole.specs.Texts.{all_users_text, all_sets_text, all_members_text, all_relations_text, all_certifiers_text, first_triples_text, grants_text}
use Rattle.sql_whole.specs.Whole.{TellsWhole}
use Rattle.sql_whole.proofs.WholeLemmas.{IsScanOf, ReadsNoRowid, by_columns_whole, by_rowid_whole, whole_scan}

-- ---- users

abbrev users_columns : List Term
users_columns = col 1 0 ∷ col 1 2 ∷ col 1 3 ∷ col 1 4 ∷ col 1 5 ∷ col 1 6 ∷ col 1 7 ∷ []

abbrev users_order : List (Term × Key)
users_order = (col 1 0, rising_key) ∷ []

users_is : (e : Edition) → IsScanOf e all_users_text 1 users_columns users_order (codes "user_no" ∷ codes "name" ∷ codes "officer" ∷ codes "suspended" ∷ codes "session" ∷ codes "is_on" ∷ codes "releases" ∷ [])
unfolding understood everything
users_is First = (refl, refl, (refl, refl), (refl, refl), refl)
users_is Second = (refl, refl, (refl, refl), (refl, refl), refl)
users_is Third = (refl, refl, (refl, refl), (refl, refl), refl)

pub tells_users : (e : Edition) → TellsWhole e all_of_it (stored_by_rowid 6) user_cells user_no AnyRow in_users all_users_text
tells_users e =
    by_rowid_whole e user_cells user_no AnyRow in_users tt users_table all_users_text users_columns users_order _ 6 (users_is e)
    (users_there e) refl (λ db. refl) refl refl (inr refl) (λ r. refl) (λ x. refl)
    (λ x y _ _ less. rises_by_one x.row.user y.row.user less)

-- ---- sets

abbrev sets_columns : List Term
sets_columns = col 1 0 ∷ []

abbrev sets_order : List (Term × Key)
sets_order = (col 1 0, rising_key) ∷ []

sets_is : (e : Edition) → IsScanOf e all_sets_text 2 sets_columns sets_order (codes "set_no" ∷ [])
unfolding understood everything
sets_is First = (refl, refl, (refl, refl), (refl, refl), refl)
sets_is Second = (refl, refl, (refl, refl), (refl, refl), refl)
sets_is Third = (refl, refl, (refl, refl), (refl, refl), refl)

pub tells_sets : (e : Edition) → TellsWhole e all_of_it (stored_by_rowid 0) set_cells set_no AnyRow in_sets all_sets_text
tells_sets e =
    by_rowid_whole e set_cells set_no AnyRow in_sets tt sets_table all_sets_text sets_columns sets_order _ 0 (sets_is e)
    (sets_there e) refl (λ db. refl) refl refl (inl refl) (λ r. refl) (λ x. refl)
    (λ x y _ _ less. rises_by_one x y less)

-- ---- members

abbrev members_columns : List Term
members_columns = col 1 1 ∷ col 1 2 ∷ col 1 3 ∷ col 1 4 ∷ col 1 5 ∷ []

abbrev members_order : List (Term × Key)
members_order = (col 1 1, rising_key) ∷ (col 1 2, rising_key) ∷ []

members_is : (e : Edition) → IsScanOf e all_members_text 3 members_columns members_order (codes "set_no" ∷ codes "place" ∷ codes "kind" ∷ codes "low" ∷ codes "high" ∷ [])
unfolding understood everything
members_is First = (refl, refl, (refl, refl), (refl, refl), refl)
members_is Second = (refl, refl, (refl, refl), (refl, refl), refl)
members_is Third = (refl, refl, (refl, refl), (refl, refl), refl)

members_alike : ReadsNoRowid (whole_scan 3 members_columns members_order)
members_alike [] = refl
members_alike (id ∷ r) = refl

pub tells_members : (e : Edition) → TellsWhole e all_but_rowid (stored_by_columns 5) member_cells member_no MemberFits in_members all_members_text
tells_members e =
    by_columns_whole e member_cells member_no MemberFits in_members tt members_table all_members_text members_columns members_order _ 5 (members_is e)
    (members_there e) refl (λ db. refl) refl refl (λ r. refl) members_alike (λ x. refl)
    (λ x y p q less. rises_by_two x.set x.place y.set y.place p q less)

-- ---- relations

abbrev relations_columns : List Term
relations_columns = col 1 1 ∷ col 1 2 ∷ col 1 3 ∷ []

abbrev relations_order : List (Term × Key)
relations_order = (col 1 1, rising_key) ∷ (col 1 2, rising_key) ∷ []

relations_is : (e : Edition) → IsScanOf e all_relations_text 5 relations_columns relations_order (codes "procedure" ∷ codes "set_no" ∷ codes "by_user" ∷ [])
unfolding understood everything
relations_is First = (refl, refl, (refl, refl), (refl, refl), refl)
relations_is Second = (refl, refl, (refl, refl), (refl, refl), refl)
relations_is Third = (refl, refl, (refl, refl), (refl, refl), refl)

relations_alike : ReadsNoRowid (whole_scan 5 relations_columns relations_order)
relations_alike [] = refl
relations_alike (id ∷ r) = refl

pub tells_relations : (e : Edition) → TellsWhole e all_but_rowid (stored_by_columns 3) relation_cells relation_key RelationFits in_relations all_relations_text
tells_relations e =
    by_columns_whole e relation_cells relation_key RelationFits in_relations tt relations_table all_relations_text relations_columns relations_order _ 3 (relations_is e)
    (relations_there e) refl (λ db. refl) refl refl (λ r. refl) relations_alike (λ x. refl)
    (λ x y p q less. rises_by_two (number_of x.procedure) x.set (number_of y.procedure) y.set p q less)

-- ---- triples

abbrev triples_order : List (Term × Key)
triples_order = (col 1 1, rising_key) ∷ (col 1 2, rising_key) ∷ (col 1 3, rising_key) ∷ []

-- as the first schema version has them

abbrev first_triples_columns : List Term
first_triples_columns = col 1 1 ∷ col 1 2 ∷ col 1 3 ∷ col 1 4 ∷ []

first_triples_is : IsScanOf First first_triples_text 7 first_triples_columns triples_order (codes "user_no" ∷ codes "procedure" ∷ codes "set_no" ∷ codes "ceiling" ∷ [])
unfolding understood everything
first_triples_is = (refl, refl, (refl, refl), (refl, refl), refl)

first_triples_alike : ReadsNoRowid (whole_scan 7 first_triples_columns triples_order)
first_triples_alike [] = refl
first_triples_alike (id ∷ r) = refl

pub tells_first_triples : TellsWhole First all_but_rowid (stored_by_columns 4) (triple_cells_in First) triple_key (TripleFitsIn First) in_triples first_triples_text
tells_first_triples =
    by_columns_whole First (triple_cells_in First) triple_key (TripleFitsIn First) in_triples tt triples_table first_triples_text first_triples_columns triples_order _ 4 first_triples_is
    (triples_there First) refl (λ db. refl) refl refl (λ r. refl) first_triples_alike (λ x. refl)
    (λ x y p q less. rises_by_three x.user (number_of x.procedure) x.set y.user (number_of y.procedure) y.set (small_number x.procedure) (small_number y.procedure) p.0 q.0 less)

-- as the later ones have them

abbrev grants_columns : List Term
grants_columns = col 1 1 ∷ col 1 2 ∷ col 1 3 ∷ col 1 4 ∷ col 1 5 ∷ col 1 6 ∷ []

abbrev grants_names : List (List ℕ)
grants_names = codes "user_no" ∷ codes "procedure" ∷ codes "set_no" ∷ codes "ceiling" ∷ codes "first_at" ∷ codes "last_at" ∷ []

grants_alike : ReadsNoRowid (whole_scan 7 grants_columns triples_order)
grants_alike [] = refl
grants_alike (id ∷ r) = refl

second_triples_is : IsScanOf Second grants_text 7 grants_columns triples_order grants_names
unfolding understood everything
second_triples_is = (refl, refl, (refl, refl), (refl, refl), refl)

pub tells_second_triples : TellsWhole Second all_but_rowid (stored_by_columns 6) triple_cells triple_key TripleFits in_triples grants_text
tells_second_triples =
    by_columns_whole Second triple_cells triple_key TripleFits in_triples tt grants_table grants_text grants_columns triples_order _ 6 second_triples_is
    (triples_there Second) refl (λ db. refl) refl refl (λ r. refl) grants_alike (λ x. refl)
    (λ x y p q less. rises_by_three x.user (number_of x.procedure) x.set y.user (number_of y.procedure) y.set (small_number x.procedure) (small_number y.procedure) p q less)

third_triples_is : IsScanOf Third grants_text 7 grants_columns triples_order grants_names
unfolding understood everything
third_triples_is = (refl, refl, (refl, refl), (refl, refl), refl)

pub tells_third_triples : TellsWhole Third all_but_rowid (stored_by_columns 6) triple_cells triple_key TripleFits in_triples grants_text
tells_third_triples =
    by_columns_whole Third triple_cells triple_key TripleFits in_triples tt grants_table grants_text grants_columns triples_order _ 6 third_triples_is
    (triples_there Third) refl (λ db. refl) refl refl (λ r. refl) grants_alike (λ x. refl)
    (λ x y p q less. rises_by_three x.user (number_of x.procedure) x.set y.user (number_of y.procedure) y.set (small_number x.procedure) (small_number y.procedure) p q less)

-- ---- certifiers

abbrev certifiers_columns : List Term
certifiers_columns = col 1 1 ∷ col 1 2 ∷ []

abbrev certifiers_order : List (Term × Key)
certifiers_order = (col 1 1, rising_key) ∷ (col 1 2, rising_key) ∷ []

certifiers_is : (e : Edition) → IsScanOf e all_certifiers_text 9 certifiers_columns certifiers_order (codes "user_no" ∷ codes "procedure" ∷ [])
unfolding understood everything
certifiers_is First = (refl, refl, (refl, refl), (refl, refl), refl)
certifiers_is Second = (refl, refl, (refl, refl), (refl, refl), refl)
certifiers_is Third = (refl, refl, (refl, refl), (refl, refl), refl)

certifiers_alike : ReadsNoRowid (whole_scan 9 certifiers_columns certifiers_order)
certifiers_alike [] = refl
certifiers_alike (id ∷ r) = refl

pub tells_certifiers : (e : Edition) → TellsWhole e all_but_rowid (stored_by_columns 2) certifier_cells certifier_key AnyRow in_certifiers all_certifiers_text
tells_certifiers e =
    by_columns_whole e certifier_cells certifier_key AnyRow in_certifiers tt certifiers_table all_certifiers_text certifiers_columns certifiers_order _ 2 (certifiers_is e)
    (certifiers_there e) refl (λ db. refl) refl refl (λ r. refl) certifiers_alike (λ x. refl)
    (λ x y _ _ less. rises_by_two x.user (number_of x.procedure) y.user (number_of y.procedure) (small_number x.procedure) (small_number y.procedure) less)
