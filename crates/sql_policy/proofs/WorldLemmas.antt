-- What the tables of a World hold of its policy is what the policy says.
use Rattle.std.proofs.Common.{◌≡◌, ◌+◌, ℕ, List, [], ◌∷◌, ◌++◌, append-nil, map, filter, flat_map, Bool, true, false, cond, ◌==◌, Some, refl, sym, ap, ◌∙◌, subst}
use Rattle.std.specs.List.{enumerate_from}
use Rattle.std.specs.Option.{option_map_or}
use Rattle.std.proofs.lemmas.Bool.{or_parts}
use Rattle.std.proofs.lemmas.List.{map-append}
use Rattle.std.proofs.lemmas.List.Elements.{filter-append}
use Rattle.keyed_rows.specs.Ordered.{AreDistinct}
use Rattle.bank_policy.specs.Execution.{members_of}
use Rattle.bank_policy.specs.HeldRows.{is_relation_of, is_triple_of, relations_of, triples_of}
use Rattle.bank_policy.specs.PolicyKeys.{set_key}
use Rattle.bank_policy.specs.SetRow.{SetRow}
use Rattle.bank_policy.specs.declared.rows.Member.{Member}
use Rattle.bank_terms.specs.declared.procedure.Procedure.{Procedure}
use Rattle.bank_books.specs.WorldLists.{WorldLists}
use Rattle.book_kept.specs.Records.{member_row, member_rows}
use Rattle.book_kept.specs.Sheets.{sheets_of}
use Rattle.book_kept.specs.declared.records.MemberRow.{MemberRow}
use Rattle.sql_schema.proofs.TableNames.{find, list_any, eq-eqb, eqb-true, Relation, Triple}
use Rattle.sql_policy.specs.HeldRows.{certified_in, held_in, members_in}
use Rattle.sql_policy.specs.Tests.{is_member_of}

abbrev the_members : List MemberRow → List Member
the_members = map (λ m. m.member)

all_of_set : (set : ℕ) (placed : List (ℕ × Member)) → the_members (filter (is_member_of set) (map (member_row set) placed)) ≡ map (λ (p : ℕ × Member). p.1) placed
all_of_set set [] = refl
all_of_set set (p ∷ placed) = go (set == set) (eq-eqb set set refl) (all_of_set set placed)
  where
    go : (b : Bool) → b ≡ true → the_members (filter (is_member_of set) (map (member_row set) placed)) ≡ map (λ (q : ℕ × Member). q.1) placed
        → the_members (cond b (member_row set p ∷ filter (is_member_of set) (map (member_row set) placed)) (filter (is_member_of set) (map (member_row set) placed))) ≡ p.1 ∷ map (λ (q : ℕ × Member). q.1) placed
    go true is rest = ap (λ ms. p.1 ∷ ms) rest
    go false is rest = absurd cc

none_of_set : (set other : ℕ) (placed : List (ℕ × Member)) → (other == set) ≡ false → filter (is_member_of set) (map (member_row other) placed) ≡ []
none_of_set set other [] apart = refl
none_of_set set other (p ∷ placed) apart = rw apart (none_of_set set other placed apart)

enumerated : {X : Type 0} (n : ℕ) (xs : List X) → map (λ (p : ℕ × X). p.1) (enumerate_from n xs) ≡ xs
enumerated n [] = refl
enumerated n (x ∷ xs) = ap (λ ys. x ∷ ys) (enumerated (n + 1) xs)

none_there : (set : ℕ) (rows : List SetRow) → list_any (λ j. j == set) (map set_key rows) ≡ false → filter (is_member_of set) (flat_map member_rows rows) ≡ []
none_there set [] none = refl
none_there set (row ∷ rows) none =
    let parts = or_parts (row.set == set) (list_any (λ j. j == set) (map set_key rows)) none in
    filter-append (is_member_of set) (member_rows row) (flat_map member_rows rows)
    ∙ ap (λ ms. ms ++ filter (is_member_of set) (flat_map member_rows rows)) (none_of_set set row.set (enumerate_from 1 row.members) parts.0)
    ∙ none_there set rows parts.1

pub members_are : (set : ℕ) (rows : List SetRow) → AreDistinct (map set_key rows)
    → the_members (filter (is_member_of set) (flat_map member_rows rows)) ≡ option_map_or (λ row. row.members) (find (λ row. row.set == set) rows) []
members_are set [] distinct = refl
members_are set (row ∷ rows) distinct =
    ap the_members (filter-append (is_member_of set) (member_rows row) (flat_map member_rows rows))
    ∙ map-append (λ (m : MemberRow). m.member) (filter (is_member_of set) (member_rows row)) (filter (is_member_of set) (flat_map member_rows rows))
    ∙ go (row.set == set) refl (members_are set rows distinct.1)
  where
    go : (b : Bool) → (row.set == set) ≡ b → the_members (filter (is_member_of set) (flat_map member_rows rows)) ≡ option_map_or (λ r. r.members) (find (λ r. r.set == set) rows) []
        → the_members (filter (is_member_of set) (member_rows row)) ++ the_members (filter (is_member_of set) (flat_map member_rows rows)) ≡ option_map_or (λ r. r.members) (cond b (Some row) (find (λ r. r.set == set) rows)) []
    go true is rest =
        let same = eqb-true row.set set is in
        let first : the_members (filter (is_member_of set) (member_rows row)) ≡ row.members =
        ap (λ k. the_members (filter (is_member_of k) (member_rows row))) (sym same) ∙ all_of_set row.set (enumerate_from 1 row.members) ∙ enumerated 1 row.members in
        let others = none_there set rows (subst (λ k. list_any (λ j. j == k) (map set_key rows) ≡ false) same distinct.0) in
        (λ i. first i ++ the_members (others i)) ∙ append-nil row.members
    go false is rest = ap (λ ms. the_members ms ++ the_members (filter (is_member_of set) (flat_map member_rows rows))) (none_of_set set row.set (enumerate_from 1 row.members) is) ∙ rest

module _ (w : WorldLists) (distinct : AreDistinct (map set_key w.policy.sets)) where
  pub members_of_world : (set : ℕ) → members_in (sheets_of w) set ≡ members_of w.policy set
  members_of_world set = members_are set w.policy.sets distinct

  held_same : (t : Triple) → held_in (sheets_of w) t ≡ record { triple = t; members = members_of w.policy t.set }
  held_same t = λ i. record { triple = t; members = members_of_world t.set i }

  certified_same : (r : Relation) → certified_in (sheets_of w) r ≡ record { relation = r; members = members_of w.policy r.set }
  certified_same r = λ i. record { relation = r; members = members_of_world r.set i }

  pub triples_of_world : (user : ℕ) (procedure : Procedure) → map (held_in (sheets_of w)) (filter (is_triple_of user procedure) (sheets_of w).triples) ≡ triples_of w.policy user procedure
  triples_of_world user procedure = λ i. map (λ t. held_same t i) (filter (is_triple_of user procedure) w.policy.triples)

  pub relations_of_world : (procedure : Procedure) → map (certified_in (sheets_of w)) (filter (is_relation_of procedure) (sheets_of w).relations) ≡ relations_of w.policy procedure
  relations_of_world procedure = λ i. map (λ r. certified_same r i) (filter (is_relation_of procedure) w.policy.relations)
