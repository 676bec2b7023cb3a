-- What the DELETE of a relation leaves.
use Rattle.std.specs.Prelude.{unwrap_or}
use Rattle.std.proofs.Common.{◌≡◌, inl, inr, ◌<◌, ◌+◌, ◌*◌, ◌^◌, ℕ, ℤ, pos, List, [], ◌∷◌, map, filter, drop, find, not, Bool, true, false, cond, Some, Ok, refl, ap, arith, sym, ◌∙◌, subst, ◌==◌, ◌&&◌, is_eq}
use Rattle.std.proofs.lemmas.Bool.{and_from}
use Rattle.std.proofs.lemmas.Cmp.{tied_itself}
use Rattle.std.proofs.lemmas.List.Sorted.{IsPermutation-sym}
use Rattle.sqlite.specs.Listing.{understood}
use Rattle.sqlite_rules.specs.Action.{Writes, is_child_of, loses, pairs}
use Rattle.sqlite_rules.specs.Calls.{ids_of}
use Rattle.sqlite_rules.specs.Edit.{id_in, row_at}
use Rattle.sqlite_rules.specs.Lists.{Has}
use Rattle.sqlite_rules.proofs.ListLemmas.{all_from, some_from, some_has}
use Rattle.sqlite_rules.proofs.ProbeLemmas.{has_mapped, mapped_has}
use Rattle.sqlite_rules.proofs.RuleLemmas.{keeps_at}
use Rattle.sqlite_schema.specs.Rules.{Obeys}
use Rattle.sqlite_schema.specs.declared.schema.Constraint.TheVariants.{ForeignKey}
use Rattle.sqlite_schema.specs.declared.schema.Keys.TheVariants.{Enforced}
use Rattle.sqlite_tied.specs.Compute.{everything}
use Rattle.sqlite_trees.specs.Tree.{IsTable, has_rowid, rowid}
use Rattle.sqlite_trees.proofs.ListLemmas.{filter_same as filter_alike}
use Rattle.sqlite_value.specs.Order.{value_cmp}
use Rattle.sqlite_value.proofs.OrderLemmas.{value_cmp_total}
use Rattle.sql_schema.proofs.FrameLemmas.{others, without_relation}
use Rattle.sql_schema.proofs.HeldLemmas.{equal_from, has_permuted, held_without, rowid_is, same_row, taken_out}
use Rattle.sql_schema.proofs.PickLemmas.{left_over, picks_ids}
use Rattle.sql_schema.proofs.ReadLemmas.{is_given}
use Rattle.sql_schema.proofs.WriteLemmas.{deletes}
use Rattle.sql_schema.proofs.TableNames.{list_any, and_parts, eq-eqb, eqb-true, false≢true, Null, Int, Delete, edit_of, Row, Given, Executes, State, Term, col, Trees, IsPlain, command_of, without_all, agree, has_null, plain, delete_rows, number_of, relation_key, triple_key, Relation, Triple, Sheets, RelationFits, TripleFits, relation_cells, triple_cells, HoldsTables, in_relations, in_triples, HoldsRows, all_but_rowid, bank_schema, relations_table, grants_table, triples_work, Names, picked_alike, pick, by_two, two_equal, passes}
use Rattle.sql_policy.specs.Tests.{is_relation_on, is_triple_under}
use Rattle.sql_policy.specs.Texts.{remove_relation_text}
use Rattle.sql_policy.proofs.CascadeLemmas.{IsRemoved, bears, child_of, lost, parent_of, removed}
use Rattle.sql_schema.proofs.KeyTests.{same_test}
use Rattle.sql_policy.proofs.RelationLemmas.{by_number}

-- ---- rows and moves

-- the row of a rowid
row_there : (rows : List Row) → IsTable rows → (r : Row) → Has rows r → (id : ℤ) → rowid r ≡ Int id → row_at rows id ≡ r
row_there [] up r h id is = absurd h
row_there (x ∷ rows) up r h id is = go (has_rowid id x) refl h (λ following. row_there rows up.1 r following id is)
  where
    mine : has_rowid id r ≡ true
    mine = ap (λ v. is_eq (value_cmp v (Int id))) is ∙ ap is_eq (tied_itself value_cmp_total (Int id))

    go : (b : Bool) → has_rowid id x ≡ b → Has (x ∷ rows) r → (Has rows r → row_at rows id ≡ r) → unwrap_or (cond b (Some x) (find (has_rowid id) rows)) [] ≡ r
    go true here there rest = same_row (x ∷ rows) up x r (inl refl) there (equal_from _ (ap (λ v. is_eq (value_cmp (rowid x) v)) is ∙ here))
    go false other (inl same) rest = absurd (false≢true (sym other ∙ ap (has_rowid id) (sym same) ∙ mine))
    go false other (inr following) rest = rest following

pair_has : (olds : List Row) (o : Row) → Has olds o → Has (pairs olds []) (o, [])
pair_has [] o h = absurd h
pair_has (x ∷ olds) o (inl same) = inl (ap (λ r. (r, [])) same)
pair_has (x ∷ olds) o (inr following) = inr (pair_has olds o following)

pair_is : (olds : List Row) (move : Row × Row) → Has (pairs olds []) move → (o : Row) × Has olds o × (move ≡ (o, []))
pair_is [] move h = absurd h
pair_is (x ∷ olds) move (inl same) = (x, inl refl, same)
pair_is (x ∷ olds) move (inr following) = let rest = pair_is olds move following in (rest.0, inr rest.1, rest.2)

record_of : {X : Type 0} (cells : X → Row) (key : X → ℕ) (Fits : X → Type 0) (xs : List X) (tree : List Row) → HoldsRows all_but_rowid cells key Fits xs tree → (r : Row) → Has tree r → (x : X) × Has xs x × (drop 1 r ≡ cells x)
record_of cells key Fits xs tree holds r h =
    has_mapped cells xs (drop 1 r) (has_permuted (map all_but_rowid tree) (map cells xs) (drop 1 r) (IsPermutation-sym _ _ holds.same) (mapped_has all_but_rowid tree r h))

chain : (a b m n p q : ℕ) → (a == m && b == n) ≡ true → (m == p && n == q) ≡ true → (a == p && b == q) ≡ true
chain a b m n p q h k =
    let one = and_parts (a == m) (b == n) h in
    let two = and_parts (m == p) (n == q) k in
    and_from (a == p) (b == q) (eq-eqb a p (eqb-true a m one.0 ∙ eqb-true m p two.0)) (eq-eqb b q (eqb-true b n one.1 ∙ eqb-true n q two.1))

turn : (a b m n : ℕ) → (a == m && b == n) ≡ true → (m == a && n == b) ≡ true
turn a b m n h =
    let one = and_parts (a == m) (b == n) h in
    and_from (m == a) (n == b) (eq-eqb m a (sym (eqb-true a m one.0))) (eq-eqb n b (sym (eqb-true b n one.1)))

-- ---- the text

pub remove_relation_is : (command_of (understood bank_schema remove_relation_text) ≡ Delete 4 (record { lets = []; body = pick 5 by_two (col 1 0 ∷ []) })) × IsPlain (understood bank_schema remove_relation_text)
unfolding understood everything
remove_relation_is = (refl, (refl, refl))

relation_blind : (params r : Row) → passes by_two params r ≡ passes by_two params (Null ∷ drop 1 r)
relation_blind params [] = refl
relation_blind params (v ∷ r) = refl

-- the columns of a triple that refer to its relation
abbrev under : List Term
under = is_given 2 0 ∷ is_given 3 1 ∷ []

under_blind : (params t : Row) → passes under params t ≡ passes under params (Null ∷ drop 1 t)
under_blind params [] = refl
under_blind params (v ∷ t) = refl

-- no column of a triple is NULL
whole_triple : (t : Row) (y : Triple) → drop 1 t ≡ triple_cells y → has_null (2 ∷ 3 ∷ []) t ≡ false
whole_triple [] y is = absurd cc
whole_triple (v ∷ t) y is = ap (λ c. has_null (2 ∷ 3 ∷ []) (v ∷ c)) is

-- ---- the triples that go

module _ (db : Trees) (procedure set : ℕ) (xs : List Relation) (ys : List Triple) (relations : HoldsRows all_but_rowid relation_cells relation_key RelationFits xs (db 5))
    (triples : HoldsRows all_but_rowid triple_cells triple_key TripleFits ys (db 7)) (obeys : Obeys bank_schema db) (ids : List ℤ)
    (names : Names (db 5) (passes by_two (Int (pos procedure) ∷ Int (pos set) ∷ [])) ids) where
  abbrev params : Row
  params = Int (pos procedure) ∷ Int (pos set) ∷ []

  abbrev olds : List Row
  olds = map (row_at (db 5)) ids

  relation_passes : (r : Row) (x : Relation) → drop 1 r ≡ relation_cells x → passes by_two params r ≡ (number_of x.procedure == procedure && x.set == set)
  relation_passes r x is = relation_blind params r ∙ (λ i. passes by_two params (Null ∷ is i)) ∙ two_equal (number_of x.procedure) x.set procedure set

  triple_passes : (t : Row) (y : Triple) → drop 1 t ≡ triple_cells y → passes under params t ≡ (number_of y.procedure == procedure && y.set == set)
  triple_passes t y is = under_blind params t ∙ (λ i. passes under params (Null ∷ is i)) ∙ two_equal (number_of y.procedure) y.set procedure set

  is_child : (t : Row) → Has (db 7) t → list_any (is_child_of (triples_work olds) t) (pairs olds []) ≡ passes under params t
  is_child t h = same_test (list_any (is_child_of (triples_work olds) t) (pairs olds [])) (passes under params t) goes comes
    where
      y : (y : Triple) × Has ys y × (drop 1 t ≡ triple_cells y)
      y = record_of triple_cells triple_key TripleFits ys (db 7) triples t h

      goes : list_any (is_child_of (triples_work olds) t) (pairs olds []) ≡ true → passes under params t ≡ true
      goes any =
          let move = some_has (is_child_of (triples_work olds) t) (pairs olds []) any in
          let old = pair_is olds move.0 move.1 in
          let id = has_mapped (row_at (db 5)) ids old.0 old.1 in
          let r = names.sound id.0 id.1 in
          let x = record_of relation_cells relation_key RelationFits xs (db 5) relations r.0 r.1 in
          let is_r : move.0.0 ≡ r.0 = ap (λ (m : Row × Row). m.0) old.2 ∙ id.2 ∙ row_there (db 5) relations.shaped.0 r.0 r.1 id.0 r.3 in
          let child = (and_parts (loses plain (1 ∷ 2 ∷ []) move.0) (agree plain (2 ∷ 3 ∷ []) t (1 ∷ 2 ∷ []) move.0.0) move.2).1 in
          let like : (number_of y.0.procedure == number_of x.0.procedure && y.0.set == x.0.set) ≡ true =
          sym (child_of t r.0 y.0 x.0 y.2 x.2) ∙ sym (ap (λ o. agree plain (2 ∷ 3 ∷ []) t (1 ∷ 2 ∷ []) o) is_r) ∙ child in
          triple_passes t y.0 y.2 ∙ chain (number_of y.0.procedure) y.0.set (number_of x.0.procedure) x.0.set procedure set like (sym (relation_passes r.0 x.0 x.2) ∙ r.2)

      comes : passes under params t ≡ true → list_any (is_child_of (triples_work olds) t) (pairs olds []) ≡ true
      comes mine =
          let kept = keeps_at ForeignKey bank_schema db grants_table t (obeys.rules ForeignKey) (inr (inr (inr (inr (inr (inl refl)))))) h in
          let parent = some_has (λ r. agree plain (1 ∷ 2 ∷ []) r (2 ∷ 3 ∷ []) t) (db 5) (bears db t kept (whole_triple t y.0 y.2)) in
          let x = record_of relation_cells relation_key RelationFits xs (db 5) relations parent.0 parent.1 in
          let like : (number_of x.0.procedure == number_of y.0.procedure && x.0.set == y.0.set) ≡ true = sym (parent_of parent.0 t x.0 y.0 x.2 y.2) ∙ parent.2 in
          let gone : passes by_two params parent.0 ≡ true =
          relation_passes parent.0 x.0 x.2 ∙ chain (number_of x.0.procedure) x.0.set (number_of y.0.procedure) y.0.set procedure set like (sym (triple_passes t y.0 y.2) ∙ mine) in
          let keyed = rowid_is (db 5) parent.0 relations.shaped parent.1 in
          let id = names.complete parent.0 (id_in (rowid parent.0)) parent.1 gone keyed in
          let old : Has olds parent.0 = subst (Has olds) (row_there (db 5) relations.shaped.0 parent.0 parent.1 (id_in (rowid parent.0)) keyed) (mapped_has (row_at (db 5)) ids (id_in (rowid parent.0)) id) in
          let child : agree plain (2 ∷ 3 ∷ []) t (1 ∷ 2 ∷ []) parent.0 ≡ true =
          child_of t parent.0 y.0 x.0 y.2 x.2 ∙ turn (number_of x.0.procedure) x.0.set (number_of y.0.procedure) y.0.set like in
          some_from (is_child_of (triples_work olds) t) (pairs olds []) (parent.0, []) (pair_has olds parent.0 old)
          (and_from (loses plain (1 ∷ 2 ∷ []) (parent.0, [])) (agree plain (2 ∷ 3 ∷ []) t (1 ∷ 2 ∷ []) parent.0) (lost parent.0 x.0 x.2) child)

  -- what is left of them
  pub triples_left : (next : Trees) → IsRemoved db next ids → HoldsRows all_but_rowid triple_cells triple_key TripleFits (filter (λ y. not (is_triple_under procedure set y)) ys) (next 7)
  triples_left next it =
      let middle : it.mid 7 ≡ db 7 = others 5 db it.mid it.applies.tables in_triples (λ e. omega (arith, e)) in
      let child = λ (t : Row). list_any (is_child_of (triples_work olds) t) (pairs olds []) in
      let named : Names (db 7) child it.cascade.ids = subst (λ rows. Names rows child it.cascade.ids) middle it.cascade.names in
      let out : next 7 ≡ filter (λ t. not (passes under params t)) (db 7) =
      it.cascade.triples ∙ ap (λ rows. without_all rows it.cascade.ids) middle ∙ taken_out (db 7) child it.cascade.ids triples.shaped named
      ∙ filter_alike (λ t. not (child t)) (λ t. not (passes under params t)) (db 7) (all_from (λ t. not (child t) ≡ not (passes under params t)) (db 7) (λ t h. ap not (is_child t h))) in
      subst (HoldsRows all_but_rowid triple_cells triple_key TripleFits (filter (λ y. not (is_triple_under procedure set y)) ys)) (sym out)
      (held_without all_but_rowid triple_cells triple_key TripleFits (is_triple_under procedure set) (passes under params) (λ c. passes under params (Null ∷ c)) ys (db 7) triples (under_blind params)
      (λ y. two_equal (number_of y.procedure) y.set procedure set))

pub removes_relation : (old new : State) (s : Sheets) (procedure set count : ℕ) → set < 2 ^ 32 → HoldsTables old.now s → Executes remove_relation_text (Int (pos procedure) ∷ Int (pos set) ∷ []) old new (Ok count)
    → HoldsTables new.now (record s { relations = delete_rows relation_key (2 ^ 32 * procedure + set) s.relations; triples = filter (λ y. not (is_triple_under procedure set y)) s.triples })
removes_relation old new s procedure set count small holds h =
    let params = Int (pos procedure) ∷ Int (pos set) ∷ [] in
    let db = old.now.trees in
    let k = 2 ^ 32 * procedure + set in
    let it = deletes bank_schema remove_relation_text params 4 relations_table (record { lets = []; body = pick 5 by_two (col 1 0 ∷ []) }) remove_relation_is.1 refl remove_relation_is.0 old new count holds.schema h in
    let step = removed db new.now.trees (ids_of it.rows) (subst (λ z. Writes z Enforced db (edit_of db relations_table (ids_of it.rows) Given 0 []) (Ok new.now.trees)) holds.schema it.writes) in
    let names = picks_ids 5 (λ d. refl) by_two (col 1 0 ∷ []) params (λ r. refl) db it.rows (holds.rows in_relations).shaped it.answer.answer in
    let kept = left_over all_but_rowid (λ r. Null ∷ r) relation_cells relation_key RelationFits 4 relations_table (λ d. refl) by_two remove_relation_text params (is_relation_on procedure set)
    remove_relation_is.0 remove_relation_is.1 refl (relation_blind params) (λ x. two_equal (number_of x.procedure) x.set procedure set) db step.mid it.rows s.relations (holds.rows in_relations) it.answer.answer step.applies.rows in
    let left : filter (λ x. not (is_relation_on procedure set x)) s.relations ≡ delete_rows relation_key k s.relations =
    picked_alike all_but_rowid relation_cells relation_key RelationFits (λ x. not (is_relation_on procedure set x)) (λ x. not (relation_key x == k)) s.relations (db 5) (holds.rows in_relations)
    (λ x fit. ap not (by_number procedure set small x fit)) in
    let still : new.now.trees 5 ≡ step.mid 5 = others 7 step.mid new.now.trees step.cascade.others in_relations (λ e. omega (arith, e)) in
    let relations : HoldsRows all_but_rowid relation_cells relation_key RelationFits (delete_rows relation_key k s.relations) (new.now.trees 5) =
    subst (HoldsRows all_but_rowid relation_cells relation_key RelationFits (delete_rows relation_key k s.relations)) (sym still)
    (subst (λ l. HoldsRows all_but_rowid relation_cells relation_key RelationFits l (step.mid 5)) left kept) in
    let triples = triples_left db procedure set s.relations s.triples (holds.rows in_relations) (holds.rows in_triples) (subst (λ z. Obeys z db) holds.schema holds.sound.obeys) (ids_of it.rows) names new.now.trees step in
    record {
      schema = it.schema_is;
      sound = it.sound;
      rows = without_relation db new.now.trees s (delete_rows relation_key k s.relations) (filter (λ y. not (is_triple_under procedure set y)) s.triples) holds.rows
          (λ t first second. others 7 step.mid new.now.trees step.cascade.others t second ∙ others 5 db step.mid step.applies.tables t first) relations triples;
    }
