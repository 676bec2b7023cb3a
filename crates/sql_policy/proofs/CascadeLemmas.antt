-- DELETE of a relation: its triples go with it.
use Rattle.std.proofs.Common.{◌≡◌, ◌≢◌, inl, inr, ℕ, zero, suc, ℤ, pos, List, [], ◌∷◌, ◌++◌, drop, length, length-append, not, Bool, true, false, cond, Some, Ok, refl, ap, arith, sym, ◌∙◌, subst, ◌==◌, ◌&&◌, ◌||◌, is_eq}
use Rattle.std.proofs.lemmas.Bool.{true≢false}
use Rattle.std.proofs.Math.Bool.{and-true}
use Rattle.sqlite.specs.Table.{Table}
use Rattle.sqlite_rules.specs.Action.{Acts, AreChildren, ActsOn, Goes, Leads, Writes, Work, action_edit, is_child_of, loses, pairs}
use Rattle.sqlite_rules.specs.Edit.{Applies, taken_by}
use Rattle.sqlite_rules.proofs.ListLemmas.{some_from, some_has}
use Rattle.sqlite_schema.specs.Rules.{equal, passes as passes_rules}
use Rattle.sqlite_sql.specs.Ops.{binary, from_truth, is_true}
use Rattle.sqlite_schema.specs.declared.schema.Constraint.TheVariants.{ForeignKey}
use Rattle.sqlite_schema.specs.declared.schema.Keys.TheVariants.{Enforced}
use Rattle.sqlite_tied.specs.Compute.{everything}
use Rattle.sqlite_value.specs.Keys.{first_key, later}
use Rattle.sqlite_value.specs.declared.keys.Collation.{Collation}
use Rattle.sqlite_value.specs.declared.keys.Collation.TheVariants.{Binary, NoCase, RTrim}
use Rattle.sqlite_value.specs.declared.keys.Order.{Order}
use Rattle.sqlite_value.proofs.OrderLemmas.{value_cmp-Int}
use Rattle.sql_schema.proofs.ActionLemmas.{relations_set_off}
use Rattle.sql_schema.proofs.FrameLemmas.{KeepsOthers}
use Rattle.sql_schema.proofs.HeldLemmas.{same_pos}
use Rattle.sql_schema.proofs.TableNames.{list_any, and_parts, eq-eqb, false≢true, Null, Int, edit_of, Row, Given, Trees, without_all, agree, has_null, all_of, plain, number_of, Relation, Triple, relation_cells, triple_cells, bank_schema, relations_table, grants_table, nothing_set_off, triples_work, Names}

-- ---- what is to be done is done

settled : (n : ℕ) (db next : Trees) → Leads bank_schema Enforced n db [] (Ok next) → db ≡ next
settled zero db next h = let e = h.1 in cc
settled (suc n) db next h = absurd (omega (arith, ap length h.2, length-append h.0 (h.1 ∷ [])))

-- the one action that is due
one_due : (n : ℕ) (db next : Trees) (w : Work) → Leads bank_schema Enforced n db (w ∷ []) (Ok next) → (m : ℕ) × Acts bank_schema Enforced (Leads bank_schema Enforced m) db w [] (Ok next)
one_due zero db next w h = absurd (let e = h.0 in cc)
one_due (suc n) db next w h = (n, last h.0 h.1 h.2 h.3)
  where
    last : (below : List Work) (v : Work) → w ∷ [] ≡ below ++ v ∷ [] → Acts bank_schema Enforced (Leads bank_schema Enforced n) db v below (Ok next) → Acts bank_schema Enforced (Leads bank_schema Enforced n) db w [] (Ok next)
    last [] v is acts = let same : w ≡ v = cc in subst (λ x. Acts bank_schema Enforced (Leads bank_schema Enforced n) db x [] (Ok next)) (sym same) acts
    last (b ∷ below) v is acts = absurd (omega (arith, ap length is, length-append below (v ∷ [])))

-- what a step on the relations and its actions leave of the triples
pub record IsCascade (db next : Trees) (olds : List Row) : Type 0 where
  pub ids : List ℤ
  pub names : Names (db 7) (λ t. list_any (is_child_of (triples_work olds) t) (pairs olds [])) ids
  pub triples : next 7 ≡ without_all (db 7) ids
  pub others : KeepsOthers 7 db next

kept_all : (db : Trees) → KeepsOthers 7 db db
kept_all db = all_of (λ (t : Table). t.tree ≢ 7 → db t.tree ≡ db t.tree) (λ t _. refl) bank_schema.tables

cascades : (m : ℕ) (db next : Trees) (olds : List Row) → Acts bank_schema Enforced (Leads bank_schema Enforced m) db (triples_work olds) [] (Ok next) → IsCascade db next olds
cascades m db next olds h = go h.0 h.1 h.2
  where
    names_of : (ids : List ℤ) → AreChildren db (triples_work olds) ids → Names (db 7) (λ t. list_any (is_child_of (triples_work olds) t) (pairs olds [])) ids
    names_of ids c = record { sound = c.sound; complete = c.complete }

    done : (id : ℤ) (ids : List ℤ) → AreChildren db (triples_work olds) (id ∷ ids) → Goes bank_schema Enforced (Leads bank_schema Enforced m) db (action_edit db (triples_work olds) (id ∷ ids)) 1 [] (Ok next) → IsCascade db next olds
    done id ids c (inl refused) = absurd (let e = refused.2 in cc)
    done id ids c (inr (inl big)) = absurd (let e = big.3 in cc)
    done id ids c (inr (inr went)) =
        let none = nothing_set_off 1 7 refl (taken_by db (action_edit db (triples_work olds) (id ∷ ids))) [] in
        let same : went.0 ≡ next = settled m went.0 next (subst (λ l. Leads bank_schema Enforced m went.0 l (Ok next)) none went.2) in
        record { ids = id ∷ ids; names = names_of (id ∷ ids) c; triples = ap (λ (d : Trees). d 7) (sym same) ∙ went.1.rows; others = subst (KeepsOthers 7 db) same went.1.tables }

    go : (ids : List ℤ) → AreChildren db (triples_work olds) ids → ActsOn bank_schema Enforced (Leads bank_schema Enforced m) db (triples_work olds) [] (Ok next) ids → IsCascade db next olds
    go [] c on =
        let same : db ≡ next = settled m db next on in
        record { ids = []; names = names_of [] c; triples = ap (λ (d : Trees). d 7) (sym same); others = subst (KeepsOthers 7 db) same (kept_all db) }
    go (id ∷ ids) c on = done id ids c on

-- no row that stays has lost its relation
none_lost : (db : Trees) (olds : List Row) → list_any (loses plain (1 ∷ 2 ∷ [])) (pairs olds []) ≡ false → IsCascade db db olds
none_lost db olds none = record {
  ids = [];
  names = record {
    sound = λ id h. absurd h;
    complete = λ t id h child keyed.
        let move = some_has (is_child_of (triples_work olds) t) (pairs olds []) child in
        let lost = and_parts (loses plain (1 ∷ 2 ∷ []) move.0) (agree plain (2 ∷ 3 ∷ []) t (1 ∷ 2 ∷ []) move.0.0) move.2 in
        absurd (false≢true (sym none ∙ some_from (loses plain (1 ∷ 2 ∷ [])) (pairs olds []) move.0 move.1 lost.0));
  };
  triples = refl;
  others = kept_all db;
}

pub record IsRemoved (db next : Trees) (ids : List ℤ) : Type 0 where
  pub mid : Trees
  pub applies : Applies bank_schema Enforced db (edit_of db relations_table ids Given 0 []) mid
  pub cascade : IsCascade mid next (taken_by db (edit_of db relations_table ids Given 0 []))

pub removed : (db next : Trees) (ids : List ℤ) → Writes bank_schema Enforced db (edit_of db relations_table ids Given 0 []) (Ok next) → IsRemoved db next ids
removed db next ids (inl refused) = absurd (let e = refused.2 in cc)
removed db next ids (inr (inl big)) = absurd (let e = big.3 in cc)
removed db next ids (inr (inr went)) =
    record { mid = went.0; applies = went.1; cascade = go (list_any (loses plain (1 ∷ 2 ∷ [])) (pairs olds [])) refl (subst (λ l. Leads bank_schema Enforced went.2.0 went.0 l (Ok next)) (relations_set_off olds) went.2.1) }
  where
    olds : List Row
    olds = taken_by db (edit_of db relations_table ids Given 0 [])

    go : (b : Bool) → list_any (loses plain (1 ∷ 2 ∷ [])) (pairs olds []) ≡ b → Leads bank_schema Enforced went.2.0 went.0 (cond b (triples_work olds ∷ []) []) (Ok next) → IsCascade went.0 next olds
    go false is h = subst (λ d. IsCascade went.0 d olds) (settled went.2.0 went.0 next h) (none_lost went.0 olds is)
    go true is h = let due = one_due went.2.0 went.0 next (triples_work olds) h in cascades due.0 went.0 next olds due.1

-- ---- which triples are of a relation

truth_back : (b : Bool) → is_true (from_truth (Some b)) ≡ b
truth_back true = refl
truth_back false = refl

equal_is : (how : Collation) (m n : ℕ) → equal how (Int (pos m)) (Int (pos n)) ≡ (m == n)
unfolding binary
equal_is Binary m n = truth_back _ ∙ ap is_eq (value_cmp-Int (pos m) (pos n)) ∙ same_pos m n
equal_is NoCase m n = truth_back _ ∙ ap is_eq (value_cmp-Int (pos m) (pos n)) ∙ same_pos m n
equal_is RTrim m n = truth_back _ ∙ ap is_eq (value_cmp-Int (pos m) (pos n)) ∙ same_pos m n

no_null : (how : Collation) (n : ℕ) → equal how (Int (pos n)) Null ≡ false
unfolding binary
no_null how n = refl

both_equal : (o : Order) (a b m n : ℕ) → (equal (first_key o).collation (Int (pos a)) (Int (pos m)) && (equal (first_key (later o)).collation (Int (pos b)) (Int (pos n)) && true)) ≡ (a == m && b == n)
both_equal o a b m n = λ i. equal_is (first_key o).collation a m i && (and-true (equal (first_key (later o)).collation (Int (pos b)) (Int (pos n))) ∙ equal_is (first_key (later o)).collation b n) i

-- a triple against a relation, and back
blind_child : (t r : Row) → agree plain (2 ∷ 3 ∷ []) t (1 ∷ 2 ∷ []) r ≡ agree plain (2 ∷ 3 ∷ []) (Null ∷ drop 1 t) (1 ∷ 2 ∷ []) (Null ∷ drop 1 r)
blind_child [] [] = refl
blind_child [] (y ∷ r) = refl
blind_child (x ∷ t) [] = refl
blind_child (x ∷ t) (y ∷ r) = refl

blind_parent : (r t : Row) → agree plain (1 ∷ 2 ∷ []) r (2 ∷ 3 ∷ []) t ≡ agree plain (1 ∷ 2 ∷ []) (Null ∷ drop 1 r) (2 ∷ 3 ∷ []) (Null ∷ drop 1 t)
blind_parent [] [] = refl
blind_parent [] (y ∷ t) = refl
blind_parent (x ∷ r) [] = refl
blind_parent (x ∷ r) (y ∷ t) = refl

blind_itself : (r : Row) → loses plain (1 ∷ 2 ∷ []) (r, []) ≡ loses plain (1 ∷ 2 ∷ []) ((Null ∷ drop 1 r), [])
blind_itself [] = refl
blind_itself (x ∷ r) = refl

pub child_of : (t r : Row) (y : Triple) (x : Relation) → drop 1 t ≡ triple_cells y → drop 1 r ≡ relation_cells x → agree plain (2 ∷ 3 ∷ []) t (1 ∷ 2 ∷ []) r ≡ (number_of y.procedure == number_of x.procedure && y.set == x.set)
child_of t r y x p q =
    blind_child t r ∙ (λ i. agree plain (2 ∷ 3 ∷ []) (Null ∷ p i) (1 ∷ 2 ∷ []) (Null ∷ q i)) ∙ both_equal plain (number_of y.procedure) y.set (number_of x.procedure) x.set

pub parent_of : (r t : Row) (x : Relation) (y : Triple) → drop 1 r ≡ relation_cells x → drop 1 t ≡ triple_cells y → agree plain (1 ∷ 2 ∷ []) r (2 ∷ 3 ∷ []) t ≡ (number_of x.procedure == number_of y.procedure && x.set == y.set)
parent_of r t x y q p =
    blind_parent r t ∙ (λ i. agree plain (1 ∷ 2 ∷ []) (Null ∷ q i) (2 ∷ 3 ∷ []) (Null ∷ p i)) ∙ both_equal plain (number_of x.procedure) x.set (number_of y.procedure) y.set

itself : (n : ℕ) → (n == n) ≡ true
itself n = eq-eqb n n refl

-- a relation that goes has a key that is lost
pub lost : (r : Row) (x : Relation) → drop 1 r ≡ relation_cells x → loses plain (1 ∷ 2 ∷ []) (r, []) ≡ true
lost r x q =
    blind_itself r ∙ (λ i. loses plain (1 ∷ 2 ∷ []) ((Null ∷ q i), []))
    ∙ (λ i. (both_equal plain (number_of x.procedure) x.set (number_of x.procedure) x.set ∙ (λ j. itself (number_of x.procedure) j && itself x.set j)) i
    && not (no_null (first_key plain).collation (number_of x.procedure) i && (equal (first_key (later plain)).collation (Int (pos x.set)) Null && true)))

-- each triple has its relation
pub bears : (db : Trees) (t : Row) → passes_rules ForeignKey bank_schema db grants_table t ≡ true → has_null (2 ∷ 3 ∷ []) t ≡ false → list_any (λ r. agree plain (1 ∷ 2 ∷ []) r (2 ∷ 3 ∷ []) t) (db 5) ≡ true
unfolding everything
bears db t holds whole = held (has_null (2 ∷ 3 ∷ []) t) (list_any (λ r. agree plain (1 ∷ 2 ∷ []) r (2 ∷ 3 ∷ []) t) (db 5)) whole holds
  where
    held : (a b : Bool) → a ≡ false → ((a || b) && true) ≡ true → b ≡ true
    held false b _ h = (and_parts b true h).0
    held true b e h = absurd (true≢false e)
