-- UPDATE of the row of a key by what some of its columns become, while the others stay.
use Rattle.std.proofs.Common.{◌≡◌, ℕ, List, [], ◌∷◌, map, filter, drop, slice_get, Bool, true, false, not, cond, refl, ap, arith, sym, ◌∙◌, subst, ◌==◌, ◌&&◌, Some, None, Option, Ok, IsPermutation, Contains}
use Rattle.std.specs.Prelude.{if◌then◌else◌}
use Rattle.std.specs.List.{find, cons_option}
use Rattle.std.proofs.lemmas.Bool.{and_parts, eqb-true}
use Rattle.sqlite.specs.Order.{Row}
use Rattle.sqlite.specs.Term.{Term}
use Rattle.sqlite.specs.Table.{Table}
use Rattle.sqlite.specs.Query.{output}
use Rattle.sqlite.specs.Command.TheVariants.{Update}
use Rattle.sqlite.specs.Program.{overlay}
use Rattle.sqlite.specs.Tree.{Trees}
use Rattle.sqlite.specs.Listing.{understood}
use Rattle.sqlite.specs.State.{State, Executes}
use Rattle.sqlite.proofs.Callers.{IsPlain, command_of, one_step}
use Rattle.sqlite.specs.Edit.{Edit, edit_of, edited}
use Rattle.sqlite.specs.Rowids.TheVariants.{Given}
use Rattle.sqlite_rules.specs.Calls.{ids_of}
use Rattle.sqlite_rules.specs.Cast.{cast_row}
use Rattle.sqlite_rules.specs.Edit.{Applies, are_fresh, have_rowids, id_in, is_taken, left_by, taken_by, without_all}
use Rattle.sqlite_rules.specs.Action.{works, Writes}
use Rattle.sqlite_schema.specs.declared.schema.Keys.TheVariants.{Enforced}
use Rattle.sqlite_sql.specs.Program.{IsProgramAnswer}
use Rattle.sqlite_trees.specs.Tree.{put_row, rowid}
use Rattle.sqlite_trees.specs.View.{is_int}
use Rattle.keyed_rows.specs.Changed.{change_rows}
use Rattle.keyed_rows.specs.Ordered.{AreDistinct}
use Rattle.keyed_rows.proofs.Rows.{found_by_key, found_row}
use Rattle.book_kept.proofs.RowLemmas.{map_same}
use Rattle.book_kept.specs.Sheets.{set_row}
use Rattle.sql_schema.specs.HeldRows.{HoldsRows}
use Rattle.sql_schema.specs.Schema.{bank_schema}
use Rattle.sql_schema.proofs.HeldLemmas.{Names, held_filter, held_set, picked_alike, taken_out}
use Rattle.sql_schema.proofs.KeyLemmas.{one_of_key}
use Rattle.sql_schema.proofs.PickLemmas.{Leaves, pick, picks, picks_ids}
use Rattle.sql_schema.proofs.ScanLemmas.{few_permutation, passes}
use Rattle.sql_schema.proofs.WriteLemmas.{updates}
use Rattle.sql_schema.proofs.KeyTests.{at_most_one, few_mapped}

-- ---- rows that are made anew

module _ {X : Type 0} (key : X → ℕ) (k : ℕ) (made : X → X) where
  -- where no row has the key, none is
  change_rows-absent : (xs : List X) → find (λ x. key x == k) xs ≡ None → change_rows key k made xs ≡ xs
  change_rows-absent [] h = refl
  change_rows-absent (x ∷ xs) h = go (key x == k) h (change_rows-absent xs)
    where
      go : (b : Bool) → cond b (Some x) (find (λ y. key y == k) xs) ≡ None → (find (λ y. key y == k) xs ≡ None → change_rows key k made xs ≡ xs) → cond b (made x) x ∷ change_rows key k made xs ≡ x ∷ xs
      go true h rest = absurd cc
      go false h rest = ap (λ ys. x ∷ ys) (rest h)

  -- where keys differ, what is made of the row that is found stands in its place
  set_row-changes : (x : X) (xs : List X) → AreDistinct (map key xs) → find (λ y. key y == k) xs ≡ Some x → key (made x) ≡ k → set_row key (made x) xs ≡ change_rows key k made xs
  set_row-changes x xs distinct found same =
      ap (λ j. map (λ y. if key y == j then made x else y) xs) same
      ∙ map_same (λ y. if key y == k then made x else y) (λ y. if key y == k then made y else y) xs (λ y there. go y there (key y == k) refl)
    where
      go : (y : X) → Contains xs y → (b : Bool) → (key y == k) ≡ b → cond b (made x) y ≡ cond b (made y) y
      go y there true is = ap made (sym (found_by_key key k xs x y distinct found there (eqb-true (key y) k is)))
      go y there false is = refl

-- ---- UPDATE

not_true : (b : Bool) → not b ≡ true → b ≡ false
not_true true h = absurd cc
not_true false h = refl

none_mapped : {X Y : Type 0} (f : X → Y) (xs : List X) → map f xs ≡ [] → xs ≡ []
none_mapped f [] is = refl
none_mapped f (x ∷ xs) is = absurd cc

one_mapped : {X Y : Type 0} (f : X → Y) (xs : List X) (y : Y) → map f xs ≡ y ∷ [] → (x : X) × (xs ≡ x ∷ []) × (f x ≡ y)
one_mapped f [] y is = absurd cc
one_mapped f (x ∷ []) y is = (x, refl, cc)
one_mapped f (x ∷ z ∷ xs) y is = absurd cc

module _ {X : Type 0} (shows back : Row → Row) (cells : X → Row) (key : X → ℕ) (Fits : X → Type 0) (at : ℕ) (table : Table) (over : (db : Trees) → overlay db [] table.tree ≡ db table.tree)
    (terms project : List Term) (sql : List ℕ) (params : Row) (k : ℕ) (anew : X → X) (keeps : (x : X) → key (anew x) ≡ key x) (still : (x : X) → Fits x → Fits (anew x))
    (is : command_of (understood bank_schema sql) ≡ Update at (record { lets = []; body = pick table.tree terms project })) (plain : IsPlain (understood bank_schema sql))
    (there : slice_get bank_schema.tables at ≡ Some table)
    (reads : (r : Row) → passes terms params r ≡ passes terms params (back (shows r))) (passing : (x : X) → Fits x → passes terms params (back (cells x)) ≡ (key x == k))
    (first : (r : Row) → id_in (rowid (output (pick table.tree terms project) (params ∷ r ∷ [])).1) ≡ id_in (rowid r))
    (made : (r : Row) (x : X) → shows r ≡ cells x → shows (cast_row table (drop 1 (output (pick table.tree terms project) (params ∷ r ∷ [])).1)) ≡ cells (anew x)) where
  abbrev picked : Row → Row
  picked r = (output (pick table.tree terms project) (params ∷ r ∷ [])).1

  abbrev changed : Row → Row
  changed r = cast_row table (drop 1 (picked r))

  abbrev change : Trees → List Row → Edit
  change old rows = edit_of old table (ids_of rows) Given 1 rows

  abbrev Held : List X → List Row → Type 0
  Held = HoldsRows shows cells key Fits

  -- the rows of the table that pass are that of the key
  matched : (xs : List X) (tree : List Row) → Held xs tree → map shows (filter (passes terms params) tree) ≡ map cells (cons_option (find (λ x. key x == k) xs) [])
  matched xs tree holds =
      let same = held_filter shows cells (λ x. passes terms params (back (cells x))) (passes terms params) (λ c. passes terms params (back c)) xs tree reads (λ x. refl) holds.same in
      let by_key : filter (λ x. passes terms params (back (cells x))) xs ≡ cons_option (find (λ x. key x == k) xs) [] =
      picked_alike shows cells key Fits (λ x. passes terms params (back (cells x))) (λ x. key x == k) xs tree holds passing ∙ one_of_key key k xs holds.ordered.distinct in
      few_permutation _ _ (few_mapped cells (cons_option (find (λ x. key x == k) xs) []) (at_most_one (find (λ x. key x == k) xs))) (subst (λ l. IsPermutation (map cells l) (map shows (filter (passes terms params) tree))) by_key same)

  -- what is left where a step makes the row of the key anew
  changed_over : (old next : Trees) (rows : List Row) (xs : List X) → Held xs (old table.tree) → IsProgramAnswer [] (pick table.tree terms project) old params rows
      → Applies bank_schema Enforced old (change old rows) next → Held (change_rows key k anew xs) (next table.tree)
  changed_over old next rows xs holds answer step = go (find (λ x. key x == k) xs) refl (matched xs (old table.tree) holds)
    where
      found_rows : List Row
      found_rows = filter (passes terms params) (old table.tree)

      picked_rows : IsPermutation (map picked found_rows) rows
      picked_rows = picks table.tree over terms project params old rows answer

      names : Names (old table.tree) (passes terms params) (ids_of rows)
      names = picks_ids table.tree over terms project params first old rows holds.shaped answer

      go : (o : Option X) → find (λ x. key x == k) xs ≡ o → map shows found_rows ≡ map cells (cons_option o []) → Held (change_rows key k anew xs) (next table.tree)
      go None found none =
          let no_rows : rows ≡ [] = few_permutation [] rows (omega arith) (subst (λ l. IsPermutation (map picked l) rows) (none_mapped shows found_rows none) picked_rows) in
          let now : next table.tree ≡ old table.tree = step.rows ∙ ap (λ rs. edited old (change old rs)) no_rows in
          subst (λ l. Held l (next table.tree)) (sym (change_rows-absent key k anew xs found)) (subst (Held xs) (sym now) holds)
      go (Some x) found some =
          let one = one_mapped shows found_rows (cells x) some in
          let r = one.0 in
          let one_row : rows ≡ picked r ∷ [] = few_permutation _ rows (omega arith) (subst (λ l. IsPermutation (map picked l) rows) one.1 picked_rows) in
          let ids = ids_of (picked r ∷ []) in
          let left : without_all (old table.tree) ids ≡ filter (λ y. not (passes terms params y)) (old table.tree) =
          taken_out (old table.tree) (passes terms params) ids holds.shaped (subst (λ rs. Names (old table.tree) (passes terms params) (ids_of rs)) one_row names) in
          let now : next table.tree ≡ put_row (changed r) (filter (λ y. not (passes terms params y)) (old table.tree)) = step.rows ∙ ap (λ rs. edited old (change old rs)) one_row ∙ ap (put_row (changed r)) left in
          let fresh : (not (is_taken (without_all (old table.tree) ids) (changed r)) && true) ≡ true = subst (λ rs. are_fresh (left_by old (change old rs)) (change old rs).news ≡ true) one_row step.fresh in
          let keyed : (is_int (rowid (changed r)) && true) ≡ true = subst (λ rs. have_rowids (change old rs).news ≡ true) one_row step.keyed in
          let free = subst (λ l. is_taken l (changed r) ≡ false) left (not_true _ (and_parts _ true fresh).0) in
          let named = found_row key k xs x found in
          let same : key (anew x) ≡ k = keeps x ∙ named.1 in
          let set = held_set shows cells key Fits (anew x) x (changed r) (passes terms params) (λ c. passes terms params (back c)) xs (old table.tree) holds
          (subst (λ j. find (λ y. key y == j) xs ≡ Some x) (sym same) found) reads (λ y fit. passing y fit ∙ ap (λ j. key y == j) (sym same)) (made r x one.2)
          (and_parts _ true keyed).0 free (still x (holds.fit x named.0)) in
          subst (λ l. Held l (next table.tree)) (set_row-changes key k anew x xs holds.ordered.distinct found same) (subst (Held (set_row key (anew x) xs)) (sym now) set)

  pub changes_row : ((olds news : List Row) → works bank_schema Enforced 0 table.tree olds news ≡ []) → (old new : State) (xs : List X) (count : ℕ) → old.now.schema ≡ bank_schema
      → Held xs (old.now.trees table.tree) → Executes sql params old new (Ok count) → Leaves shows cells key Fits table.tree (change_rows key k anew xs) old new
  changes_row nothing old new xs count has holds h =
      let it = updates bank_schema sql params at table (record { lets = []; body = pick table.tree terms project }) plain there is old new count has h in
      let edit = change old.now.trees it.rows in
      let step : Applies bank_schema Enforced old.now.trees edit new.now.trees =
      one_step bank_schema Enforced old.now.trees new.now.trees edit (nothing (taken_by old.now.trees edit) edit.news) (subst (λ s. Writes s Enforced old.now.trees edit (Ok new.now.trees)) has it.writes) in
      record {
        schema = it.schema_is;
        sound = it.sound;
        rows = changed_over old.now.trees new.now.trees it.rows xs holds it.answer.answer step;
        others = step.tables;
      }
