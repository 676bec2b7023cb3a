-- UPDATE and DELETE of the rows that pass, in any table.
use Rattle.std.proofs.Common.{◌≡◌, ℕ, List, [], ◌∷◌, map, filter, drop, length, slice_get, Bool, true, false, not, refl, ap, arith, sym, ◌∙◌, subst, ◌==◌, ◌&&◌, ◌≤◌, Some, None, Option, Ok, IsPermutation, inl}
use Rattle.std.specs.List.{find, cons_option}
use Rattle.std.proofs.lemmas.Bool.{and_parts}
use Rattle.std.proofs.lemmas.List.Sorted.{IsPermutation-map}
use Rattle.sqlite.specs.declared.types.Value.TheVariants.{Int}
use Rattle.sqlite.specs.Order.{Row}
use Rattle.sqlite.specs.Term.{Term, col}
use Rattle.sqlite.specs.Table.{Table}
use Rattle.sqlite.specs.Query.{Query, output, Output}
use Rattle.sqlite.specs.Command.TheVariants.{Delete, Update}
use Rattle.sqlite.specs.Program.{overlay}
use Rattle.sqlite.specs.Tree.{Trees}
use Rattle.sqlite.specs.Listing.{understood}
use Rattle.sqlite.specs.State.{State, Executes}
use Rattle.sqlite.proofs.Callers.{IsPlain, command_of, one_step}
use Rattle.sqlite.specs.Effect.{IsDatabase}
use Rattle.sqlite.specs.Edit.{Edit, edit_of, edited}
use Rattle.sqlite.specs.Rowids.TheVariants.{Given}
use Rattle.sqlite_rules.specs.Calls.{ids_of}
use Rattle.sqlite_rules.specs.Cast.{cast_row}
use Rattle.sqlite_rules.specs.Edit.{Applies, are_fresh, have_rowids, id_in, is_taken, left_by, taken_by, without_all}
use Rattle.sqlite_rules.specs.Action.{works, Writes}
use Rattle.sqlite_rules.specs.Lists.{Has}
use Rattle.sqlite_rules.proofs.ListLemmas.{has_filtered}
use Rattle.sqlite_schema.specs.declared.schema.Keys.TheVariants.{Enforced}
use Rattle.sqlite_sql.specs.Program.{IsProgramAnswer}
use Rattle.sqlite_trees.specs.Tree.{put_row, rowid}
use Rattle.sqlite_trees.specs.View.{IsShaped, is_int}
use Rattle.sqlite_trees.specs.declared.store.Shape.TheVariants as shape
use Rattle.sqlite_keyed.proofs.ListLemmas.{map-map}
use Rattle.book_kept.specs.Sheets.{set_row}
use Rattle.sql_schema.specs.HeldRows.{HoldsRows}
use Rattle.sql_schema.specs.Schema.{bank_schema}
use Rattle.sql_schema.proofs.FrameLemmas.{KeepsOthers}
use Rattle.keyed_rows.proofs.Rows.{found_row}
use Rattle.sql_schema.proofs.HeldLemmas.{Names, held_filter, held_set, held_without, names_from, picked_alike, rowid_is, taken_out}
use Rattle.sql_schema.proofs.KeyLemmas.{one_of_key, set_row-absent}
use Rattle.sql_schema.proofs.ReadLemmas.{no_limit, no_offset}
use Rattle.sql_schema.proofs.ScanLemmas.{few_permutation, passes, scan, scanned}
use Rattle.sql_schema.proofs.WriteLemmas.{deletes, updates}

-- the query of an UPDATE or a DELETE
abbrev pub pick : ℕ → List Term → List Term → Query
pick tree terms project = scan tree terms project [] no_limit no_offset

-- a statement on one table is done: the table holds these rows, and every other table is as it was
pub record Leaves {X : Type 0} (shows : Row → Row) (cells : X → Row) (key : X → ℕ) (Fits : X → Type 0) (tree : ℕ) (xs : List X) (old new : State) : Type 0 where
  pub schema : new.now.schema ≡ bank_schema
  pub sound : IsDatabase new.now
  pub rows : HoldsRows shows cells key Fits xs (new.now.trees tree)
  pub others : KeepsOthers tree old.now.trees new.now.trees

-- ---- the rowids of the rows that pass

module _ (tree : ℕ) (over : (db : Trees) → overlay db [] tree ≡ db tree) (terms project : List Term) (params : Row) where
  abbrev picked : Row → Row
  picked r = (output (pick tree terms project) (params ∷ r ∷ [])).1

  -- the rows that are picked, in some order
  pub picks : (db : Trees) (rows : List Row) → IsProgramAnswer [] (pick tree terms project) db params rows → IsPermutation (map picked (filter (passes terms params) (db tree))) rows
  picks db rows h =
      let s = scanned tree terms project [] no_limit no_offset db params rows (over db) h in
      let same = IsPermutation-map (λ (o : Output). o.1) _ _ (subst (λ l. IsPermutation l s.0) (map-map (output (pick tree terms project)) (λ r. params ∷ r ∷ []) (filter (passes terms params) (db tree))) s.1) in
      subst (λ l. IsPermutation l rows) (map-map (λ (o : Output). o.1) (λ r. output (pick tree terms project) (params ∷ r ∷ [])) (filter (passes terms params) (db tree)))
      (subst (IsPermutation (map (λ (o : Output). o.1) (map (λ r. output (pick tree terms project) (params ∷ r ∷ [])) (filter (passes terms params) (db tree))))) (sym s.3) same)

  pub picks_ids : ((r : Row) → id_in (rowid (picked r)) ≡ id_in (rowid r)) → (db : Trees) (rows : List Row) → IsShaped shape.Table (db tree) → IsProgramAnswer [] (pick tree terms project) db params rows
      → Names (db tree) (passes terms params) (ids_of rows)
  picks_ids first db rows shaped h =
      let ids = IsPermutation-map (λ r. id_in (rowid r)) _ _ (picks db rows h) in
      let same : map (λ r. id_in (rowid r)) (map picked (filter (passes terms params) (db tree))) ≡ map (λ r. id_in (rowid r)) (filter (passes terms params) (db tree)) =
      map-map (λ r. id_in (rowid r)) picked (filter (passes terms params) (db tree)) ∙ (λ i. map (λ r. first r i) (filter (passes terms params) (db tree))) in
      names_from (db tree) (passes terms params) (ids_of rows) shaped (subst (λ l. IsPermutation l (ids_of rows)) same ids)

-- ---- DELETE

module _ {X : Type 0} (shows back : Row → Row) (cells : X → Row) (key : X → ℕ) (Fits : X → Type 0) (at : ℕ) (table : Table) (over : (db : Trees) → overlay db [] table.tree ≡ db table.tree)
    (terms : List Term) (sql : List ℕ) (params : Row) (p : X → Bool)
    (is : command_of (understood bank_schema sql) ≡ Delete at (record { lets = []; body = pick table.tree terms (col 1 0 ∷ []) })) (plain : IsPlain (understood bank_schema sql))
    (there : slice_get bank_schema.tables at ≡ Some table)
    (reads : (r : Row) → passes terms params r ≡ passes terms params (back (shows r))) (passing : (x : X) → passes terms params (back (cells x)) ≡ p x) where
  abbrev gone : Trees → List Row → Edit
  gone old rows = edit_of old table (ids_of rows) Given 0 []

  -- what is left where a step takes the rows that pass
  pub left_over : (old next : Trees) (rows : List Row) (xs : List X) → HoldsRows shows cells key Fits xs (old table.tree) → IsProgramAnswer [] (pick table.tree terms (col 1 0 ∷ [])) old params rows
      → next table.tree ≡ edited old (gone old rows) → HoldsRows shows cells key Fits (filter (λ x. not (p x)) xs) (next table.tree)
  left_over old next rows xs holds answer now =
      let names = picks_ids table.tree over terms (col 1 0 ∷ []) params (λ r. refl) old rows holds.shaped answer in
      let out : next table.tree ≡ filter (λ r. not (passes terms params r)) (old table.tree) = now ∙ taken_out (old table.tree) (passes terms params) (ids_of rows) holds.shaped names in
      subst (HoldsRows shows cells key Fits (filter (λ x. not (p x)) xs)) (sym out)
      (held_without shows cells key Fits p (passes terms params) (λ c. passes terms params (back c)) xs (old table.tree) holds reads passing)

  -- where nothing else is set off
  pub deletes_rows : ((olds : List Row) → works bank_schema Enforced 0 table.tree olds [] ≡ []) → (old new : State) (xs : List X) (count : ℕ) → old.now.schema ≡ bank_schema
      → HoldsRows shows cells key Fits xs (old.now.trees table.tree) → Executes sql params old new (Ok count) → Leaves shows cells key Fits table.tree (filter (λ x. not (p x)) xs) old new
  deletes_rows nothing old new xs count has holds h =
      let it = deletes bank_schema sql params at table (record { lets = []; body = pick table.tree terms (col 1 0 ∷ []) }) plain there is old new count has h in
      let edit = gone old.now.trees it.rows in
      let step : Applies bank_schema Enforced old.now.trees edit new.now.trees =
      one_step bank_schema Enforced old.now.trees new.now.trees edit (nothing (taken_by old.now.trees edit)) (subst (λ s. Writes s Enforced old.now.trees edit (Ok new.now.trees)) has it.writes) in
      record {
        schema = it.schema_is;
        sound = it.sound;
        rows = left_over old.now.trees new.now.trees it.rows xs holds it.answer.answer step.rows;
        others = step.tables;
      }

-- ---- UPDATE of the row of a key, by a whole row

few : {X Y : Type 0} (f : X → Y) (o : Option X) → length (map f (cons_option o [])) ≤ 1
few f None = omega arith
few f (Some x) = omega arith

not_true : (b : Bool) → not b ≡ true → b ≡ false
not_true true h = absurd cc
not_true false h = refl

none_mapped : {X Y : Type 0} (f : X → Y) (xs : List X) → map f xs ≡ [] → xs ≡ []
none_mapped f [] is = refl
none_mapped f (x ∷ xs) is = absurd cc

one_mapped : {X Y : Type 0} (f : X → Y) (xs : List X) (y : Y) → map f xs ≡ y ∷ [] → (x : X) × (xs ≡ x ∷ []) × (f x ≡ y)
one_mapped f [] y is = absurd cc
one_mapped f (x ∷ []) y is = (x, refl, cc)
one_mapped f (x ∷ z ∷ xs) y is = absurd cc

module _ {X : Type 0} (shows back : Row → Row) (cells : X → Row) (key : X → ℕ) (Fits : X → Type 0) (at : ℕ) (table : Table) (over : (db : Trees) → overlay db [] table.tree ≡ db table.tree)
    (terms project : List Term) (sql : List ℕ) (params : Row) (new_row : X)
    (is : command_of (understood bank_schema sql) ≡ Update at (record { lets = []; body = pick table.tree terms project })) (plain : IsPlain (understood bank_schema sql))
    (there : slice_get bank_schema.tables at ≡ Some table)
    (reads : (r : Row) → passes terms params r ≡ passes terms params (back (shows r))) (passing : (x : X) → Fits x → passes terms params (back (cells x)) ≡ (key x == key new_row))
    (first : (r : Row) → id_in (rowid (output (pick table.tree terms project) (params ∷ r ∷ [])).1) ≡ id_in (rowid r))
    (made : (r : Row) (x : X) → shows r ≡ cells x → key x ≡ key new_row → rowid r ≡ Int (id_in (rowid r))
    → shows (cast_row table (drop 1 (output (pick table.tree terms project) (params ∷ r ∷ [])).1)) ≡ cells new_row) where
  abbrev changed : Row → Row
  changed r = cast_row table (drop 1 (output (pick table.tree terms project) (params ∷ r ∷ [])).1)

  abbrev change : Trees → List Row → Edit
  change old rows = edit_of old table (ids_of rows) Given 1 rows

  abbrev Held : List X → List Row → Type 0
  Held = HoldsRows shows cells key Fits

  -- the rows of the table that pass are that of the key
  matched : (xs : List X) (tree : List Row) → Held xs tree → map shows (filter (passes terms params) tree) ≡ map cells (cons_option (find (λ x. key x == key new_row) xs) [])
  matched xs tree holds =
      let same = held_filter shows cells (λ x. passes terms params (back (cells x))) (passes terms params) (λ c. passes terms params (back c)) xs tree reads (λ x. refl) holds.same in
      let by_key : filter (λ x. passes terms params (back (cells x))) xs ≡ cons_option (find (λ x. key x == key new_row) xs) [] =
      picked_alike shows cells key Fits (λ x. passes terms params (back (cells x))) (λ x. key x == key new_row) xs tree holds passing ∙ one_of_key key (key new_row) xs holds.ordered.distinct in
      few_permutation _ _ (few cells (find (λ x. key x == key new_row) xs)) (subst (λ l. IsPermutation (map cells l) (map shows (filter (passes terms params) tree))) by_key same)

  -- what is left where a step sets the row of the key
  pub set_over : (old next : Trees) (rows : List Row) (xs : List X) → Held xs (old table.tree) → Fits new_row → IsProgramAnswer [] (pick table.tree terms project) old params rows
      → Applies bank_schema Enforced old (change old rows) next → Held (set_row key new_row xs) (next table.tree)
  set_over old next rows xs holds fit answer step = go (find (λ x. key x == key new_row) xs) refl (matched xs (old table.tree) holds)
    where
      found_rows : List Row
      found_rows = filter (passes terms params) (old table.tree)

      picked_rows : IsPermutation (map (picked table.tree over terms project params) found_rows) rows
      picked_rows = picks table.tree over terms project params old rows answer

      names : Names (old table.tree) (passes terms params) (ids_of rows)
      names = picks_ids table.tree over terms project params first old rows holds.shaped answer

      go : (o : Option X) → find (λ x. key x == key new_row) xs ≡ o → map shows found_rows ≡ map cells (cons_option o []) → Held (set_row key new_row xs) (next table.tree)
      go None found none =
          let no_rows : rows ≡ [] = few_permutation [] rows (omega arith) (subst (λ l. IsPermutation (map (picked table.tree over terms project params) l) rows) (none_mapped shows found_rows none) picked_rows) in
          let now : next table.tree ≡ old table.tree = step.rows ∙ ap (λ rs. edited old (change old rs)) no_rows in
          subst (λ l. Held l (next table.tree)) (sym (set_row-absent key new_row xs found)) (subst (Held xs) (sym now) holds)
      go (Some x) found some =
          let one = one_mapped shows found_rows (cells x) some in
          let r = one.0 in
          let one_row : rows ≡ (output (pick table.tree terms project) (params ∷ r ∷ [])).1 ∷ [] =
          few_permutation _ rows (omega arith) (subst (λ l. IsPermutation (map (picked table.tree over terms project params) l) rows) one.1 picked_rows) in
          let here = (has_filtered (passes terms params) (old table.tree) r (subst (λ l. Has l r) (sym one.1) (inl refl))).0 in
          let ids = ids_of ((output (pick table.tree terms project) (params ∷ r ∷ [])).1 ∷ []) in
          let left : without_all (old table.tree) ids ≡ filter (λ y. not (passes terms params y)) (old table.tree) =
          taken_out (old table.tree) (passes terms params) ids holds.shaped (subst (λ rs. Names (old table.tree) (passes terms params) (ids_of rs)) one_row names) in
          let now : next table.tree ≡ put_row (changed r) (filter (λ y. not (passes terms params y)) (old table.tree)) = step.rows ∙ ap (λ rs. edited old (change old rs)) one_row ∙ ap (put_row (changed r)) left in
          let fresh : (not (is_taken (without_all (old table.tree) ids) (changed r)) && true) ≡ true = subst (λ rs. are_fresh (left_by old (change old rs)) (change old rs).news ≡ true) one_row step.fresh in
          let keyed : (is_int (rowid (changed r)) && true) ≡ true = subst (λ rs. have_rowids (change old rs).news ≡ true) one_row step.keyed in
          let free = subst (λ l. is_taken l (changed r) ≡ false) left (not_true _ (and_parts _ true fresh).0) in
          let is_new = made r x one.2 (found_row key (key new_row) xs x found).1 (rowid_is (old table.tree) r holds.shaped here) in
          subst (Held (set_row key new_row xs)) (sym now)
          (held_set shows cells key Fits new_row x (changed r) (passes terms params) (λ c. passes terms params (back c)) xs (old table.tree) holds found reads passing is_new (and_parts _ true keyed).0 free fit)

  pub sets_row : ((olds news : List Row) → works bank_schema Enforced 0 table.tree olds news ≡ []) → (old new : State) (xs : List X) (count : ℕ) → old.now.schema ≡ bank_schema
      → Held xs (old.now.trees table.tree) → Fits new_row → Executes sql params old new (Ok count) → Leaves shows cells key Fits table.tree (set_row key new_row xs) old new
  sets_row nothing old new xs count has holds fit h =
      let it = updates bank_schema sql params at table (record { lets = []; body = pick table.tree terms project }) plain there is old new count has h in
      let edit = change old.now.trees it.rows in
      let step : Applies bank_schema Enforced old.now.trees edit new.now.trees =
      one_step bank_schema Enforced old.now.trees new.now.trees edit (nothing (taken_by old.now.trees edit) edit.news) (subst (λ s. Writes s Enforced old.now.trees edit (Ok new.now.trees)) has it.writes) in
      record {
        schema = it.schema_is;
        sound = it.sound;
        rows = set_over old.now.trees new.now.trees it.rows xs holds fit it.answer.answer step;
        others = step.tables;
      }
