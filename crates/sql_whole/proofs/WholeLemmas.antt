-- What a query for a whole table shows: a row for each row of the table, in order of key.
use Rattle.std.proofs.Common.{◌≡◌, ◌<◌, ◌+◌, ℕ, List, [], ◌∷◌, map, filter, length, drop, Bool, true, false, Contains, Some, Ok, Err, Result, IsPermutation, Less, inl, inr, ◌&&◌, ◌⊎◌, refl, ap, ap₂, sym, subst, arith, ◌∙◌}
use Rattle.std.specs.List.{AllByRecursion}
use Rattle.std.proofs.lemmas.List.Sorted.{IsPermutation-map, IsPermutation-sym}
use Rattle.sqlite.specs.declared.types.Value.TheVariants.{Null}
use Rattle.sqlite.specs.Command.TheVariants.{Select}
use Rattle.sqlite.specs.Listing.{understood, reads_listing}
use Rattle.sqlite.specs.Order.{Row}
use Rattle.sqlite.specs.Program.{overlay}
use Rattle.sqlite.specs.Query.{Query, output, Output}
use Rattle.sqlite.specs.State.{State, Shown}
use Rattle.sqlite.specs.Term.{Term}
use Rattle.sqlite.specs.Tree.{Trees}
use Rattle.sqlite.proofs.Callers.{IsPlain, command_of, reads_as}
use Rattle.sqlite_keyed.proofs.ListLemmas.{map-map, filter_all, all_of}
use Rattle.sqlite_resolve.specs.declared.compiled.Compiled.{Compiled}
use Rattle.sqlite_resolve.specs.declared.error.CompileError.{CompileError}
use Rattle.sqlite_rules.specs.Lists.{Has}
use Rattle.sqlite_rules.proofs.ListLemmas.{all_has, contains_had}
use Rattle.sqlite_schema.specs.Rules.{Obeys, passes as passes_rule, are_present, are_typed}
use Rattle.sqlite_schema.specs.declared.schema.Constraint.TheVariants.{Datatype, NotNull}
use Rattle.sqlite_schema.specs.declared.schema.Table.{Table}
use Rattle.sqlite_sql.specs.Program.{IsProgramAnswer, ProgramOverflows}
use Rattle.sqlite_sql.specs.Query.{output_cmp}
use Rattle.sqlite_typing.specs.Types.{accepts_program}
use Rattle.sqlite_value.specs.declared.keys.Key.{Key}
use Rattle.sqlite_value.specs.Order.{column}
use Rattle.sql_schema.specs.Held.{IsIn, Sheet, tree_of}
use Rattle.sql_schema.specs.HeldRows.{HoldsRows, all_but_rowid, all_of_it}
use Rattle.sql_schema.specs.Schema.{schema_of}
use Rattle.sql_schema.specs.declared.edition.Edition.{Edition}
use Rattle.sql_schema.specs.ReadBack.{columns_from, stored_by_columns, stored_by_rowid}
use Rattle.sql_schema.proofs.ReadLemmas.{in_order_of_fitting, no_limit, no_offset}
use Rattle.sql_schema.proofs.ScanLemmas.{passes, scan, scanned}
use Rattle.sql_schema.proofs.StepLemmas.{shown_open}
use Rattle.sql_whole.specs.Whole.{AreAll, HasBankTables, IsAlone, IsAnswered, IsQueryFor, TellsWhole}
use Rattle.sql_whole.proofs.WidthLemmas.{columns_after, columns_by_key, ends_needed, no_narrower, no_wider}

-- ---- the rules of one table

abbrev pub IsOfTable : Table → List Row → Type 0
IsOfTable table tree = (row : Row) → Has tree row → (are_typed table.key 0 table.columns (drop 1 row) ≡ true) × (are_present table.key 0 table.columns row ≡ true)

first_true : (a b : Bool) → (a && b) ≡ true → a ≡ true
first_true true b h = refl
first_true false b h = absurd cc

pub of_table : (e : Edition) (db : Trees) (table : Table) → Obeys (schema_of e) db → Has (schema_of e).tables table → IsOfTable table (db table.tree)
of_table e db table obeys listed row there =
    let typed = all_has (λ r. passes_rule Datatype (schema_of e) db table r ≡ true) (db table.tree) row (all_has (λ t. AllByRecursion (λ r. passes_rule Datatype (schema_of e) db t r ≡ true) (db t.tree)) (schema_of e).tables table (obeys.rules Datatype) listed) there in
    let present = all_has (λ r. passes_rule NotNull (schema_of e) db table r ≡ true) (db table.tree) row (all_has (λ t. AllByRecursion (λ r. passes_rule NotNull (schema_of e) db t r ≡ true) (db t.tree)) (schema_of e).tables table (obeys.rules NotNull) listed) there in
    (first_true _ _ typed, present)

-- ---- all rows

abbrev pub whole_scan : ℕ → List Term → List (Term × Key) → Query
whole_scan tree project order = scan tree [] project order no_limit no_offset

map_alike : {X Y : Type 0} (f g : X → Y) (xs : List X) → ((x : X) → Has xs x → f x ≡ g x) → map f xs ≡ map g xs
map_alike f g [] same = refl
map_alike f g (x ∷ xs) same = ap₂ (λ y ys. y ∷ ys) (same x (inl refl)) (map_alike f g xs (λ y h. same y (inr h)))

module _ (tree : ℕ) (over : (db : Trees) → overlay db [] tree ≡ db tree) (project : List Term) (order : List (Term × Key)) where
  abbrev q : Query
  q = whole_scan tree project order

  -- each row of the table once, in some order
  pub all_shown : (db : Trees) (rows : List Row) → IsProgramAnswer [] q db [] rows → IsPermutation (map (λ r. (output q ([] ∷ r ∷ [])).1) (db tree)) rows
  all_shown db rows h =
      let s = scanned tree [] project order no_limit no_offset db [] rows (over db) h in
      let every : filter (passes [] []) (db tree) ≡ db tree = filter_all (passes [] []) (db tree) (all_of (λ r. passes [] [] r ≡ true) (λ _. refl) (db tree)) in
      let one : map (output q) (map (λ r. [] ∷ r ∷ []) (filter (passes [] []) (db tree))) ≡ map (λ r. output q ([] ∷ r ∷ [])) (db tree) =
      ap (λ rs. map (output q) (map (λ r. [] ∷ r ∷ []) rs)) every ∙ map-map (output q) (λ r. [] ∷ r ∷ []) (db tree) in
      let moved = IsPermutation-map (λ (o : Output). o.1) _ _ (subst (λ l. IsPermutation l s.0) one s.1) in
      subst (IsPermutation (map (λ r. (output q ([] ∷ r ∷ [])).1) (db tree))) (sym s.3) (subst (λ l. IsPermutation l (map (λ (o : Output). o.1) s.0)) (map-map (λ (o : Output). o.1) (λ r. output q ([] ∷ r ∷ [])) (db tree)) moved)

  -- so the rows of the answer represent the rows of the table, where each of them represents its own
  pub all_read : (shows stated : Row → Row) (db : Trees) (rows : List Row) → ((r : Row) → Has (db tree) r → stated (output q ([] ∷ r ∷ [])).1 ≡ shows r) → IsProgramAnswer [] q db [] rows
      → IsPermutation (map stated rows) (map shows (db tree))
  all_read shows stated db rows tells h =
      let read = IsPermutation-map stated _ _ (all_shown db rows h) in
      IsPermutation-sym _ _ (subst (λ l. IsPermutation l (map stated rows)) (map-map stated (λ r. (output q ([] ∷ r ∷ [])).1) (db tree) ∙ map_alike (λ r. stated (output q ([] ∷ r ∷ [])).1) shows (db tree) tells) read)

-- ---- in order of key

-- Of two rows that fit, the query shows the one with the lower key first. `row` gives the row of a table as the query sees it.
abbrev pub ComesInOrder : {X : Type 0} → (X → Row) → (X → ℕ) → (X → Type 0) → Query → Type 0
ComesInOrder {X = X} row key Fits q = (x y : X) → Fits x → Fits y → key x < key y → output_cmp q (output q ([] ∷ row x ∷ [])) (output q ([] ∷ row y ∷ [])) ≡ Less

module _ {X : Type 0} (shows back stated : Row → Row) (cells : X → Row) (key : X → ℕ) (Fits : X → Type 0) (tree : ℕ) (over : (db : Trees) → overlay db [] tree ≡ db tree) (project : List Term) (order : List (Term × Key))
    (reads : (r : Row) → output (whole_scan tree project order) ([] ∷ r ∷ []) ≡ output (whole_scan tree project order) ([] ∷ back (shows r) ∷ []))
    (tells : (x : X) → stated (output (whole_scan tree project order) ([] ∷ back (cells x) ∷ [])).1 ≡ cells x) where
  -- the rows of the answer represent the rows that the table holds, in their order
  pub stated_in_order : ComesInOrder (λ x. back (cells x)) key Fits (whole_scan tree project order) → (db : Trees) (xs : List X) (rows : List Row) → HoldsRows shows cells key Fits xs (db tree)
      → IsProgramAnswer [] (whole_scan tree project order) db [] rows → map stated rows ≡ map cells xs
  stated_in_order rises db xs rows holds h =
      let shown : X → Row = λ x. (output (whole_scan tree project order) ([] ∷ back (cells x) ∷ [])).1 in
      let every : filter (λ _. true) xs ≡ xs = filter_all (λ _. true) xs (all_of (λ _. true ≡ true) (λ _. refl) xs) in
      ap (map stated) (in_order_of_fitting shows back cells key Fits tree over [] project order no_limit no_offset [] (λ _. true) (λ r. (refl, reads r)) (λ x. refl) db xs rows holds h rises)
      ∙ map-map stated shown (filter (λ _. true) xs) ∙ (λ i. map (λ x. tells x i) (every i))

-- the query does not read the rowid
abbrev pub ReadsNoRowid : Query → Type 0
ReadsNoRowid q = (r : Row) → output q ([] ∷ r ∷ []) ≡ output q ([] ∷ (Null ∷ drop 1 r) ∷ [])

-- ---- the row of the table that a row of an answer represents

width : (table : Table) (row : Row) → are_typed table.key 0 table.columns (drop 1 row) ≡ true → length table.columns < length row → length row ≡ length table.columns + 1
width table [] typed long = absurd (omega (arith, long))
width table (id ∷ values) typed long = let most = no_wider table.key 0 table.columns values typed in omega (arith, most, long)

-- of a table that has a key of several columns
pub tells_columns : (table : Table) (row : Row) → ends_needed table.key 0 table.columns ≡ true → (are_typed table.key 0 table.columns (drop 1 row) ≡ true) × (are_present table.key 0 table.columns row ≡ true)
    → columns_from 1 (length table.columns) row ≡ all_but_rowid row
tells_columns table row need fits =
    let long = no_narrower table.key 0 table.columns row need fits.1 in
    columns_after row (length table.columns) (width table row fits.0 (omega (arith, long)))

-- of a table whose key is its rowid, its first column
pub tells_key : (table : Table) (row : Row) (more : ℕ) → table.key ≡ Some 0 → length table.columns ≡ more + 1 → length table.columns < length row
    → (are_typed table.key 0 table.columns (drop 1 row) ≡ true) × (are_present table.key 0 table.columns row ≡ true) → column row 0 ∷ Null ∷ columns_from 2 more row ≡ all_of_it row
tells_key table row more keyed wide long fits =
    let is = width table row fits.0 long in
    columns_by_key row more table.columns (omega (arith, is, wide)) (subst (λ k. are_typed k 0 table.columns (drop 1 row) ≡ true) keyed fits.0) (omega (arith, wide))

-- ---- the text of a query for a whole table

-- what is computed of it
abbrev pub IsScanOf : Edition → List ℕ → ℕ → List Term → List (Term × Key) → List (List ℕ) → Type 0
IsScanOf e text tree columns order names =
    (command_of (understood (schema_of e) text) ≡ Select (record { lets = []; body = whole_scan tree columns order }) names) × (reads_listing (schema_of e) text ≡ false)
    × IsPlain (understood (schema_of e) text) × IsAlone (length text) (understood (schema_of e) text) × (accepts_program (schema_of e) [] (whole_scan tree columns order) [] ≡ true)

known : (query : Query) (names : List (List ℕ)) (r : Result Compiled CompileError) → IsQueryFor query names r → command_of r ≡ Select (record { lets = []; body = query }) names
known query names (Ok c) is = is
known query names (Err e) is = absurd is

query_for : (query : Query) (names : List (List ℕ)) (r : Result Compiled CompileError) → command_of r ≡ Select (record { lets = []; body = query }) names → IsPlain r → IsQueryFor query names r
query_for query names (Ok c) is plain = is
query_for query names (Err e) is plain = absurd plain

adds_nothing : (tree : ℕ) (columns : List Term) (order : List (Term × Key)) (db : Trees) → ProgramOverflows db [] [] [] (whole_scan tree columns order) → ⊥
adds_nothing tree columns order db (inl none) = none
adds_nothing tree columns order db (inr any) = any.4

abbrev answers : (e : Edition) (text : List ℕ) (tree : ℕ) (columns : List Term) (order : List (Term × Key)) (names : List (List ℕ)) → IsScanOf e text tree columns order names → IsAnswered e text
answers e text tree columns order names is = record {
  query = whole_scan tree columns order;
  names = names;
  is = query_for (whole_scan tree columns order) names (understood (schema_of e) text) is.0 is.2;
  unlisted = is.1;
  plain = is.2;
  alone = is.3;
  typed = is.4;
  adds_nothing = adds_nothing tree columns order;
}

-- ---- the clauses of a read

module _ {X : Type 0} (e : Edition) (shows stated : Row → Row) (cells : X → Row) (key : X → ℕ) (fits : X → Type 0) (t : Sheet) (text : List ℕ) (tells : TellsWhole e shows stated cells key fits t text) where
  is_answer : (old new : State) (rows : List Row) → HasBankTables e old → Shown text [] old new rows → IsProgramAnswer [] tells.asks.query old.now.trees [] rows
  is_answer old new rows has h =
      let asks = tells.asks in
      (reads_as text [] old new (schema_of e) has.schema (Select (record { lets = []; body = asks.query }) asks.names) (known asks.query asks.names (understood (schema_of e) text) asks.is) asks.plain asks.unlisted rows h).answer

  -- the rows of an answer represent the rows of the table
  pub all_answered : (old new : State) (rows : List Row) → HasBankTables e old → Shown text [] old new rows → IsPermutation (map stated rows) (map shows (old.now.trees (tree_of t)))
  all_answered old new rows has h =
      let sound = has.sound (shown_open text [] old new rows h) in
      tells.whole old.now.trees rows (subst (λ z. Obeys z old.now.trees) has.schema sound.obeys) (has.kept t tells.inside) (is_answer old new rows has h)

  -- in order of their keys
  pub in_order_answered : (old new : State) (rows : List Row) (xs : List X) → HasBankTables e old → HoldsRows shows cells key fits xs (old.now.trees (tree_of t)) → Shown text [] old new rows → map stated rows ≡ map cells xs
  in_order_answered old new rows xs has held h = tells.ordered old.now.trees xs rows held (is_answer old new rows has h)

  pub are_all : (old new : State) (rows : List Row) (xs : List X) → HasBankTables e old → Shown text [] old new rows → map stated rows ≡ map cells xs → ((x : X) → Contains xs x → fits x)
      → AreAll shows cells key fits t old.now.trees xs
  are_all old new rows xs has h same fit = record {
    same = subst (λ l. IsPermutation l (map shows (old.now.trees (tree_of t)))) same (all_answered old new rows has h);
    fit = fit;
    in_order = λ held holds. sym same ∙ in_order_answered old new rows held has holds h;
  }

-- the query is plain on a connection to the tables of a bank
pub plain_there : (e : Edition) (text : List ℕ) (s : State) → IsPlain (understood (schema_of e) text) → HasBankTables e s → IsPlain (understood s.now.schema text)
plain_there e text s plain has = subst (λ z. IsPlain (understood z text)) (sym has.schema) plain

-- ---- the queries for whole tables

module _ {X : Type 0} (e : Edition) (cells : X → Row) (key : X → ℕ) (Fits : X → Type 0) (t : Sheet) (inside : IsIn e t) (table : Table) (text : List ℕ) (columns : List Term) (order : List (Term × Key)) (names : List (List ℕ)) (count : ℕ)
    (is : IsScanOf e text (tree_of t) columns order names) (listed : Has (schema_of e).tables table) (place : table.tree ≡ tree_of t) (over : (db : Trees) → overlay db [] (tree_of t) ≡ db (tree_of t)) where
  there : (db : Trees) (row : Row) → Has (db (tree_of t)) row → Has (db table.tree) row
  there db row h = subst (λ n. Has (db n) row) (sym place) h

  -- of a table whose rowid is its key, with n columns beside; the row is wide enough where the last column may not be missing, or there is none beside the key
  pub by_rowid_whole : table.key ≡ Some 0 → length table.columns ≡ count + 1 → (count ≡ 0) ⊎ (ends_needed table.key 0 table.columns ≡ true)
      → ((r : Row) → stored_by_rowid count (output (whole_scan (tree_of t) columns order) ([] ∷ r ∷ [])).1 ≡ column r 0 ∷ Null ∷ columns_from 2 count r)
      → ((x : X) → column (cells x) 0 ∷ Null ∷ columns_from 2 count (cells x) ≡ cells x) → ComesInOrder cells key Fits (whole_scan (tree_of t) columns order)
      → TellsWhole e all_of_it (stored_by_rowid count) cells key Fits t text
  by_rowid_whole keyed wide need stated same rises = record {
    inside = inside;
    asks = answers e text (tree_of t) columns order names is;
    whole = λ db answer obeys kept h. all_read (tree_of t) over columns order all_of_it (stored_by_rowid count) db answer
        (λ r here.
        let fits = of_table e db table obeys listed r (there db r here) in
        stated r ∙ tells_key table r count keyed wide (long r (kept.beside r (contains_had _ r here)) fits.1 need) fits)
        h;
    ordered = stated_in_order all_of_it (λ r. r) (stored_by_rowid count) cells key Fits (tree_of t) over columns order (λ r. refl) (λ x. stated (cells x) ∙ same x) rises;
  }
    where
      long : (r : Row) → 1 < length r → are_present table.key 0 table.columns r ≡ true → (count ≡ 0) ⊎ (ends_needed table.key 0 table.columns ≡ true) → length table.columns < length r
      long r beside present (inl none) = omega (arith, none, wide, beside)
      long r beside present (inr need) = let wide = no_narrower table.key 0 table.columns r need present in omega (arith, wide)

  -- of any other table, with n columns
  pub by_columns_whole : length table.columns ≡ count → ends_needed table.key 0 table.columns ≡ true
      → ((r : Row) → stored_by_columns count (output (whole_scan (tree_of t) columns order) ([] ∷ r ∷ [])).1 ≡ columns_from 1 count r) → ReadsNoRowid (whole_scan (tree_of t) columns order)
      → ((x : X) → columns_from 1 count (Null ∷ cells x) ≡ cells x) → ComesInOrder (λ x. Null ∷ cells x) key Fits (whole_scan (tree_of t) columns order)
      → TellsWhole e all_but_rowid (stored_by_columns count) cells key Fits t text
  by_columns_whole wide need stated reads same rises = record {
    inside = inside;
    asks = answers e text (tree_of t) columns order names is;
    whole = λ db answer obeys kept h. all_read (tree_of t) over columns order all_but_rowid (stored_by_columns count) db answer
        (λ r here. stated r ∙ ap (λ n. columns_from 1 n r) (sym wide) ∙ tells_columns table r need (of_table e db table obeys listed r (there db r here)))
        h;
    ordered = stated_in_order all_but_rowid (λ r. Null ∷ r) (stored_by_columns count) cells key Fits (tree_of t) over columns order reads (λ x. stated (Null ∷ cells x) ∙ same x) rises;
  }
