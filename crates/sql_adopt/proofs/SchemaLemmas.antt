-- One list of objects is that of one schema.
use Rattle.std.proofs.Common.{◌≡◌, ◌∙◌, ◌+◌, ℕ, pos, List, [], ◌∷◌, Some, Ok, true, false, filter, refl, sym, ap, subst, arith, Result}
use Rattle.std.specs.Prelude.{slice_get}
use Rattle.std.specs.List.{AllZip}
use Rattle.sqlite_value.specs.declared.value.Value.{Value}
use Rattle.sqlite_value.specs.declared.value.Value.TheVariants.{Null, Int, Real, Text, Blob}
use Rattle.sqlite_value.specs.Order.{Row, column}
use Rattle.sqlite_trees.specs.Objects.{catalog_tree}
use Rattle.sqlite_trees.specs.Tree.{IsAscending, Trees, rowid}
use Rattle.sqlite_schema.specs.declared.schema.Index.{Index}
use Rattle.sqlite_schema.specs.declared.schema.Schema.{Schema}
use Rattle.sqlite_schema.specs.declared.schema.Table.{Table}
use Rattle.sqlite_schema.specs.Names.{same_name}
use Rattle.sqlite_resolve.specs.Compile.{index_defined_by, table_defined_by}
use Rattle.sqlite_catalog.specs.Listing.{AreListed, IsDefined, IsIndexRow, IsSound, IsTableRow, IsViewRow, automatic, is_index_row, is_table_row, is_view_row}
use Rattle.sqlite_catalog.proofs.AlterLemmas.{numbers_differ}
use Rattle.sqlite_catalog.proofs.StepLemmas.{named_once, same_itself}

-- ---- parts of a row

same_tree : (row : Row) (m n : ℕ) → rowid row ≡ Int (pos (m + 1)) → rowid row ≡ Int (pos (n + 1)) → m ≡ n
same_tree row m n p q =
    let both : Int (pos (m + 1)) ≡ Int (pos (n + 1)) = sym p ∙ q in
    let ids : m + 1 ≡ n + 1 = cc in
    omega arith

same_text : (v : Value) (a b : List ℕ) → v ≡ Text a → v ≡ Text b → a ≡ b
same_text v a b p q = cc

same_made : {X E : Type 0} (r : Result X E) (a b : X) → r ≡ Ok a → r ≡ Ok b → a ≡ b
same_made r a b p q = cc

-- ---- tables

same_table : (row : Row) (s t : Table) → IsTableRow row s → IsTableRow row t → s ≡ t
same_table row s t p q =
    let tree = same_tree row s.tree t.tree p.described.id q.described.id in
    let text = same_text (column row 4) p.sql q.sql p.sql_is q.sql_is in
    let made = same_made (table_defined_by p.sql) p.defined.0 q.defined.0 p.defined.1 (ap table_defined_by text ∙ q.defined.1) in
    let again : ◌≡◌ {A = Table} (record p.defined.0 { tree = s.tree }) (record q.defined.0 { tree = t.tree }) = λ i. record (made i) { tree = tree i } in
    p.defined.2 ∙ again ∙ sym q.defined.2

-- ---- indexes

module _ (t : Table) (i j : Index) (name : i.name ≡ j.name) (tree : i.tree ≡ j.tree) where
  same_defined : (v : Value) → IsDefined t i v → IsDefined t j v → i ≡ j
  same_defined Null p q =
      let names = sym (ap (λ (x : Index). x.name) p.3) ∙ name ∙ ap (λ (x : Index). x.name) q.3 in
      let number = numbers_differ t p.0 q.0 p.4 q.4 (subst (λ n. same_name (automatic t p.0 [] 0).name n ≡ true) names (same_itself _)) in
      let keys : Some p.1 ≡ Some q.1 = sym p.2 ∙ ap (slice_get t.uniques) number ∙ q.2 in
      let key : p.1 ≡ q.1 = cc in
      let again : automatic t p.0 p.1 i.tree ≡ automatic t q.0 q.1 j.tree = λ k. automatic t (number k) (key k) (tree k) in
      p.3 ∙ again ∙ sym q.3
  same_defined (Int n) p q = absurd p
  same_defined (Real x) p q = absurd p
  same_defined (Text sql) p q =
      let made = same_made (index_defined_by t sql) p.0 q.0 p.1 q.1 in
      let again : ◌≡◌ {A = Index} (record p.0 { tree = i.tree; table = t.tree }) (record q.0 { tree = j.tree; table = t.tree }) = λ k. record (made k) { tree = tree k; table = t.tree } in
      p.2 ∙ again ∙ sym q.2
  same_defined (Blob b) p q = absurd p

same_index : (tables : List Table) → IsAscending (λ s t. same_name s.name t.name ≡ false) tables → (row : Row) (i j : Index) → IsIndexRow tables row i → IsIndexRow tables row j → i ≡ j
same_index tables apart row i j p q =
    let owner = same_text (column row 3) p.table.name q.table.name p.described.owner_is q.described.owner_is in
    let table = named_once tables p.table q.table apart p.listed q.listed (subst (λ n. same_name p.table.name n ≡ true) owner (same_itself p.table.name)) in
    same_defined q.table i j (same_text (column row 2) i.name j.name p.described.name_is q.described.name_is) (same_tree row i.tree j.tree p.described.id q.described.id)
    (column row 4) (subst (λ t. IsDefined t i (column row 4)) table p.defined) q.defined

-- ---- all of them

module _ {A B : Type 0} (R S : A → B → Type 0) where
  same_zipped : ((x : A) (y z : B) → R x y → S x z → y ≡ z) → (xs : List A) (ys zs : List B) → AllZip R xs ys → AllZip S xs zs → ys ≡ zs
  same_zipped same [] [] [] p q = refl
  same_zipped same [] [] (z ∷ zs) p q = absurd q
  same_zipped same [] (y ∷ ys) zs p q = absurd p
  same_zipped same (x ∷ xs) [] zs p q = absurd p
  same_zipped same (x ∷ xs) (y ∷ ys) [] p q = absurd q
  same_zipped same (x ∷ xs) (y ∷ ys) (z ∷ zs) p q = λ i. same x y z p.0 q.0 i ∷ same_zipped same xs ys zs p.1 q.1 i

  none_zipped : (xs : List A) (zs : List B) → AllZip R xs [] → AllZip S xs zs → [] ≡ zs
  none_zipped [] [] p q = refl
  none_zipped [] (z ∷ zs) p q = absurd q
  none_zipped (x ∷ xs) zs p q = absurd p

same_listed : (objects : List Row) (s t : Schema) → s.views ≡ [] → AreListed objects s → AreListed objects t → s ≡ t
same_listed objects s t none p q =
    let tables = same_zipped IsTableRow IsTableRow same_table (filter is_table_row objects) s.tables t.tables p.tables q.tables in
    let indexes = same_zipped (IsIndexRow t.tables) (IsIndexRow t.tables) (same_index t.tables q.named) (filter is_index_row objects) s.indexes t.indexes
    (subst (λ ts. AllZip (IsIndexRow ts) (filter is_index_row objects) s.indexes) tables p.indexes) q.indexes in
    let views = none ∙ none_zipped IsViewRow IsViewRow (filter is_view_row objects) t.views (subst (AllZip IsViewRow (filter is_view_row objects)) none p.views) q.views in
    λ i. record { tables = tables i; indexes = indexes i; views = views i }

-- trees list one schema, where that has no view
pub one_schema : (s t : Schema) (db : Trees) → s.views ≡ [] → IsSound s db → IsSound t db → s ≡ t
one_schema s t db none p q = same_listed (db catalog_tree) s t none p.lists.listed q.lists.listed
