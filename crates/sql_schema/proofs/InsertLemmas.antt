-- INSERT of one row: it is new by its rowid or by the index of its key, and stands among the rows.
use Rattle.std.proofs.Common.{Some, ◌≡◌, ◌≢◌, ℕ, ◌+◌, ◌*◌, ◌^◌, ◌<◌, ℤ, pos, List, [], ◌∷◌, drop, Bool, true, false, not, ◌&&◌, Contains, IsTrue, refl, ap, arith, sym, ◌∙◌, subst, is_eq, Ordering, Less, Equal, Greater}
use Rattle.std.specs.Ordering.{is_ne}
use Rattle.std.proofs.lemmas.Bool.{and_parts, false≢true}
use Rattle.std.proofs.lemmas.Cmp.{tied_itself}
use Rattle.sqlite.specs.declared.types.Value.TheVariants.{Null, Int}
use Rattle.sqlite.specs.Order.{Row}
use Rattle.sqlite.specs.Table.{Table}
use Rattle.sqlite.specs.Tree.{Trees}
use Rattle.sqlite.specs.Edit.{edit_of}
use Rattle.sqlite.specs.Rowids.TheVariants.{Chosen}
use Rattle.sqlite_rules.specs.Edit.{Applies, are_fresh, have_rowids, id_in, is_taken, put_all}
use Rattle.sqlite_rules.specs.Lists.{Has}
use Rattle.sqlite_rules.proofs.ListLemmas.{all_has, some_from, test_has}
use Rattle.sqlite_rules.proofs.RuleLemmas.{keeps_at}
use Rattle.sqlite_rules.proofs.TableLemmas.{has_put, int_is, put_all_keeps}
use Rattle.sqlite_schema.specs.declared.schema.Constraint.TheVariants.{Unique}
use Rattle.sqlite_schema.specs.declared.schema.Index.{Index}
use Rattle.sqlite_schema.specs.declared.schema.Keys.TheVariants.{Enforced}
use Rattle.sqlite_schema.specs.Rules.{Fits as IsFit, agree, clashes, differ, equal, guards}
use Rattle.sqlite_sql.specs.Ops.{binary, is_true, from_truth}
use Rattle.sqlite_trees.specs.Tree.{put_row, rowid}
use Rattle.sqlite_trees.specs.View.{is_int}
use Rattle.sqlite_value.specs.declared.keys.Collation.{Collation}
use Rattle.sqlite_value.specs.declared.keys.Collation.TheVariants.{Binary, NoCase, RTrim}
use Rattle.sqlite_value.specs.declared.keys.Order.{Order}
use Rattle.sqlite_value.specs.Keys.{first_key, later}
use Rattle.sqlite_value.specs.Order.{column, value_cmp}
use Rattle.sqlite_value.proofs.OrderLemmas.{value_cmp_total}
use Rattle.sqlite_keyed.proofs.ListLemmas.{none_from_any}
use Rattle.keyed_rows.specs.Ordered.{add_row}
use Rattle.sql_schema.specs.HeldRows.{HoldsRows, all_but_rowid, all_of_it}
use Rattle.sql_schema.specs.Schema.{bank_schema}
use Rattle.sql_schema.proofs.HeldLemmas.{held_added, row_of}

not_true : (b : Bool) → not b ≡ true → b ≡ false
not_true true h = absurd cc
not_true false h = refl

-- ---- one row more in the tree

pub record IsPut (table : Table) (row : Row) (old new : Trees) : Type 0 where
  pub now : new table.tree ≡ put_row row (old table.tree)
  pub free : is_taken (old table.tree) row ≡ false
  pub keyed : IsTrue (is_int (rowid row))
  pub fit : IsFit bank_schema new

pub puts : (table : Table) (row : Row) (rows : List Row) (old new : Trees) → Applies bank_schema Enforced old (edit_of old table [] Chosen 0 rows) new → (edit_of old table [] Chosen 0 rows).news ≡ row ∷ [] → IsPut table row old new
puts table row rows old new applies news =
    let fresh : (not (is_taken (old table.tree) row) && true) ≡ true = subst (λ rs. are_fresh (old table.tree) rs ≡ true) news applies.fresh in
    let keyed : (is_int (rowid row) && true) ≡ true = subst (λ rs. have_rowids rs ≡ true) news applies.keyed in
    record {
      now = applies.rows ∙ ap (put_all (old table.tree)) news;
      free = not_true _ (and_parts _ true fresh).0;
      keyed = (and_parts _ true keyed).0;
      fit = applies.fits;
    }

-- ---- that no row had its key

module _ {X : Type 0} (cells : X → Row) (key : X → ℕ) (Fits : X → Type 0) (keyed : (x : X) → column (cells x) 0 ≡ Int (pos (key x))) where
  -- since no row had its rowid
  pub apart_by_rowid : (x : X) (xs : List X) (tree : List Row) → HoldsRows all_of_it cells key Fits xs tree → is_taken tree (cells x) ≡ false → (y : X) → Contains xs y → key y ≢ key x
  apart_by_rowid x xs tree holds free y there = λ same.
      let r = row_of all_of_it cells key Fits xs tree holds y there in
      let one : rowid r.0 ≡ rowid (cells x) = ap rowid r.2 ∙ keyed y ∙ ap (λ k. Int (pos k)) same ∙ sym (keyed x) in
      let tied : value_cmp (rowid r.0) (rowid (cells x)) ≡ Equal = ap (λ v. value_cmp v (rowid (cells x))) one ∙ tied_itself value_cmp_total (rowid (cells x)) in
      absurd (false≢true (sym free ∙ some_from (λ z. is_eq (value_cmp (rowid z) (rowid (cells x)))) tree r.0 r.1 (ap is_eq tied)))

truth_back : (b : Bool) → is_true (from_truth (Some b)) ≡ b
truth_back true = refl
truth_back false = refl

unequal : (o : Ordering) → is_eq o ≡ false → is_ne o ≡ true
unequal Less h = refl
unequal Equal h = absurd cc
unequal Greater h = refl

ints_differ : (m n : ℤ) → is_eq (value_cmp (Int m) (Int n)) ≡ false → differ (Int m) (Int n) ≡ true
unfolding binary
ints_differ m n apart = truth_back _ ∙ unequal (value_cmp (Int m) (Int n)) apart

rows_differ : (a b : Row) → IsTrue (is_int (rowid a)) → IsTrue (is_int (rowid b)) → is_eq (value_cmp (rowid a) (rowid b)) ≡ false → differ (rowid a) (rowid b) ≡ true
rows_differ a b p q apart =
    let m = int_is (rowid a) p in
    let n = int_is (rowid b) q in
    (λ i. differ (m i) (n i)) ∙ ints_differ (id_in (rowid a)) (id_in (rowid b)) ((λ i. is_eq (value_cmp (sym m i) (sym n i))) ∙ apart)

module _ {X : Type 0} (cells : X → Row) (key : X → ℕ) (Fits : X → Type 0) (table : Table) (index : Index)
    (listed : Has bank_schema.tables table) (indexed : Has bank_schema.indexes index) (guarding : guards index table ≡ true)
    (blind : (r s : Row) → agree index.order index.columns r index.columns s ≡ agree index.order index.columns (Null ∷ drop 1 r) index.columns (Null ∷ drop 1 s))
    (alike : (x y : X) → Fits x → Fits y → key x ≡ key y → agree index.order index.columns (Null ∷ cells x) index.columns (Null ∷ cells y) ≡ true) where
  unclashed : (old new : Trees) (row : Row) → IsPut table row old new → clashes index.order index.columns (new table.tree) row ≡ false
  unclashed old new row put =
      let there : Has (new table.tree) row = subst (λ rows. Has rows row) (sym put.now) (has_put row (old table.tree)) in
      let kept = keeps_at Unique bank_schema new table row (put.fit.rules Unique (λ e. cc)) listed there in
      not_true _ (subst (λ b. not (b && clashes index.order index.columns (new table.tree) row) ≡ true) guarding
      (test_has (λ i. not (guards i table && clashes i.order i.columns (new table.tree) row)) bank_schema.indexes index kept indexed))

  -- since the index lets no other row agree with it
  pub apart_by_index : (old new : Trees) (row : Row) (x : X) (xs : List X) → IsPut table row old new → drop 1 row ≡ cells x → Fits x → HoldsRows all_but_rowid cells key Fits xs (old table.tree)
      → (y : X) → Contains xs y → key y ≢ key x
  apart_by_index old new row x xs put is fit holds y there = λ same.
      let r = row_of all_but_rowid cells key Fits xs (old table.tree) holds y there in
      let apart = all_has (λ z. is_eq (value_cmp (rowid z) (rowid row)) ≡ false) (old table.tree) r.0 (none_from_any (λ z. is_eq (value_cmp (rowid z) (rowid row))) (old table.tree) put.free) r.1 in
      let agrees : agree index.order index.columns r.0 index.columns row ≡ true =
      blind r.0 row ∙ (λ i. agree index.order index.columns (Null ∷ r.2 i) index.columns (Null ∷ is i)) ∙ alike y x (holds.fit y there) fit same in
      let differs = rows_differ r.0 row (all_has (λ z. IsTrue (is_int (rowid z))) (old table.tree) r.0 holds.shaped.1 r.1) put.keyed apart in
      let still : Has (new table.tree) r.0 = subst (λ rows. Has rows r.0) (sym put.now) (put_all_keeps (row ∷ []) (old table.tree) r.0 (ap (λ b. not b && true) put.free) r.1) in
      absurd (false≢true (sym (unclashed old new row put)
      ∙ some_from (λ z. agree index.order index.columns z index.columns row && differ (rowid z) (rowid row)) (new table.tree) r.0 still (λ i. agrees i && differs i)))

-- ---- rows that agree in the columns of a key

equal_itself : (how : Collation) (n : ℕ) → equal how (Int (pos n)) (Int (pos n)) ≡ true
unfolding binary
equal_itself Binary n = truth_back _ ∙ ap is_eq (tied_itself value_cmp_total (Int (pos n)))
equal_itself NoCase n = truth_back _ ∙ ap is_eq (tied_itself value_cmp_total (Int (pos n)))
equal_itself RTrim n = truth_back _ ∙ ap is_eq (tied_itself value_cmp_total (Int (pos n)))

columns_agree : (how : Collation) (m n : ℕ) → m ≡ n → equal how (Int (pos m)) (Int (pos n)) ≡ true
columns_agree how m n same = ap (λ k. equal how (Int (pos k)) (Int (pos n))) same ∙ equal_itself how n

pub two_agree : (o : Order) (a b m n : ℕ) → a ≡ m → b ≡ n
    → (equal (first_key o).collation (Int (pos a)) (Int (pos m)) && (equal (first_key (later o)).collation (Int (pos b)) (Int (pos n)) && true)) ≡ true
two_agree o a b m n p q = λ i. columns_agree (first_key o).collation a m p i && (columns_agree (first_key (later o)).collation b n q i && true)

pub three_agree : (o : Order) (a b c m n l : ℕ) → a ≡ m → b ≡ n → c ≡ l
    → (equal (first_key o).collation (Int (pos a)) (Int (pos m)) && (equal (first_key (later o)).collation (Int (pos b)) (Int (pos n)) && (equal (first_key (later (later o))).collation (Int (pos c)) (Int (pos l)) && true))) ≡ true
three_agree o a b c m n l p q r = λ i. columns_agree (first_key o).collation a m p i && two_agree (later o) b c n l q r i

-- the parts of a key
pub parts_of : (a b m n : ℕ) → b < 2 ^ 32 → n < 2 ^ 32 → 2 ^ 32 * a + b ≡ 2 ^ 32 * m + n → (a ≡ m) × (b ≡ n)
parts_of a b m n p q e = (omega (arith, p, q, e), omega (arith, p, q, e))

-- ---- the rows with it

module _ {X : Type 0} (cells : X → Row) (key : X → ℕ) (Fits : X → Type 0) (table : Table) where
  pub adds_by_rowid : (keyed : (x : X) → column (cells x) 0 ≡ Int (pos (key x))) (old new : Trees) (x : X) (xs : List X) → IsPut table (cells x) old new → Fits x
      → HoldsRows all_of_it cells key Fits xs (old table.tree) → HoldsRows all_of_it cells key Fits (add_row key x xs) (new table.tree)
  adds_by_rowid keyed old new x xs put fit holds =
      subst (HoldsRows all_of_it cells key Fits (add_row key x xs)) (sym put.now)
      (held_added all_of_it cells key Fits x (cells x) xs (old table.tree) holds refl put.keyed put.free fit (apart_by_rowid cells key Fits keyed x xs (old table.tree) holds put.free))

  pub adds_by_columns : (old new : Trees) (row : Row) (x : X) (xs : List X) → IsPut table row old new → drop 1 row ≡ cells x → Fits x → ((y : X) → Contains xs y → key y ≢ key x)
      → HoldsRows all_but_rowid cells key Fits xs (old table.tree) → HoldsRows all_but_rowid cells key Fits (add_row key x xs) (new table.tree)
  adds_by_columns old new row x xs put is fit apart holds =
      subst (HoldsRows all_but_rowid cells key Fits (add_row key x xs)) (sym put.now) (held_added all_but_rowid cells key Fits x row xs (old table.tree) holds is put.keyed put.free fit apart)
