-- What becomes of the rows that a table holds where rows are picked, added or taken out.
use Rattle.std.proofs.Common.{◌≡◌, ◌≢◌, ℕ, ◌<◌, ℤ, pos, List, [], ◌∷◌, map, filter, Bool, true, false, not, cond, refl, ap, arith, sym, ◌∙◌, subst, ◌==◌, ◌||◌, Some, Contains, IsPermutation, IsTrue, inl, inr, is_eq, int_cmp, Ordering, Less, Equal, Greater}
use Rattle.std.specs.Prelude.{if◌then◌else◌, option_map}
use Rattle.std.specs.List.{cons_option, find, list_any}
use Rattle.std.specs.Ordering.{match_ordering}
use Rattle.std.proofs.lemmas.Bool.{false≢true}
use Rattle.std.proofs.lemmas.Bool.Decides.{nat_tests}
use Rattle.std.proofs.lemmas.Cmp.{tied_back, tied_itself}
use Rattle.std.proofs.lemmas.List.Kept.{IsNonDecreasingBy-filter}
use Rattle.std.proofs.lemmas.List.Sorted.{Contains-permutation, IsPermutation-refl, IsPermutation-cons, IsPermutation-trans, IsPermutation-sym, IsPermutation-map}
use Rattle.sqlite.specs.declared.types.Value.TheVariants.{Int}
use Rattle.sqlite.specs.Order.{Row}
use Rattle.sqlite_value.specs.Order.{value_cmp}
use Rattle.sqlite_value.proofs.OrderLemmas.{value_cmp_total}
use Rattle.sqlite_trees.specs.Tree.{IsTable, put_row, rowid, has_rowid, without_rowid}
use Rattle.sqlite_trees.specs.View.{IsShaped, is_int}
use Rattle.sqlite_trees.specs.declared.store.Shape.TheVariants.{Table}
use Rattle.sqlite_trees.proofs.ListLemmas.{filter_same as filter_alike}
use Rattle.sqlite_trees.proofs.TreeLemmas.{IsShaped-filter, IsShaped-put_row}
use Rattle.sqlite_rules.specs.Edit.{id_in, is_taken, without_all}
use Rattle.sqlite_rules.specs.Lists.{Has}
use Rattle.sqlite_rules.proofs.ListLemmas.{all_from, all_has, contains_had, has_contained, has_filtered, has_kept, some_from, some_has}
use Rattle.sqlite_rules.proofs.ProbeLemmas.{has_mapped, mapped_has}
use Rattle.sqlite_rules.proofs.TableLemmas.{int_is}
use Rattle.sqlite_keyed.proofs.ListLemmas.{all_of, filter_all, map-map, filter-map, filter_same, IsPermutation-filter}
use Rattle.keyed_rows.specs.Ordered.{AreDistinct, add_row}
use Rattle.keyed_rows.proofs.AddRow.{IsNonDecreasingBy-add_row}
use Rattle.keyed_rows.proofs.Rows.{AreDistinct-add_row, each_added, none_of_key}
use Rattle.book_kept.specs.Sheets.{set_row}
use Rattle.sql_schema.specs.HeldRows.{HoldsRows}
use Rattle.sql_schema.proofs.KeyLemmas.{Rises, add_row-permutes, keys-set_row, order-set_row, picked_rise, rising, set_row-permutes, swap}

-- ---- trees

-- a row that is put where its rowid is free
pub put_row-permutes : (r : Row) (rows : List Row) → is_taken rows r ≡ false → IsPermutation (r ∷ rows) (put_row r rows)
put_row-permutes r [] free = IsPermutation-refl _
put_row-permutes r (x ∷ rows) free = go (value_cmp (rowid x) (rowid r)) free (put_row-permutes r rows)
  where
    go : (o : Ordering) → (is_eq o || is_taken rows r) ≡ false → (is_taken rows r ≡ false → IsPermutation (r ∷ rows) (put_row r rows))
        → IsPermutation (r ∷ x ∷ rows) (match_ordering o (x ∷ put_row r rows) (r ∷ rows) (r ∷ x ∷ rows))
    go Less free rest = IsPermutation-trans _ _ _ (swap r x rows) (IsPermutation-cons x _ _ (rest free))
    go Equal free rest = absurd cc
    go Greater free rest = IsPermutation-refl _

pub same_pos : (m n : ℕ) → is_eq (int_cmp (pos m) (pos n)) ≡ (m == n)
same_pos m n = grind (arith, nat_tests)

-- ---- rowids

pub equal_from : (o : Ordering) → is_eq o ≡ true → o ≡ Equal
equal_from Less h = absurd cc
equal_from Equal h = refl
equal_from Greater h = absurd cc

-- of the rows of a table no two have one rowid
pub same_row : (rows : List Row) → IsTable rows → (a b : Row) → Has rows a → Has rows b → value_cmp (rowid a) (rowid b) ≡ Equal → a ≡ b
same_row [] up a b here there e = absurd here
same_row (r ∷ rows) up a b (inl p) (inl q) e = p ∙ sym q
same_row (r ∷ rows) up a b (inl p) (inr q) e =
    let less = all_has (λ y. value_cmp (rowid r) (rowid y) ≡ Less) rows b up.0 q in
    absurd (let both : Less ≡ Equal = sym less ∙ subst (λ x. value_cmp (rowid x) (rowid b) ≡ Equal) p e in cc)
same_row (r ∷ rows) up a b (inr p) (inl q) e =
    let less = all_has (λ y. value_cmp (rowid r) (rowid y) ≡ Less) rows a up.0 p in
    absurd (let both : Less ≡ Equal = sym less ∙ tied_back value_cmp_total (rowid a) (rowid r) (subst (λ x. value_cmp (rowid a) (rowid x) ≡ Equal) q e) in cc)
same_row (r ∷ rows) up a b (inr p) (inr q) e = same_row rows up.1 a b p q e

-- these are the rowids of the rows that pass
pub record Names (rows : List Row) (p : Row → Bool) (ids : List ℤ) : Type 0 where
  pub sound : (id : ℤ) → Has ids id → (r : Row) × Has rows r × (p r ≡ true) × (rowid r ≡ Int id)
  pub complete : (r : Row) (id : ℤ) → Has rows r → p r ≡ true → rowid r ≡ Int id → Has ids id

pub has_permuted : {X : Type 0} (xs ys : List X) (x : X) → IsPermutation xs ys → Has xs x → Has ys x
has_permuted xs ys x same h = has_contained ys x (Contains-permutation xs ys x same (contains_had xs x h))

pub rowid_is : (rows : List Row) (r : Row) → IsShaped Table rows → Has rows r → rowid r ≡ Int (id_in (rowid r))
rowid_is rows r shaped h = int_is (rowid r) (all_has (λ x. IsTrue (is_int (rowid x))) rows r shaped.1 h)

pub names_from : (rows : List Row) (p : Row → Bool) (ids : List ℤ) → IsShaped Table rows → IsPermutation (map (λ r. id_in (rowid r)) (filter p rows)) ids → Names rows p ids
names_from rows p ids shaped same = record {
  sound = λ id h.
      let found = has_mapped (λ (r : Row). id_in (rowid r)) (filter p rows) id (has_permuted ids _ id (IsPermutation-sym _ ids same) h) in
      let kept = has_filtered p rows found.0 found.1 in
      (found.0, kept.0, kept.1, rowid_is rows found.0 shaped kept.0 ∙ ap Int (sym found.2));
  complete = λ r id h passes is.
      has_permuted _ ids id same (subst (Has (map (λ (x : Row). id_in (rowid x)) (filter p rows))) (ap id_in is) (mapped_has (λ (x : Row). id_in (rowid x)) (filter p rows) r (has_kept p rows r h passes)));
}

twice : {X : Type 0} (a b : X → Bool) (xs : List X) → filter (λ x. not (a x)) (filter (λ x. not (b x)) xs) ≡ filter (λ x. not (b x || a x)) xs
twice a b [] = refl
twice {X} a b (x ∷ xs) = go (b x) (a x) (twice a b xs)
  where
    go : (c d : Bool) → filter (λ y. not (a y)) (filter (λ y. not (b y)) xs) ≡ filter (λ y. not (b y || a y)) xs
        → filter (λ y. not (a y)) (cond (not c) (x ∷ filter (λ y. not (b y)) xs) (filter (λ y. not (b y)) xs)) ≡ cond (not (c || a x)) (x ∷ filter (λ y. not (b y || a y)) xs) (filter (λ y. not (b y || a y)) xs)
    go true d rest = rest
    go false d rest =
        elim (a x) as (λ e. cond (not e) (x ∷ filter (λ y. not (a y)) (filter (λ y. not (b y)) xs)) (filter (λ y. not (a y)) (filter (λ y. not (b y)) xs)) ≡ cond (not e) (x ∷ filter (λ y. not (b y || a y)) xs) (filter (λ y. not (b y || a y)) xs))
        [ true ↦ rest | false ↦ ap (λ ys. x ∷ ys) rest ]

by_ids : (ids : List ℤ) (rows : List Row) → without_all rows ids ≡ filter (λ r. not (list_any (λ id. has_rowid id r) ids)) rows
by_ids [] rows = sym (filter_all (λ _. true) rows (all_of (λ _. true ≡ true) (λ _. refl) rows))
by_ids (id ∷ ids) rows = by_ids ids (without_rowid id rows) ∙ twice (λ r. list_any (λ i. has_rowid i r) ids) (has_rowid id) rows

module _ (rows : List Row) (p : Row → Bool) (ids : List ℤ) (shaped : IsShaped Table rows) (names : Names rows p ids) where
  named : (r : Row) → Has rows r → list_any (λ id. has_rowid id r) ids ≡ p r
  named r h = go (p r) refl (list_any (λ id. has_rowid id r) ids) refl
    where
      itself : rowid r ≡ Int (id_in (rowid r)) → has_rowid (id_in (rowid r)) r ≡ true
      itself is = ap (λ v. is_eq (value_cmp v (Int (id_in (rowid r))))) is ∙ ap is_eq (tied_itself value_cmp_total (Int (id_in (rowid r))))

      go : (b : Bool) → p r ≡ b → (c : Bool) → list_any (λ id. has_rowid id r) ids ≡ c → c ≡ b
      go true is c any =
          let keyed = rowid_is rows r shaped h in
          sym any ∙ some_from (λ id. has_rowid id r) ids (id_in (rowid r)) (names.complete r (id_in (rowid r)) h is keyed) (itself keyed)
      go false is false any = refl
      go false is true any =
          let found = some_has (λ id. has_rowid id r) ids any in
          let other = names.sound found.0 found.1 in
          let tied = equal_from _ (ap (λ v. is_eq (value_cmp (rowid r) v)) other.3 ∙ found.2) in
          absurd (false≢true (sym is ∙ ap p (same_row rows shaped.0 r other.0 h other.1 tied) ∙ other.2))

  -- so those rows are taken out
  pub taken_out : without_all rows ids ≡ filter (λ r. not (p r)) rows
  taken_out = by_ids ids rows ∙ filter_alike (λ r. not (list_any (λ id. has_rowid id r) ids)) (λ r. not (p r)) rows (all_from (λ r. not (list_any (λ id. has_rowid id r) ids) ≡ not (p r)) rows (λ r h. ap not (named r h)))

-- ---- the rows of a table

module _ {X : Type 0} (shows : Row → Row) (cells : X → Row) where
  pub held_filter : (p : X → Bool) (q q' : Row → Bool) (xs : List X) (tree : List Row) → ((r : Row) → q r ≡ q' (shows r)) → ((x : X) → q' (cells x) ≡ p x)
      → IsPermutation (map cells xs) (map shows tree) → IsPermutation (map cells (filter p xs)) (map shows (filter q tree))
  held_filter p q q' xs tree reads same holds =
      let left : filter q' (map cells xs) ≡ map cells (filter p xs) = filter-map q' cells xs ∙ ap (map cells) (filter_same _ _ same xs) in
      let right : filter q' (map shows tree) ≡ map shows (filter q tree) = filter-map q' shows tree ∙ ap (map shows) (filter_same _ _ (λ r. sym (reads r)) tree) in
      subst (λ l. IsPermutation l (map shows (filter q tree))) left (subst (IsPermutation (filter q' (map cells xs))) right (IsPermutation-filter q' _ _ holds))

  -- what is made of each row
  pub held_map : {Y : Type 0} (f : Row → Y) (f' : Row → Y) (g : X → Y) (xs : List X) (tree : List Row) → ((r : Row) → f r ≡ f' (shows r)) → ((x : X) → f' (cells x) ≡ g x)
      → IsPermutation (map cells xs) (map shows tree) → IsPermutation (map g xs) (map f tree)
  held_map f f' g xs tree reads same holds =
      let left : map f' (map cells xs) ≡ map g xs = map-map f' cells xs ∙ (λ i. map (λ x. same x i) xs) in
      let right : map f' (map shows tree) ≡ map f tree = map-map f' shows tree ∙ (λ i. map (λ r. sym (reads r) i) tree) in
      subst (λ l. IsPermutation l (map f tree)) left (subst (IsPermutation (map f' (map cells xs))) right (IsPermutation-map f' _ _ holds))

module _ {X : Type 0} (key : X → ℕ) where
  below_apart : (a b : ℕ) → a < b → b ≡ a → ⊥
  below_apart a b less same = omega (arith, less, same)

  distinct_rising : (xs : List X) → Rises key xs → AreDistinct (map key xs)
  distinct_rising [] up = tt
  distinct_rising (x ∷ xs) up =
      (none_of_key key (key x) xs (λ y there. below_apart (key x) (key y) (all_has (λ z. key x < key z) xs y up.0 (has_contained xs y there))), distinct_rising xs up.1)

module _ {X : Type 0} (shows : Row → Row) (cells : X → Row) (key : X → ℕ) (Fits : X → Type 0) where
  abbrev Held : List X → List Row → Type 0
  Held = HoldsRows shows cells key Fits

  -- each of the rows stands in the tree
  pub row_of : (xs : List X) (tree : List Row) → Held xs tree → (x : X) → Contains xs x → (r : Row) × Has tree r × (shows r ≡ cells x)
  row_of xs tree holds x there =
      let found = has_mapped shows tree (cells x) (has_permuted (map cells xs) (map shows tree) (cells x) holds.same (mapped_has cells xs x (has_contained xs x there))) in
      (found.0, found.1, sym found.2)

  -- tests that agree on rows whose numbers are small
  pub picked_alike : (p q : X → Bool) (xs : List X) (tree : List Row) → Held xs tree → ((x : X) → Fits x → p x ≡ q x) → filter p xs ≡ filter q xs
  picked_alike p q xs tree holds alike = filter_alike p q xs (all_from (λ x. p x ≡ q x) xs (λ x h. alike x (holds.fit x (contains_had xs x h))))

  -- with one row more
  pub held_added : (new : X) (row : Row) (xs : List X) (tree : List Row) → Held xs tree → shows row ≡ cells new → IsTrue (is_int (rowid row)) → is_taken tree row ≡ false → Fits new
      → ((x : X) → Contains xs x → key x ≢ key new) → Held (add_row key new xs) (put_row row tree)
  held_added new row xs tree holds is keyed free small apart = record {
    same = IsPermutation-trans _ _ _ (IsPermutation-sym _ _ (IsPermutation-map cells _ _ (add_row-permutes key new xs)))
        (IsPermutation-trans _ _ _ (IsPermutation-cons (cells new) _ _ holds.same)
        (subst (λ c. IsPermutation (c ∷ map shows tree) (map shows (put_row row tree))) is (IsPermutation-map shows _ _ (put_row-permutes row tree free))));
    ordered = record { in_order = IsNonDecreasingBy-add_row key new xs holds.ordered.in_order; distinct = AreDistinct-add_row key new xs holds.ordered.distinct apart };
    fit = each_added key new xs Fits small holds.fit;
    shaped = IsShaped-put_row row tree keyed holds.shaped;
  }

  -- without those that pass
  pub held_without : (p : X → Bool) (q q' : Row → Bool) (xs : List X) (tree : List Row) → Held xs tree → ((r : Row) → q r ≡ q' (shows r)) → ((x : X) → q' (cells x) ≡ p x)
      → Held (filter (λ x. not (p x)) xs) (filter (λ r. not (q r)) tree)
  held_without p q q' xs tree holds reads same =
      let left : X → Bool = λ x. not (p x) in record {
        same = held_filter shows cells left (λ r. not (q r)) (λ c. not (q' c)) xs tree (λ r. ap not (reads r)) (λ x. ap not (same x)) holds.same;
        ordered = record {
          in_order = IsNonDecreasingBy-filter key left xs holds.ordered.in_order;
          distinct = distinct_rising key (filter left xs) (picked_rise key left (λ x y. key x < key y) (λ x y _ _ less. less) xs (rising key xs holds.ordered.distinct holds.ordered.in_order));
        };
        fit = λ x there. holds.fit x (contains_had xs x (has_filtered left xs x (has_contained (filter left xs) x there)).0);
        shaped = IsShaped-filter Table (λ r. not (q r)) tree holds.shaped;
      }

  set_one : (new x : X) (b : Bool) → Fits new → Fits x → Fits (cond b new x)
  set_one new x true small was = small
  set_one new x false small was = was

  -- with a row in place of the one of its key
  pub held_set : (new x : X) (row : Row) (q q' : Row → Bool) (xs : List X) (tree : List Row) → Held xs tree → find (λ y. key y == key new) xs ≡ Some x
      → ((r : Row) → q r ≡ q' (shows r)) → ((y : X) → Fits y → q' (cells y) ≡ (key y == key new)) → shows row ≡ cells new → IsTrue (is_int (rowid row))
      → is_taken (filter (λ r. not (q r)) tree) row ≡ false → Fits new → Held (set_row key new xs) (put_row row (filter (λ r. not (q r)) tree))
  held_set new x row q q' xs tree holds found reads same is keyed free small =
      let test : X → Bool = λ y. q' (cells y) in
      let left : List Row = filter (λ r. not (q r)) tree in
      let rest = held_without test q q' xs tree holds reads (λ y. refl) in
      let others : filter (λ y. not (test y)) xs ≡ filter (λ y. not (key y == key new)) xs =
      picked_alike (λ y. not (test y)) (λ y. not (key y == key new)) xs tree holds (λ y s. ap not (same y s)) in
      let whole : IsPermutation (new ∷ filter (λ y. not (key y == key new)) xs) (set_row key new xs) =
      subst (λ o. IsPermutation (cons_option (option_map (λ _. new) o) (filter (λ y. not (key y == key new)) xs)) (set_row key new xs)) found (set_row-permutes key new xs holds.ordered.distinct) in record {
        same = IsPermutation-trans _ _ _ (IsPermutation-sym _ _ (IsPermutation-map cells _ _ whole))
            (IsPermutation-trans _ _ _ (IsPermutation-cons (cells new) _ _ (subst (λ ys. IsPermutation (map cells ys) (map shows left)) others rest.same))
            (subst (λ c. IsPermutation (c ∷ map shows left) (map shows (put_row row left))) is (IsPermutation-map shows _ _ (put_row-permutes row left free))));
        ordered = record { in_order = order-set_row key new xs holds.ordered.in_order; distinct = subst AreDistinct (sym (keys-set_row key new xs)) holds.ordered.distinct };
        fit = λ y there.
            let from = has_mapped (λ z. if key z == key new then new else z) xs y (has_contained (set_row key new xs) y there) in
            subst Fits (sym from.2) (set_one new from.0 (key from.0 == key new) small (holds.fit from.0 (contains_had xs from.0 from.1)));
        shaped = IsShaped-put_row row left keyed rest.shaped;
      }
