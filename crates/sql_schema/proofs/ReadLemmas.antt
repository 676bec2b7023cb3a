-- What a query over one table shows: the rows that pass, in order of key where it is sorted so.
use Rattle.std.proofs.Common.{◌≡◌, ℕ, ◌≤◌, ◌<◌, ◌+◌, ◌*◌, ◌^◌, pos, negsuc, List, [], ◌∷◌, map, filter, length, Bool, true, false, refl, ap, arith, ◌∙◌, subst, ◌==◌, ◌&&◌, Some, IsPermutation, IsSorted, inl, inr, is_eq, int_cmp, Less, Equal}
use Rattle.std.specs.Prelude.{nat_le, nat_lt}
use Rattle.std.specs.Ordering.{is_ge, is_gt, ordering_then}
use Rattle.std.proofs.Math.Bool.{and-true}
use Rattle.std.proofs.lemmas.Bool.Decides.{nat_tests}
use Rattle.std.proofs.lemmas.List.Sorted.{IsPermutation-trans}
use Rattle.sqlite.specs.declared.types.Value.TheVariants.{Int}
use Rattle.sqlite.specs.Order.{Row}
use Rattle.sqlite.specs.Term.{Term, lit, col, op2}
use Rattle.sqlite.specs.Query.{Query, output, page, Output}
use Rattle.sqlite.specs.Command.TheVariants.{Select}
use Rattle.sqlite.specs.Program.{overlay}
use Rattle.sqlite.specs.Tree.{Trees}
use Rattle.sqlite.specs.Listing.{understood, reads_listing}
use Rattle.sqlite.specs.State.{State, Shown}
use Rattle.sqlite.proofs.Callers.{IsPlain, command_of, reads_as}
use Rattle.sqlite.specs.Collation.TheVariants.{Binary}
use Rattle.sqlite_rules.specs.Lists.{Has}
use Rattle.sqlite_rules.proofs.ListLemmas.{all_from, all_has, contains_had, has_filtered}
use Rattle.sqlite_sql.specs.declared.ops.BinaryOp.TheVariants.{Compare}
use Rattle.sqlite_sql.specs.declared.ops.CompareOp.TheVariants.{Eq, Ge, Gt}
use Rattle.sqlite_sql.specs.Ops.{binary, is_true, from_truth}
use Rattle.sqlite_sql.specs.Program.{IsProgramAnswer}
use Rattle.sqlite_sql.specs.Query.{output_cmp}
use Rattle.sqlite_sql.proofs.QueryLemmas.{output_cmp_total}
use Rattle.sqlite_trees.specs.Tree.{IsAscending}
use Rattle.sqlite_value.specs.Order.{value_cmp}
use Rattle.sqlite_value.specs.declared.keys.Key.{Key}
use Rattle.sqlite_value.proofs.OrderLemmas.{value_cmp-Int}
use Rattle.sqlite_keyed.proofs.ListLemmas.{ascending-map, map-map}
use Rattle.sqlite_keyed.proofs.SortLemmas.{sorted_unique}
use Rattle.sql_schema.specs.HeldRows.{HoldsRows}
use Rattle.sql_schema.specs.Schema.{bank_schema}
use Rattle.sql_schema.proofs.HeldLemmas.{held_filter, held_map, same_pos}
use Rattle.sql_schema.proofs.KeyLemmas.{picked_rise, rising}
use Rattle.sql_schema.proofs.ScanLemmas.{passes, scan, scanned, few_permutation}

-- ---- forms of queries

abbrev pub no_limit : Term
no_limit = lit (Int (negsuc 0))

abbrev pub no_offset : Term
no_offset = lit (Int (pos 0))

-- the column at this place is the parameter at that one; places of columns count from 1, with the rowid at 0
abbrev pub is_given : ℕ → ℕ → Term
is_given place parameter = op2 (Compare Eq Binary) (col 1 place) (col 0 parameter)

-- WHERE the key is ?1, in a table that has it as its rowid
abbrev pub by_key : List Term
by_key = is_given 0 0 ∷ []

-- WHERE the first columns are ?1, ?2 and ?3
abbrev pub by_one : List Term
by_one = is_given 1 0 ∷ []

abbrev pub by_two : List Term
by_two = is_given 1 0 ∷ is_given 2 1 ∷ []

abbrev pub by_three : List Term
by_three = is_given 1 0 ∷ is_given 2 1 ∷ is_given 3 2 ∷ []

-- the column is the parameter or above it
abbrev pub is_at_least : ℕ → ℕ → Term
is_at_least place parameter = op2 (Compare Ge Binary) (col 1 place) (col 0 parameter)

-- the column is above the parameter
abbrev pub is_above : ℕ → ℕ → Term
is_above place parameter = op2 (Compare Gt Binary) (col 1 place) (col 0 parameter)

abbrev pub rising_key : Key
rising_key = record { collation = Binary; descending = false }

-- ---- tests of whole numbers

truth_back : (b : Bool) → is_true (from_truth (Some b)) ≡ b
truth_back true = refl
truth_back false = refl

pub equals : (m n : ℕ) → is_true (binary (Compare Eq Binary) (Int (pos m)) (Int (pos n))) ≡ (m == n)
unfolding binary
equals m n = truth_back _ ∙ ap is_eq (value_cmp-Int (pos m) (pos n)) ∙ same_pos m n

from_least : (m n : ℕ) → is_ge (int_cmp (pos m) (pos n)) ≡ nat_le n m
from_least m n = grind (arith, nat_tests)

pub at_least : (m n : ℕ) → is_true (binary (Compare Ge Binary) (Int (pos m)) (Int (pos n))) ≡ nat_le n m
unfolding binary
at_least m n = truth_back _ ∙ ap is_ge (value_cmp-Int (pos m) (pos n)) ∙ from_least m n

from_above : (m n : ℕ) → is_gt (int_cmp (pos m) (pos n)) ≡ nat_lt n m
from_above m n = grind (arith, nat_tests)

pub above : (m n : ℕ) → is_true (binary (Compare Gt Binary) (Int (pos m)) (Int (pos n))) ≡ nat_lt n m
unfolding binary
above m n = truth_back _ ∙ ap is_gt (value_cmp-Int (pos m) (pos n)) ∙ from_above m n

pub one_equals : (m n : ℕ) → (is_true (binary (Compare Eq Binary) (Int (pos m)) (Int (pos n))) && true) ≡ (m == n)
one_equals m n = and-true _ ∙ equals m n

pub two_equal : (a b m n : ℕ) → (is_true (binary (Compare Eq Binary) (Int (pos a)) (Int (pos m))) && (is_true (binary (Compare Eq Binary) (Int (pos b)) (Int (pos n))) && true)) ≡ (a == m && b == n)
two_equal a b m n = λ i. equals a m i && one_equals b n i

pub three_equal : (a b c m n o : ℕ) → (is_true (binary (Compare Eq Binary) (Int (pos a)) (Int (pos m))) && (is_true (binary (Compare Eq Binary) (Int (pos b)) (Int (pos n))) && (is_true (binary (Compare Eq Binary) (Int (pos c)) (Int (pos o))) && true)))
    ≡ (a == m && (b == n && c == o))
three_equal a b c m n o = λ i. equals a m i && two_equal b c n o i

less_pos : (m n : ℕ) → m < n → int_cmp (pos m) (pos n) ≡ Less
less_pos m n less = grind (arith, nat_tests)

pub rises_by_one : (m n : ℕ) → m < n → ordering_then (value_cmp (Int (pos m)) (Int (pos n))) Equal ≡ Less
rises_by_one m n less = ap (λ o. ordering_then o Equal) (value_cmp-Int (pos m) (pos n) ∙ less_pos m n less)

-- keys of two columns and of three rise in the order of the columns, where all parts but the first are small
by_parts : (a b m n : ℕ) → b < 2 ^ 32 → n < 2 ^ 32 → 2 ^ 32 * a + b < 2 ^ 32 * m + n → ordering_then (int_cmp (pos a) (pos m)) (ordering_then (int_cmp (pos b) (pos n)) Equal) ≡ Less
by_parts a b m n p q less = grind (arith, nat_tests)

pub rises_by_two : (a b m n : ℕ) → b < 2 ^ 32 → n < 2 ^ 32 → 2 ^ 32 * a + b < 2 ^ 32 * m + n
    → ordering_then (value_cmp (Int (pos a)) (Int (pos m))) (ordering_then (value_cmp (Int (pos b)) (Int (pos n))) Equal) ≡ Less
rises_by_two a b m n p q less = (λ i. ordering_then (value_cmp-Int (pos a) (pos m) i) (ordering_then (value_cmp-Int (pos b) (pos n) i) Equal)) ∙ by_parts a b m n p q less

by_three_columns : (a b c l m n : ℕ) → b < 2 ^ 32 → m < 2 ^ 32 → c < 2 ^ 32 → n < 2 ^ 32 → 2 ^ 64 * a + 2 ^ 32 * b + c < 2 ^ 64 * l + 2 ^ 32 * m + n
    → ordering_then (int_cmp (pos a) (pos l)) (ordering_then (int_cmp (pos b) (pos m)) (ordering_then (int_cmp (pos c) (pos n)) Equal)) ≡ Less
by_three_columns a b c l m n p q r s less = grind (arith, nat_tests)

pub rises_by_three : (a b c l m n : ℕ) → b < 2 ^ 32 → m < 2 ^ 32 → c < 2 ^ 32 → n < 2 ^ 32 → 2 ^ 64 * a + 2 ^ 32 * b + c < 2 ^ 64 * l + 2 ^ 32 * m + n
    → ordering_then (value_cmp (Int (pos a)) (Int (pos l))) (ordering_then (value_cmp (Int (pos b)) (Int (pos m))) (ordering_then (value_cmp (Int (pos c)) (Int (pos n))) Equal)) ≡ Less
rises_by_three a b c l m n p q r s less =
    (λ i. ordering_then (value_cmp-Int (pos a) (pos l) i) (ordering_then (value_cmp-Int (pos b) (pos m) i) (ordering_then (value_cmp-Int (pos c) (pos n) i) Equal))) ∙ by_three_columns a b c l m n p q r s less

-- ---- what is shown

module _ {X : Type 0} (F : X → Type 0) (R : X → X → Type 0) where
  -- what is so along rows that fit, where both do
  fitting_rise : (xs : List X) → ((x : X) → Has xs x → F x) → IsAscending (λ x y. F x → F y → R x y) xs → IsAscending R xs
  fitting_rise [] fit up = tt
  fitting_rise (x ∷ xs) fit up =
      (all_from (R x) xs (λ y there. all_has (λ z. F x → F z → R x z) xs y up.0 there (fit x (inl refl)) (fit y (inr there))), fitting_rise xs (λ y there. fit y (inr there)) up.1)

-- `back` gives a row as the query sees it, by what of it counts
module _ {X : Type 0} (shows back : Row → Row) (cells : X → Row) (key : X → ℕ) (Fits : X → Type 0) (tree : ℕ) (over : (db : Trees) → overlay db [] tree ≡ db tree)
    (terms project : List Term) (order : List (Term × Key)) (limit offset : Term) (params : Row) (p : X → Bool)
    (reads : (r : Row) → (passes terms params r ≡ passes terms params (back (shows r))) × (output (scan tree terms project order limit offset) (params ∷ r ∷ []) ≡ output (scan tree terms project order limit offset) (params ∷ back (shows r) ∷ [])))
    (passing : (x : X) → passes terms params (back (cells x)) ≡ p x) where
  abbrev q : Query
  q = scan tree terms project order limit offset

  abbrev pub shown : X → Output
  shown x = output q (params ∷ back (cells x) ∷ [])

  -- the rows that pass, in an order that the query's agrees with
  pub answers : (db : Trees) (xs : List X) (rows : List Row) → HoldsRows shows cells key Fits xs (db tree) → IsProgramAnswer [] q db params rows
      → (ordered : List Output) × IsPermutation (map shown (filter p xs)) ordered × IsSorted (output_cmp q) ordered × (rows ≡ page q params (map (λ (o : Output). o.1) ordered))
  answers db xs rows holds h =
      let s = scanned tree terms project order limit offset db params rows (over db) h in
      let found = held_filter shows cells p (passes terms params) (λ c. passes terms params (back c)) xs (db tree) (λ r. (reads r).0) passing holds.same in
      let made = held_map shows cells (λ r. output q (params ∷ r ∷ [])) (λ c. output q (params ∷ back c ∷ [])) shown (filter p xs) (filter (passes terms params) (db tree)) (λ r. (reads r).1) (λ x. refl) found in
      let all = subst (λ l. IsPermutation l s.0) (map-map (output q) (λ r. params ∷ r ∷ []) (filter (passes terms params) (db tree))) s.1 in
      (s.0, IsPermutation-trans _ _ _ made all, s.2, s.3)

  from_outputs : (xs : List X) (rows : List Row) (ordered : List Output) → ordered ≡ map shown (filter p xs) → rows ≡ page q params (map (λ (o : Output). o.1) ordered) → rows ≡ page q params (map (λ x. (shown x).1) (filter p xs))
  from_outputs xs rows ordered is rows_are = rows_are ∙ ap (λ os. page q params (map (λ (o : Output). o.1) os)) is ∙ ap (page q params) (map-map (λ (o : Output). o.1) shown (filter p xs))

  -- where it is sorted by what rises with the key, they come in order of key
  pub in_order : (db : Trees) (xs : List X) (rows : List Row) → HoldsRows shows cells key Fits xs (db tree) → IsProgramAnswer [] q db params rows
      → ((x y : X) → p x ≡ true → p y ≡ true → key x < key y → output_cmp q (shown x) (shown y) ≡ Less) → rows ≡ page q params (map (λ x. (shown x).1) (filter p xs))
  in_order db xs rows holds h rises =
      let it = answers db xs rows holds h in
      let up = ascending-map (λ a b. output_cmp q a b ≡ Less) shown (filter p xs) (picked_rise key p (λ x y. output_cmp q (shown x) (shown y) ≡ Less) rises xs (rising key xs holds.ordered.distinct holds.ordered.in_order)) in
      from_outputs xs rows it.0 (sorted_unique (output_cmp q) (output_cmp_total q) (map shown (filter p xs)) it.0 up it.1 it.2) it.3

  -- and so they do where only the keys of rows that fit rise so
  pub in_order_of_fitting : (db : Trees) (xs : List X) (rows : List Row) → HoldsRows shows cells key Fits xs (db tree) → IsProgramAnswer [] q db params rows
      → ((x y : X) → Fits x → Fits y → key x < key y → output_cmp q (shown x) (shown y) ≡ Less) → rows ≡ page q params (map (λ x. (shown x).1) (filter p xs))
  in_order_of_fitting db xs rows holds h rises =
      let it = answers db xs rows holds h in
      let R : X → X → Type 0 = λ x y. output_cmp q (shown x) (shown y) ≡ Less in
      let loose = picked_rise key p (λ x y. Fits x → Fits y → R x y) (λ x y _ _ less a b. rises x y a b less) xs (rising key xs holds.ordered.distinct holds.ordered.in_order) in
      let up = ascending-map (λ a b. output_cmp q a b ≡ Less) shown (filter p xs) (fitting_rise Fits R (filter p xs) (λ x there. holds.fit x (contains_had xs x (has_filtered p xs x there).0)) loose) in
      from_outputs xs rows it.0 (sorted_unique (output_cmp q) (output_cmp_total q) (map shown (filter p xs)) it.0 up it.1 it.2) it.3

  -- and so does one alone
  pub alone : (db : Trees) (xs : List X) (rows : List Row) → HoldsRows shows cells key Fits xs (db tree) → IsProgramAnswer [] q db params rows → length (map shown (filter p xs)) ≤ 1
      → rows ≡ page q params (map (λ x. (shown x).1) (filter p xs))
  alone db xs rows holds h few =
      let it = answers db xs rows holds h in
      from_outputs xs rows it.0 (few_permutation (map shown (filter p xs)) it.0 few it.1) it.3

-- what a text shows is an answer to its query
pub answered : (sql : List ℕ) (names : List (List ℕ)) (q : Query) (params : Row) → command_of (understood bank_schema sql) ≡ Select (record { lets = []; body = q }) names → reads_listing bank_schema sql ≡ false
    → IsPlain (understood bank_schema sql) → (old new : State) (rows : List Row) → old.now.schema ≡ bank_schema → Shown sql params old new rows → IsProgramAnswer [] q old.now.trees params rows
answered sql names q params is unlisted plain old new rows has h = (reads_as sql params old new bank_schema has _ is plain unlisted rows h).answer
