-- Rows that pass a test: how many there are, in which order they come, and the first.
use Rattle.std.proofs.Common.{not, ◌≡◌, ◌≤◌, ◌<◌, ◌+◌, ◌*◌, ◌^◌, ◌==◌, ◌&&◌, ℕ, pos, Contains, List, [], ◌∷◌, map, filter, take, length, slice_get, Bool, true, false, cond, Some, refl, sym, ap, arith, ◌∙◌, subst, int_cmp}
use Rattle.std.specs.Prelude.{option_map, nat_le, nat_lt}
use Rattle.std.specs.List.{find, list_any}
use Rattle.std.specs.Ordering.{is_le}
use Rattle.std.proofs.Math.Bool.{and-true}
use Rattle.std.proofs.lemmas.Bool.Decides.{nat_tests}
use Rattle.sqlite.specs.declared.types.Value.TheVariants.{Int}
use Rattle.sqlite.specs.Order.{Row}
use Rattle.sqlite.specs.Term.{Term, col, lit, op2}
use Rattle.sqlite.specs.Collation.TheVariants.{Binary}
use Rattle.sqlite_sql.specs.declared.ops.BinaryOp.TheVariants.{Compare}
use Rattle.sqlite_sql.specs.declared.ops.CompareOp.TheVariants.{Eq, Ge, Gt, Le}
use Rattle.sqlite_sql.specs.Ops.{binary, from_truth, is_true}
use Rattle.sqlite_rules.proofs.ListLemmas.{contains_had, has_contained, has_filtered}
use Rattle.sqlite_value.proofs.OrderLemmas.{value_cmp-Int}
use Rattle.sqlite_keyed.proofs.ListLemmas.{none_counted}
use Rattle.keyed_rows.specs.Ordered.{AreDistinct}
use Rattle.keyed_rows.proofs.Rows.{find-found}
use Rattle.sql_schema.specs.HeldRows.{HoldsRows, all_but_rowid}
use Rattle.sql_schema.proofs.HeldLemmas.{picked_alike}
use Rattle.sql_schema.proofs.KeyTests.{at_most_one, few_mapped, two_parts}
use Rattle.sql_schema.proofs.KeyLemmas.{one_of_key}
use Rattle.sql_schema.proofs.ReadLemmas.{above, at_least, equals}

-- ---- how many

pub few_of_key : {X Y : Type 0} (f : X → Y) (key : X → ℕ) (k : ℕ) (xs : List X) → AreDistinct (map key xs) → length (map f (filter (λ x. key x == k) xs)) ≤ 1
few_of_key f key k xs distinct = subst (λ ys. length (map f ys) ≤ 1) (sym (one_of_key key k xs distinct)) (few_mapped f _ (at_most_one (find (λ x. key x == k) xs)))

pub few_of_parts : {X Y : Type 0} (f : X → Y) (cells : X → Row) (key : X → ℕ) (Fits : X → Type 0) (a b : X → ℕ) → ((x : X) → key x ≡ 2 ^ 32 * a x + b x) → ((x : X) → Fits x → b x < 2 ^ 32)
    → (m n : ℕ) → n < 2 ^ 32 → (xs : List X) (tree : List Row) → HoldsRows all_but_rowid cells key Fits xs tree → length (map f (filter (λ x. a x == m && b x == n) xs)) ≤ 1
few_of_parts f cells key Fits a b is fits m n small xs tree holds =
    let alike = picked_alike all_but_rowid cells key Fits (λ x. a x == m && b x == n) (λ x. key x == 2 ^ 32 * m + n) xs tree holds
    (λ x fit. two_parts (a x) (b x) m n (fits x fit) small ∙ ap (λ k. k == 2 ^ 32 * m + n) (sym (is x))) in
    subst (λ ys. length (map f ys) ≤ 1) (sym alike) (few_of_key f key (2 ^ 32 * m + n) xs holds.ordered.distinct)

-- rows are shown exactly where one passes
pub any_counted : {X : Type 0} (p : X → Bool) (xs : List X) (rows : List Row) (n : ℕ) (is_empty : Bool) → is_empty ≡ (n == 0) → length rows ≡ n → length rows ≡ length (filter p xs) → not is_empty ≡ list_any p xs
any_counted p xs rows n is_empty is counted shown = ap not (is ∙ ap (λ k. k == 0) (sym counted ∙ shown) ∙ none_counted p xs) ∙ not_not (list_any p xs)
  where
    not_not : (b : Bool) → not (not b) ≡ b
    not_not true = refl
    not_not false = refl

-- ---- the first

-- LIMIT 1
abbrev pub first_alone : Term
first_alone = lit (Int (pos 1))

pub first_picked : {X : Type 0} (shown : X → Row) (p : X → Bool) (xs : List X) → slice_get (map shown (filter p xs)) 0 ≡ option_map shown (find p xs)
first_picked shown p [] = refl
first_picked shown p (x ∷ xs) =
    elim (p x) as (λ b. slice_get (map shown (cond b (x ∷ filter p xs) (filter p xs))) 0 ≡ option_map shown (cond b (Some x) (find p xs)))
    [ true ↦ refl | false ↦ first_picked shown p xs ]

one_first : (rows : List Row) → slice_get (take 1 rows) 0 ≡ slice_get rows 0
one_first [] = refl
one_first (row ∷ rows) = refl

pub first_of_one : {X : Type 0} (shown : X → Row) (p : X → Bool) (xs : List X) → slice_get (take 1 (map shown (filter p xs))) 0 ≡ option_map shown (find p xs)
first_of_one shown p xs = one_first (map shown (filter p xs)) ∙ first_picked shown p xs

-- what is found fits, and so does each that passes
module _ {X : Type 0} {shows : Row → Row} {cells : X → Row} {key : X → ℕ} {Fits : X → Type 0} (p : X → Bool) (xs : List X) (tree : List Row) (holds : HoldsRows shows cells key Fits xs tree) where
  pub found_fits : (x : X) → find p xs ≡ Some x → Fits x
  found_fits x is = holds.fit x (find-found p xs x is).0

  pub passing_fit : (x : X) → Contains (filter p xs) x → Fits x
  passing_fit x there = holds.fit x (contains_had xs x (has_filtered p xs x (has_contained (filter p xs) x there)).0)

-- ---- tests of whole numbers

truth_back : (b : Bool) → is_true (from_truth (Some b)) ≡ b
truth_back true = refl
truth_back false = refl

-- the column is the parameter or below it
abbrev pub is_at_most : ℕ → ℕ → Term
is_at_most place parameter = op2 (Compare Le Binary) (col 1 place) (col 0 parameter)

up_to : (m n : ℕ) → is_le (int_cmp (pos m) (pos n)) ≡ nat_le m n
up_to m n = grind (arith, nat_tests)

at_most : (m n : ℕ) → is_true (binary (Compare Le Binary) (Int (pos m)) (Int (pos n))) ≡ nat_le m n
unfolding binary
at_most m n = truth_back _ ∙ ap is_le (value_cmp-Int (pos m) (pos n)) ∙ up_to m n

pub within : (m low high : ℕ) → (is_true (binary (Compare Ge Binary) (Int (pos m)) (Int (pos low))) && (is_true (binary (Compare Le Binary) (Int (pos m)) (Int (pos high))) && true)) ≡ (nat_le low m && nat_le m high)
within m low high = λ i. at_least m low i && (and-true _ ∙ at_most m high) i

pub equal_and_above : (a b m n : ℕ) → (is_true (binary (Compare Eq Binary) (Int (pos a)) (Int (pos m))) && (is_true (binary (Compare Gt Binary) (Int (pos b)) (Int (pos n))) && true)) ≡ (a == m && nat_lt n b)
equal_and_above a b m n = λ i. equals a m i && (and-true _ ∙ above b n) i
