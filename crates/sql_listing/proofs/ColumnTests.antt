-- Tests by the columns of a key, as statements make them.
use Rattle.std.proofs.Common.{◌≡◌, ◌==◌, ◌&&◌, ◌||◌, ℕ, ℤ, pos, negsuc, Bool, true, false, Option, Some, None, refl, ap, arith, sym, ◌∙◌, int_cmp, is_eq}
use Rattle.std.specs.Prelude.{nat_le, nat_lt}
use Rattle.std.specs.Ordering.{is_ge, is_gt}
use Rattle.std.proofs.Math.Bool.{and-false, and-true, or-false}
use Rattle.std.proofs.lemmas.Bool.Decides.{nat_tests}
use Rattle.sqlite.specs.declared.types.Value.{Value}
use Rattle.sqlite.specs.declared.types.Value.TheVariants.{Int}
use Rattle.sqlite.specs.Collation.TheVariants.{Binary}
use Rattle.sqlite_sql.specs.declared.ops.BinaryOp.TheVariants.{And, Compare, Or}
use Rattle.sqlite_sql.specs.declared.ops.CompareOp.TheVariants.{Eq, Ge, Gt}
use Rattle.sqlite_sql.specs.Ops.{binary, from_truth, is_true}
use Rattle.sqlite_value.proofs.OrderLemmas.{value_cmp-Int}
use Rattle.sql_listing.specs.Columns.{are_past, part_of}
use Rattle.sql_listing.specs.declared.columns.Columns.{Columns}

-- ---- operators

abbrev stated : Bool → Value
stated b = from_truth (Some b)

stated_back : (b : Bool) → is_true (stated b) ≡ b
stated_back true = refl
stated_back false = refl

either_of_test : (p q : Bool) → binary Or (stated p) (stated q) ≡ stated (p || q)
unfolding binary
either_of_test true true = refl
either_of_test true false = refl
either_of_test false true = refl
either_of_test false false = refl

both_of_test : (p q : Bool) → binary And (stated p) (stated q) ≡ stated (p && q)
unfolding binary
both_of_test true true = refl
both_of_test true false = refl
both_of_test false true = refl
both_of_test false false = refl

abbrev above : ℕ → ℤ → Bool
above m n = is_gt (int_cmp (pos m) n)

abbrev from : ℕ → ℤ → Bool
from m n = is_ge (int_cmp (pos m) n)

abbrev same : ℕ → ℤ → Bool
same m n = is_eq (int_cmp (pos m) n)

above_of_test : (m : ℕ) (n : ℤ) → binary (Compare Gt Binary) (Int (pos m)) (Int n) ≡ stated (above m n)
unfolding binary
above_of_test m n = ap (λ o. stated (is_gt o)) (value_cmp-Int (pos m) n)

from_of_test : (m : ℕ) (n : ℤ) → binary (Compare Ge Binary) (Int (pos m)) (Int n) ≡ stated (from m n)
unfolding binary
from_of_test m n = ap (λ o. stated (is_ge o)) (value_cmp-Int (pos m) n)

same_of_test : (m : ℕ) (n : ℤ) → binary (Compare Eq Binary) (Int (pos m)) (Int n) ≡ stated (same m n)
unfolding binary
same_of_test m n = ap (λ o. stated (is_eq o)) (value_cmp-Int (pos m) n)

-- ---- numbers

above_is : (m n : ℕ) → above m (pos n) ≡ nat_lt n m
above_is m n = grind (arith, nat_tests)

from_is : (m n : ℕ) → from m (pos n) ≡ nat_le n m
from_is m n = grind (arith, nat_tests)

same_is : (m n : ℕ) → same m (pos n) ≡ (n == m)
same_is m n = grind (arith, nat_tests)

none_below : (n : ℕ) → nat_lt n 0 ≡ false
none_below n = grind (arith, nat_tests)

never : (b c : Bool) → (b && (false || (c && false))) ≡ false
never true true = refl
never true false = refl
never false c = refl

-- ---- after one column, two and three

abbrev one_asked : ℕ → ℤ → Value
one_asked a l = binary (Compare Gt Binary) (Int (pos a)) (Int l)

abbrev from_asked : ℕ → ℤ → Value
from_asked a l = binary (Compare Ge Binary) (Int (pos a)) (Int l)

abbrev two_asked : ℕ → ℕ → ℤ → ℤ → Value
two_asked a b l m = binary Or (one_asked a l) (binary And (binary (Compare Eq Binary) (Int (pos a)) (Int l)) (one_asked b m))

abbrev three_asked : ℕ → ℕ → ℕ → ℤ → ℤ → ℤ → Value
three_asked a b c l m n = binary Or (one_asked a l) (binary And (binary (Compare Eq Binary) (Int (pos a)) (Int l)) (two_asked b c m n))

two_of_test : (a b : ℕ) (l m : ℤ) → two_asked a b l m ≡ stated (above a l || (same a l && above b m))
two_of_test a b l m =
    let right : binary And (binary (Compare Eq Binary) (Int (pos a)) (Int l)) (one_asked b m) ≡ stated (same a l && above b m) = (λ i. binary And (same_of_test a l i) (above_of_test b m i)) ∙ both_of_test (same a l) (above b m) in
    (λ i. binary Or (above_of_test a l i) (right i)) ∙ either_of_test (above a l) (same a l && above b m)

three_of_test : (a b c : ℕ) (l m n : ℤ) → three_asked a b c l m n ≡ stated (above a l || (same a l && (above b m || (same b m && above c n))))
three_of_test a b c l m n =
    let rest = above b m || (same b m && above c n) in
    let right : binary And (binary (Compare Eq Binary) (Int (pos a)) (Int l)) (two_asked b c m n) ≡ stated (same a l && rest) = (λ i. binary And (same_of_test a l i) (two_of_test b c m n i)) ∙ both_of_test (same a l) rest in
    (λ i. binary Or (above_of_test a l i) (right i)) ∙ either_of_test (above a l) (same a l && rest)

above_none : (a : ℕ) → above a (negsuc 0) ≡ true
above_none a = grind (arith, nat_tests)

from_none : (a : ℕ) → from a (negsuc 0) ≡ true
from_none a = grind (arith, nat_tests)

-- what comes after in a key does not come before in its first column
not_before : (k a : ℕ) (b : Bool) → (nat_le k a && (nat_lt k a || (k == a && b))) ≡ (nat_lt k a || (k == a && b))
not_before k a true = grind (arith, nat_tests)
not_before k a false = grind (arith, nat_tests)

-- a test that is known, before another one
abbrev from_and : (o : Option Columns) (n : ℤ) (a : ℕ) → Bool → Bool
from_and o n a rest = is_true (from_asked a (part_of o n).first) && rest

from_no_row : (n : ℤ) (a : ℕ) (b : Bool) → from_and None n a b ≡ b
from_no_row n a b = ap (λ t. t && b) (ap is_true (from_of_test a (negsuc 0)) ∙ stated_back _ ∙ from_none a)

from_row : (k : Columns) (n : ℤ) (a : ℕ) (b : Bool) → from_and (Some k) n a (nat_lt k.first a || (k.first == a && b)) ≡ (nat_lt k.first a || (k.first == a && b))
from_row k n a b = ap (λ t. t && (nat_lt k.first a || (k.first == a && b))) (ap is_true (from_of_test a (pos k.first)) ∙ stated_back _ ∙ from_is a k.first) ∙ not_before k.first a b

pub past_one : (o : Option Columns) (n : ℤ) (a : ℕ) → (is_true (one_asked a (part_of o n).first) && true) ≡ are_past o (record { first = a; second = 0; third = 0 })
past_one None n a = and-true _ ∙ ap is_true (above_of_test a (negsuc 0)) ∙ stated_back _ ∙ above_none a
past_one (Some k) n a =
    and-true _ ∙ ap is_true (above_of_test a (pos k.first)) ∙ stated_back _ ∙ above_is a k.first
    ∙ sym ((λ i. nat_lt k.first a || (k.first == a && (none_below k.second i || (k.second == 0 && none_below k.third i)))) ∙ ap (λ b. nat_lt k.first a || b) (never (k.first == a) (k.second == 0)) ∙ or-false (nat_lt k.first a))

two_past : (o : Option Columns) (n : ℤ) (a b : ℕ) → (is_true (two_asked a b (part_of o n).first (pos (part_of o n).second)) && true) ≡ are_past o (record { first = a; second = b; third = 0 })
two_past None n a b = and-true _ ∙ ap is_true (two_of_test a b (negsuc 0) (pos 0)) ∙ stated_back _ ∙ ap (λ t. t || (same a (negsuc 0) && above b (pos 0))) (above_none a)
two_past (Some k) n a b =
    and-true _ ∙ ap is_true (two_of_test a b (pos k.first) (pos k.second)) ∙ stated_back _ ∙ (λ i. above_is a k.first i || (same_is a k.first i && above_is b k.second i))
    ∙ sym ((λ i. nat_lt k.first a || (k.first == a && (nat_lt k.second b || (k.second == b && none_below k.third i)))) ∙ (λ i. nat_lt k.first a || (k.first == a && (ap (λ t. nat_lt k.second b || t) (and-false (k.second == b)) ∙ or-false (nat_lt k.second b)) i)))

pub past_two : (o : Option Columns) (n : ℤ) (a b : ℕ) → from_and o n a (is_true (two_asked a b (part_of o n).first (pos (part_of o n).second)) && true) ≡ are_past o (record { first = a; second = b; third = 0 })
past_two None n a b = ap (from_and None n a) (two_past None n a b) ∙ from_no_row n a true
past_two (Some k) n a b = ap (from_and (Some k) n a) (two_past (Some k) n a b) ∙ from_row k n a (nat_lt k.second b || (k.second == b && nat_lt k.third 0))

three_past : (o : Option Columns) (n : ℤ) (a b c : ℕ) → (is_true (three_asked a b c (part_of o n).first (pos (part_of o n).second) (pos (part_of o n).third)) && true) ≡ are_past o (record { first = a; second = b; third = c })
three_past None n a b c = and-true _ ∙ ap is_true (three_of_test a b c (negsuc 0) (pos 0) (pos 0)) ∙ stated_back _ ∙ ap (λ t. t || (same a (negsuc 0) && (above b (pos 0) || (same b (pos 0) && above c (pos 0))))) (above_none a)
three_past (Some k) n a b c =
    and-true _ ∙ ap is_true (three_of_test a b c (pos k.first) (pos k.second) (pos k.third)) ∙ stated_back _
    ∙ (λ i. above_is a k.first i || (same_is a k.first i && (above_is b k.second i || (same_is b k.second i && above_is c k.third i))))

pub past_three : (o : Option Columns) (n : ℤ) (a b c : ℕ) → from_and o n a (is_true (three_asked a b c (part_of o n).first (pos (part_of o n).second) (pos (part_of o n).third)) && true) ≡ are_past o (record { first = a; second = b; third = c })
past_three None n a b c = ap (from_and None n a) (three_past None n a b c) ∙ from_no_row n a true
past_three (Some k) n a b c = ap (from_and (Some k) n a) (three_past (Some k) n a b c) ∙ from_row k n a (nat_lt k.second b || (k.second == b && nat_lt k.third c))
