-- Amounts, and the cash of each place by the lines of a plan, form by form.
use Rattle.bank_books.specs.Cash.{place_cash}
use Rattle.bank_books.specs.Effects.{all_written, applied, in_full, written}
use Rattle.bank_books.specs.Keys.{line_key}
use Rattle.bank_books.specs.Version.{changes_policy, has_version_for, with_version}
use Rattle.bank_books.specs.WorldLists.{WorldLists}
use Rattle.bank_books.specs.declared.row_write.RowWrite.TheVariants as write
use Rattle.bank_books.specs.declared.row_write.RowWrite.{RowWrite}
use Rattle.bank_books.specs.declared.rows.CashLine.{CashLine}
use Rattle.bank_meaning.specs.Amounts.{DifferAtMost}
use Rattle.bank_meaning.specs.Moves.{Moves, moves_nothing}
use Rattle.keyed_rows.proofs.Rows.{total-add_row}
use Rattle.std.proofs.Common.{Bool, List, [], ap, arith, false, neg_ℤ, negsuc, pos, refl, subst, suc, sym, true, zero, ℕ, ℤ, ◌&&◌, ◌+ℤ◌, ◌==◌, ◌∙◌, ◌∷◌, ◌≡◌, ◌≤◌}
use Rattle.std.proofs.lemmas.Int.{ints}
use Rattle.std.specs.Prelude.{if◌then◌else◌, unsigned_abs}

-- ---- amounts without a sign

pub no_more : (z : ℤ) → z +ℤ pos 0 ≡ z
no_more z = omega (arith, ints)

pub none_first : (z : ℤ) → pos 0 +ℤ z ≡ z
none_first z = omega (arith, ints)

pub out_and_in : (z : ℤ) → neg_ℤ z +ℤ z ≡ pos 0
out_and_in z = omega (arith, ints)

pub abs_neg : (z : ℤ) → unsigned_abs (neg_ℤ z) ≡ unsigned_abs z
abs_neg (pos zero) = refl
abs_neg (pos (suc n)) = refl
abs_neg (negsuc n) = refl

pub same_most : (most : ℕ) (a b : ℤ) → a ≡ b → unsigned_abs b ≤ most → unsigned_abs a ≤ most
same_most most a b is within = subst (λ z. unsigned_abs z ≤ most) (sym is) within

pub abs_itself : (z : ℤ) → unsigned_abs z ≤ unsigned_abs z
abs_itself z = omega arith

pub abs_of_neg : (z : ℤ) → unsigned_abs (neg_ℤ z) ≤ unsigned_abs z
abs_of_neg z = subst (λ n. n ≤ unsigned_abs z) (sym (abs_neg z)) (abs_itself z)

pub no_amount : (most : ℕ) → unsigned_abs (pos 0) ≤ most
no_amount most = omega arith

-- of one that is added where a test says so
pub if_added : (b : Bool) (z : ℤ) (most : ℕ) → unsigned_abs z ≤ most → unsigned_abs (if b then z else pos 0) ≤ most
if_added true z most within = within
if_added false z most within = no_amount most

-- of one that is taken, and given, where tests say so
pub out_in : (a b : Bool) (z : ℤ) → unsigned_abs ((if a then neg_ℤ z else pos 0) +ℤ (if b then z else pos 0)) ≤ unsigned_abs z
out_in true true z = same_most (unsigned_abs z) (neg_ℤ z +ℤ z) (pos 0) (out_and_in z) (no_amount (unsigned_abs z))
out_in true false z = same_most (unsigned_abs z) (neg_ℤ z +ℤ pos 0) (neg_ℤ z) (no_more (neg_ℤ z)) (abs_of_neg z)
out_in false true z = same_most (unsigned_abs z) (pos 0 +ℤ z) z (none_first z) (abs_itself z)
out_in false false z = no_amount (unsigned_abs z)

-- ---- balances

pub added_at_most : (most : ℕ) (before after added : ℤ) → after ≡ before +ℤ added → unsigned_abs added ≤ most → DifferAtMost most before after
added_at_most most before after added is within = same_most most (after +ℤ neg_ℤ before) added (difference before after added is) within
  where
    difference : (before after added : ℤ) → after ≡ before +ℤ added → after +ℤ neg_ℤ before ≡ added
    difference before after added is = omega (arith, ints)

pub if_moved : (share : Moves → ℤ) (b : Bool) (m : Moves) (most : ℕ) → share moves_nothing ≡ pos 0 → unsigned_abs (share m) ≤ most → unsigned_abs (share (if b then m else moves_nothing)) ≤ most
if_moved share true m most none within = within
if_moved share false m most none within = same_most most (share moves_nothing) (pos 0) none (no_amount most)

-- ---- cash, by the lines of a plan

abbrev pub line_at : ℕ → ℕ → CashLine → ℤ
line_at branch place l = if l.branch == branch && l.place == place then l.amount else pos 0

-- what the lines of a plan add to a place
abbrev pub placed : ℕ → ℕ → List RowWrite → ℤ
placed branch place [] = pos 0
placed branch place (write.Line l ∷ cs) = line_at branch place l +ℤ placed branch place cs
placed branch place (c ∷ cs) = placed branch place cs

pub then_added : (before mid after first rest : ℤ) → mid ≡ before +ℤ first → after ≡ mid +ℤ rest → after ≡ before +ℤ (first +ℤ rest)
then_added before mid after first rest here following = omega (arith, ints)

pub lines_written : (branch place : ℕ) (cs : List RowWrite) (w : WorldLists) → place_cash branch place (all_written cs w).lines ≡ place_cash branch place w.lines +ℤ placed branch place cs
lines_written branch place [] w = sym (no_more (place_cash branch place w.lines))
lines_written branch place (write.Line l ∷ cs) w =
    then_added (place_cash branch place w.lines) (place_cash branch place (written (write.Line l) w).lines) (place_cash branch place (all_written cs (written (write.Line l) w)).lines)
    (line_at branch place l) (placed branch place cs) (total-add_row line_key (line_at branch place) l w.lines) (lines_written branch place cs (written (write.Line l) w))
lines_written branch place (c ∷ cs) w = lines_written branch place cs (written c w)

pub lines_of_version : (b : Bool) (w : WorldLists) → (with_version b w).lines ≡ w.lines
lines_of_version true w = refl
lines_of_version false w = refl

pub differ_by_none : (most : ℕ) (z : ℤ) → DifferAtMost most z z
differ_by_none most z = added_at_most most z z (pos 0) (sym (no_more z)) (no_amount most)

-- what a plan leaves at a place, where its lines add so much at most
pub plan_bound : (branch place most : ℕ) (cs : List RowWrite) (w : WorldLists) → unsigned_abs (placed branch place cs) ≤ most
    → DifferAtMost most (place_cash branch place w.lines) (place_cash branch place (applied cs w).lines)
plan_bound branch place most cs w within = go (has_version_for cs w.version)
  where
    go : (b : Bool) → DifferAtMost most (place_cash branch place w.lines) (place_cash branch place (if b then in_full cs w else w).lines)
    go true =
        added_at_most most (place_cash branch place w.lines) (place_cash branch place (in_full cs w).lines) (placed branch place cs)
        (ap (place_cash branch place) (lines_of_version (changes_policy cs) (all_written cs w)) ∙ lines_written branch place cs w) within
    go false = differ_by_none most (place_cash branch place w.lines)

-- one line, and two of which one takes what the other gives
pub one_line : (b : Bool) (z : ℤ) (most : ℕ) → unsigned_abs z ≤ most → unsigned_abs ((if b then z else pos 0) +ℤ pos 0) ≤ most
one_line b z most within = same_most most ((if b then z else pos 0) +ℤ pos 0) (if b then z else pos 0) (no_more (if b then z else pos 0)) (if_added b z most within)

pub two_lines : (a b : Bool) (z : ℤ) → unsigned_abs ((if a then neg_ℤ z else pos 0) +ℤ ((if b then z else pos 0) +ℤ pos 0)) ≤ unsigned_abs z
two_lines a b z =
    same_most (unsigned_abs z) ((if a then neg_ℤ z else pos 0) +ℤ ((if b then z else pos 0) +ℤ pos 0)) ((if a then neg_ℤ z else pos 0) +ℤ (if b then z else pos 0))
    (ap (λ y. (if a then neg_ℤ z else pos 0) +ℤ y) (no_more (if b then z else pos 0))) (out_in a b z)

-- ---- cash, form by form
