-- What a reply says is so after the operation: balances and cash, by what the rows add.
use Rattle.std.proofs.Common.{◌≡◌, ◌≢◌, ℕ, ◌==◌, ◌&&◌, ℤ, pos, ◌+ℤ◌, Bool, true, false, List, Option, Some, refl, ap, arith, sym, ◌∙◌}
use Rattle.std.specs.Prelude.{if◌then◌else◌}
use Rattle.std.specs.Option.{option_map_or}
use Rattle.std.proofs.lemmas.Bool.{and_from, and_right, eq-eqb, ne_eqb}
use Rattle.std.proofs.lemmas.Int.{ints}
use Rattle.keyed_rows.proofs.Rows.{found_row}
use Rattle.bank_books.specs.Balances.{account_balance, account_deltas, account_row}
use Rattle.bank_books.specs.Books.{Books}
use Rattle.bank_books.specs.Cash.{cash_of, place_cash, vault_opening}
use Rattle.bank_books.specs.Effects.{all_written}
use Rattle.bank_books.specs.Keys.{account_key}
use Rattle.bank_books.specs.Records.{account_record_of, teller_record_of}
use Rattle.bank_books.specs.WorldLists.{WorldLists}
use Rattle.bank_books.specs.declared.row_write.RowWrite.{RowWrite}
use Rattle.bank_books.specs.declared.rows.Account.{Account}
use Rattle.bank_meaning.specs.JudgedRows.{HasDrawer}
use Rattle.bank_meaning.proofs.AmountParts.{lines_written, placed}
use Rattle.bank_meaning.proofs.PassingParts.{is_no_vault, key_of_drawer}

-- ---- balances

pub balance_is : (w : WorldLists) (key : ℕ) (row : Account) → account_row key w.accounts ≡ Some row → account_balance w key ≡ (account_record_of w row).balance
balance_is w key row there =
    ap (λ (o : Option Account). option_map_or (λ r. r.opening) o (pos 0) +ℤ account_deltas key w.entries) there
    ∙ ap (λ a. row.opening +ℤ account_deltas a w.entries) (sym (found_row account_key key w.accounts row there).1)

pub balance_after : (w after : WorldLists) (key : ℕ) (row : Account) (added : ℤ) → account_row key w.accounts ≡ Some row → account_balance after key ≡ account_balance w key +ℤ added
    → (account_record_of w row).balance +ℤ added ≡ account_balance after key
balance_after w after key row added there moved = ap (λ z. z +ℤ added) (sym (balance_is w key row there)) ∙ sym moved

-- what is added where a number is itself, and where it is not
pub added_here : (n : ℕ) (z : ℤ) → (if n == n then z else pos 0) ≡ z
added_here n z = ap (λ b. if b then z else pos 0) (eq-eqb n n refl)

pub added_elsewhere : (n m : ℕ) (z : ℤ) → n ≢ m → (if n == m then z else pos 0) ≡ pos 0
added_elsewhere n m z apart = ap (λ b. if b then z else pos 0) (ne_eqb n m apart)

pub first_of_two : (z y : ℤ) (n m : ℕ) → n ≢ m → (if n == n then z else pos 0) +ℤ (if m == n then y else pos 0) ≡ z
first_of_two z y n m apart =
    ap (λ x. x +ℤ (if m == n then y else pos 0)) (added_here n z) ∙ ap (λ x. z +ℤ x) (added_elsewhere m n y (λ same. apart (sym same))) ∙ none_more z
  where
    none_more : (v : ℤ) → v +ℤ pos 0 ≡ v
    none_more v = omega (arith, ints)

pub second_of_two : (z y : ℤ) (n m : ℕ) → n ≢ m → (if n == m then z else pos 0) +ℤ (if m == m then y else pos 0) ≡ y
second_of_two z y n m apart =
    ap (λ x. x +ℤ (if m == m then y else pos 0)) (added_elsewhere n m z apart) ∙ ap (λ x. pos 0 +ℤ x) (added_here m y) ∙ none_first y
  where
    none_first : (v : ℤ) → pos 0 +ℤ v ≡ v
    none_first v = omega (arith, ints)

-- ---- cash

opened_and_moved : (o p b a m : ℤ) → o ≡ p → a ≡ b +ℤ m → o +ℤ a ≡ (p +ℤ b) +ℤ m
opened_and_moved o p b a m same is = omega (arith, ints)

opening_of : (b : Bool) (before after : ℤ) → after ≡ before → (if b then after else pos 0) ≡ (if b then before else pos 0)
opening_of true before after same = same
opening_of false before after same = refl

pub cash_after : (w : WorldLists) (changes : List RowWrite) (branch place : ℕ) → vault_opening branch (all_written changes w).branches ≡ vault_opening branch w.branches
    → cash_of (all_written changes w) branch place ≡ cash_of w branch place +ℤ placed branch place changes
cash_after w changes branch place vaults =
    opened_and_moved (if place == 0 then vault_opening branch (all_written changes w).branches else pos 0) (if place == 0 then vault_opening branch w.branches else pos 0)
    (place_cash branch place w.lines) (place_cash branch place (all_written changes w).lines) (placed branch place changes)
    (opening_of (place == 0) (vault_opening branch w.branches) (vault_opening branch (all_written changes w).branches) vaults) (lines_written branch place changes w)

-- what the record of a drawer holds
pub drawer_is : (w : WorldLists) (teller branch : ℕ) (holder : Option ℕ) → Books w → (d : HasDrawer w teller branch holder) → (teller_record_of w d.row).cash ≡ cash_of w branch teller
drawer_is w teller branch holder books d =
    ap (λ b. place_cash b d.row.teller w.lines) d.of_branch
    ∙ ap (λ t. place_cash branch t w.lines) (key_of_drawer w teller branch holder d).1
    ∙ no_opening (teller == 0) (ne_eqb teller 0 (is_no_vault w teller branch holder books d)) (place_cash branch teller w.lines)
  where
    no_opening : (b : Bool) → b ≡ false → (z : ℤ) → z ≡ (if b then vault_opening branch w.branches else pos 0) +ℤ z
    no_opening true is z = absurd cc
    no_opening false is z = omega (arith, ints)

-- ---- which of the lines is at a place

pub here_at : (branch place : ℕ) → (branch == branch && place == place) ≡ true
here_at branch place = and_from (branch == branch) (place == place) (eq-eqb branch branch refl) (eq-eqb place place refl)

pub not_at : (branch place other : ℕ) → place ≢ other → (branch == branch && place == other) ≡ false
not_at branch place other apart = and_right (branch == branch) (place == other) (ne_eqb place other apart)

pub only_first : (z x y : ℤ) (f s : Bool) → f ≡ true → s ≡ false → z +ℤ ((if f then x else pos 0) +ℤ ((if s then y else pos 0) +ℤ pos 0)) ≡ z +ℤ x
only_first z x y true true is apart = absurd cc
only_first z x y true false is apart = omega (arith, ints)
only_first z x y false s is apart = absurd cc

pub only_second : (z x y : ℤ) (f s : Bool) → f ≡ false → s ≡ true → z +ℤ ((if f then x else pos 0) +ℤ ((if s then y else pos 0) +ℤ pos 0)) ≡ z +ℤ y
only_second z x y true s apart is = absurd cc
only_second z x y false true apart is = omega (arith, ints)
only_second z x y false false apart is = absurd cc

pub only_third : (z x y v : ℤ) (f s t : Bool) → f ≡ false → s ≡ false → t ≡ true
    → z +ℤ ((if f then x else pos 0) +ℤ ((if s then y else pos 0) +ℤ ((if t then v else pos 0) +ℤ pos 0))) ≡ z +ℤ v
only_third z x y v false false true apart neither is = omega (arith, ints)
only_third z x y v true s t apart neither is = absurd cc
only_third z x y v false true t apart neither is = absurd cc
only_third z x y v false false false apart neither is = absurd cc
