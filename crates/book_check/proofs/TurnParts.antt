-- The turns of an account are numbered exactly where the parts of its sum are, and so are those of the balances kept beside them.
use Rattle.std.proofs.Common.{◌≡◌, ℕ, ◌+ℤ◌, ◌==◌, ◌&&◌, List, map, Contains, refl, ap, arith, sym, subst, ◌∙◌}
use Rattle.std.specs.Prelude.{nat_le, pos, if◌then◌else◌}
use Rattle.std.specs.List.Sorted.{IsPermutation}
use Rattle.std.specs.Option.{option_map_or}
use Rattle.std.proofs.lemmas.List.Sorted.{Contains-permutation, IsPermutation-refl, IsPermutation-sym}
use Rattle.keyed_rows.specs.Ordered.{AreDistinct}
use Rattle.bank_books.specs.declared.records.EntryRecord.{EntryRecord}
use Rattle.bank_books.specs.declared.rows.Account.{Account}
use Rattle.bank_books.specs.declared.rows.Entry.{Entry}
use Rattle.bank_books.specs.Balances.{account_opening, deltas_up_to}
use Rattle.bank_books.specs.Keys.{account_key}
use Rattle.bank_books.specs.Numbering.{AreNumbered}
use Rattle.bank_books.specs.Records.{entry_record_of}
use Rattle.bank_books.specs.WorldLists.{WorldLists}
use Rattle.book_sums.specs.Shares.{total_up_to}
use Rattle.book_sums.specs.Sums.{AreSumsOf, turn_part}
use Rattle.book_sums.specs.declared.shares.Part.{Part}
use Rattle.book_sums.specs.declared.sums.Sums.{Sums}
use Rattle.book_sums.proofs.Counting.{made_of, source_of}
use Rattle.book_sums.proofs.SharesLemmas.{count_of_rows, of_rows}
use Rattle.book_check.specs.Turns.{AreBeside, turn_balance}
use Rattle.book_range.proofs.FoundRows.{finds_itself}

-- rows are numbered where what is made of them is
rows_numbered : {X Y : Type 0} (part : X → Y) (group number : Y → ℕ) (rows : List X) (made : List Y) (key : ℕ) → IsPermutation (map part rows) made → AreNumbered group number made key →
    AreNumbered (λ x. group (part x)) (λ x. number (part x)) rows key
rows_numbered {X} {Y} part group number rows made key moved is =
    let found : (x : X) → Contains rows x → Contains made (part x) = λ x there. Contains-permutation (map part rows) made (part x) moved (made_of part rows (map part rows) x refl there) in
    record {
      low = λ x there of. is.low (part x) (found x there) of;
      high = λ x there of. omega (arith, is.high (part x) (found x there) of, count_of_rows (λ y. group y == key) part rows made moved);
      once = λ n. omega (arith, is.once n, count_of_rows (λ y. group y == key && number y == n) part rows made moved);
    }

made_numbered : {X Y : Type 0} (part : X → Y) (group number : Y → ℕ) (rows : List X) (made : List Y) (key : ℕ) → IsPermutation (map part rows) made →
    AreNumbered (λ x. group (part x)) (λ x. number (part x)) rows key → AreNumbered group number made key
made_numbered {X} {Y} part group number rows made key moved is =
    let source : (y : Y) → Contains made y → (x : X) × (Contains rows x × (part x ≡ y)) =
    λ y there. source_of part rows (map part rows) y refl (Contains-permutation made (map part rows) y (IsPermutation-sym (map part rows) made moved) there) in
    record {
      low = λ y there of.
          let x = source y there in
          omega (arith, is.low x.0 x.1.0 (ap group x.1.1 ∙ of), ap number x.1.1);
      high = λ y there of.
          let x = source y there in
          omega (arith, is.high x.0 x.1.0 (ap group x.1.1 ∙ of), ap number x.1.1, count_of_rows (λ z. group z == key) part rows made moved);
      once = λ n. omega (arith, is.once n, count_of_rows (λ y. group y == key && number y == n) part rows made moved);
    }

pub turns_from_parts : (w : WorldLists) (s : Sums) (account : ℕ) → AreSumsOf w s → AreNumbered (λ p. p.group) (λ p. p.number) s.by_turn account →
    AreNumbered (λ e. e.account) (λ e. e.turn) w.entries account
turns_from_parts w s account sums = rows_numbered turn_part (λ p. p.group) (λ p. p.number) w.entries s.by_turn account sums.by_turn

pub parts_from_turns : (w : WorldLists) (s : Sums) (account : ℕ) → AreSumsOf w s → AreNumbered (λ e. e.account) (λ e. e.turn) w.entries account →
    AreNumbered (λ p. p.group) (λ p. p.number) s.by_turn account
parts_from_turns w s account sums = made_numbered turn_part (λ p. p.group) (λ p. p.number) w.entries s.by_turn account sums.by_turn

-- the balances of kept entries stand beside the deltas of the World's
pub balances_beside : (w : WorldLists) (s : Sums) (kept : List EntryRecord) (balances : List Part) → AreSumsOf w s → map (λ e. e.row) kept ≡ w.entries →
    IsPermutation (map turn_balance kept) balances → (account : ℕ) → AreBeside s.by_turn balances account
balances_beside w s kept balances sums same moved account =
    let row : EntryRecord → Entry = λ e. e.row in
    let rows : IsPermutation (map row kept) w.entries = subst (λ es. IsPermutation (map row kept) es) same (IsPermutation-refl (map row kept)) in
    record {
      count = count_of_rows (λ (p : Part). p.group == account) turn_balance kept balances moved ∙ sym (count_of_rows (λ (e : Entry). e.account == account) row kept w.entries rows)
          ∙ sym (count_of_rows (λ (p : Part). p.group == account) turn_part w.entries s.by_turn sums.by_turn);
      numbered = λ is.
          made_numbered turn_balance (λ p. p.group) (λ p. p.number) kept balances account moved
          (rows_numbered row (λ e. e.account) (λ e. e.turn) kept w.entries account rows (turns_from_parts w s account sums is));
    }

-- the balance that the books give after an entry, by the account that it names
pub balance_given : (w : WorldLists) (s : Sums) (a : Account) (e : Entry) → AreSumsOf w s → AreDistinct (map account_key w.accounts) → Contains w.accounts a → a.account ≡ e.account →
    (entry_record_of w e).balance_after ≡ a.opening +ℤ total_up_to a.account e.turn s.by_turn
balance_given w s a e sums distinct there same =
    let opening : account_opening a.account w.accounts ≡ a.opening = ap (λ o. option_map_or (λ r. r.opening) o (pos 0)) (finds_itself account_key w.accounts a distinct there) in
    ap (λ k. account_opening k w.accounts +ℤ deltas_up_to k e.turn w.entries) (sym same) ∙ ap (λ z. z +ℤ deltas_up_to a.account e.turn w.entries) opening
    ∙ ap (λ z. a.opening +ℤ z) (sym (of_rows (λ (p : Part). if p.group == a.account && nat_le p.number e.turn then p.amount else pos 0) turn_part w.entries s.by_turn sums.by_turn))
