-- What is known of a move of cash that no rule denies: its branch and its places are there, its lines may come next, and there is room for them.
use Rattle.std.proofs.Common.{◌≡◌, ◌≢◌, ℕ, ◌+◌, ◌≤◌, ℤ, pos, ◌+ℤ◌, [], ◌∷◌, Bool, true, false, not, refl, ap, arith, sym, ◌∙◌, subst, ◌==◌, ◌||◌, ◌&&◌, Option, Some, None, ◌⊎◌, inl, inr, int_lt}
use Rattle.std.specs.Prelude.{is_none, option_map, if◌then◌else◌}
use Rattle.std.specs.Option.{option_map_or}
use Rattle.std.proofs.lemmas.Bool.{and_parts, eq-eqb, eqb-true, ltb-false, ne_eqb, not-false, or_parts}
use Rattle.std.proofs.lemmas.Int.{ints}
use Rattle.bank_terms.specs.Limits.{max_key}
use Rattle.counter_ops.specs.MoveCash.{IsMoveCash}
use Rattle.row_members.specs.Ranges.{IsCash}
use Rattle.counter_ops.specs.declared.move_cash.MoveCash.{MoveCash}
use Rattle.money.specs.Range.{IsCents, is_cents}
use Rattle.bank_books.specs.Balances.{branch_row, teller_row}
use Rattle.bank_books.specs.Books.{Books}
use Rattle.bank_books.specs.Cash.{line_count}
use Rattle.bank_books.specs.Effects.{applied}
use Rattle.bank_books.specs.Keys.{branch_key, teller_key}
use Rattle.bank_books.specs.Range.{IsTellerOf}
use Rattle.bank_books.specs.Records.{branch_record, branch_record_of, teller_record, teller_record_of}
use Rattle.bank_books.specs.WorldLists.{WorldLists}
use Rattle.bank_books.specs.declared.records.TellerRecord.{TellerRecord}
use Rattle.bank_books.specs.declared.row_write.RowWrite.TheVariants as write
use Rattle.bank_books.specs.declared.rows.Branch.{Branch}
use Rattle.bank_books.specs.declared.rows.CashLine.{CashLine}
use Rattle.bank_books.specs.declared.rows.Teller.{Teller}
use Rattle.bank_books.specs.declared.signature.Signature.{Signature}
use Rattle.book_laws.specs.Limits.{AreWithinLimits}
use Rattle.book_laws.specs.Moves.{to_drawers}
use Rattle.book_laws.specs.Next.{lined}
use Rattle.book_laws.proofs.BooksSplit.{books_parts}
use Rattle.keyed_rows.proofs.Rows.{found_row}
use Rattle.rule_tests.proofs.RuleTests.{cents_from, passed_by, source_of}
use Rattle.rule_tests.specs.BranchParts.{cash_book_of}
use Rattle.rule_tests.specs.Rules.{cash_book_is_full, teller_is_of}
use Rattle.rule_tests.specs.Signed.{IsSigned}
use Rattle.rule_tests.specs.declared.cash_book.CashBook.{CashBook}
use Rattle.rule_tests.proofs.FoundRows.{cash_from, for_found}
use Rattle.drawers.specs.Laws.{MoveCashKeepsBooks}
use Rattle.drawers.specs.MoveCash.{first_against_move, from_source, into_target, is_in_range, is_missing, is_unknown, is_vault, may_move, move_changes, move_effect, move_rows, place_covers, source_line, target_line, teller_at}
use Rattle.drawers.specs.declared.move_cash.MoveRows.{MoveRows}
use Rattle.drawers.proofs.PlacedLines.{ArePlaced, AreCarried, HasRoomAt, carried_keep_books, not_below, opposite, still_cash, two_after}

-- ---- what the rules say

pub record IsAllowed (rows : MoveRows) (move : MoveCash) (by : Signature) : Type 0 where
  pub known : is_unknown rows move ≡ false
  pub of_branch : (teller_is_of rows.source move.branch && teller_is_of rows.target move.branch) ≡ true
  pub held : may_move rows move by.user ≡ true
  pub covered : place_covers move.source rows.source rows.vault (from_source move) ≡ true
  pub in_range : is_in_range rows move ≡ true
  pub room : cash_book_is_full rows.cash_book 2 ≡ false

pub is_allowed : (rows : MoveRows) (move : MoveCash) (by : Signature) → first_against_move rows move by ≡ None → IsAllowed rows move by
is_allowed rows move by none =
    let known = passed_by (is_unknown rows move) _ _ none in
    let of_branch = passed_by (not (teller_is_of rows.source move.branch && teller_is_of rows.target move.branch)) _ _ known.1 in
    let held = passed_by (not (may_move rows move by.user)) _ _ of_branch.1 in
    let covered = passed_by (not (place_covers move.source rows.source rows.vault (from_source move))) _ _ held.1 in
    let range = passed_by (not (is_in_range rows move)) _ _ covered.1 in
    let room = passed_by (cash_book_is_full rows.cash_book 2) _ _ range.1 in
    record {
      known = known.0;
      of_branch = not-false (teller_is_of rows.source move.branch && teller_is_of rows.target move.branch) of_branch.0;
      held = not-false (may_move rows move by.user) held.0;
      covered = not-false (place_covers move.source rows.source rows.vault (from_source move)) covered.0;
      in_range = not-false (is_in_range rows move) range.0;
      room = room.0;
    }

-- ---- the branch

pub record IsThere (w : WorldLists) (move : MoveCash) : Type 0 where
  pub home : Branch
  pub home_is : branch_row move.branch w.branches ≡ Some home

-- what its first rule says, row by row
record IsKnown (rows : MoveRows) (move : MoveCash) : Type 0 where
  pub source : is_missing move.source rows.source ≡ false
  pub target : is_missing move.target rows.target ≡ false
  pub cash_book : is_none rows.cash_book ≡ false

is_known : (rows : MoveRows) (move : MoveCash) → is_unknown rows move ≡ false → IsKnown rows move
is_known rows move known =
    let places = is_missing move.source rows.source || is_missing move.target rows.target in
    let without_vault = or_parts (places || is_none rows.cash_book) ((is_vault move.source || is_vault move.target) && is_none rows.vault) known in
    let book = or_parts places (is_none rows.cash_book) without_vault.0 in
    let both = or_parts (is_missing move.source rows.source) (is_missing move.target rows.target) book.0 in
    record { source = both.0; target = both.1; cash_book = book.1 }

pub is_there : (w : WorldLists) (move : MoveCash) → is_unknown (move_rows w move) move ≡ false → IsThere w move
is_there w move known =
    let record_of = source_of cash_book_of (branch_record w move.branch) (is_known (move_rows w move) move known).cash_book in
    let home = source_of (branch_record_of w) (branch_row move.branch w.branches) (ap is_none record_of.1) in
    record { home = home.0; home_is = home.1 }

-- what it is judged on, by what is found of its branch
abbrev pub rows_of : WorldLists → MoveCash → Option Branch → MoveRows
rows_of w move found = record {
  source = teller_at w move.source;
  target = teller_at w move.target;
  cash_book = option_map cash_book_of (option_map (branch_record_of w) found);
  vault = if is_vault move.source || is_vault move.target then option_map (λ b. b.vault) (option_map (branch_record_of w) found) else None;
}

rows_are : (w : WorldLists) (move : MoveCash) (there : IsThere w move) → move_rows w move ≡ rows_of w move (Some there.home)
rows_are w move there = ap (rows_of w move) there.home_is

-- ---- what it changes

abbrev pub book_of : (w : WorldLists) (move : MoveCash) → IsThere w move → CashBook
book_of w move there = cash_book_of (branch_record_of w there.home)

-- the lines at the place that gives and at the one that takes
abbrev pub given : (w : WorldLists) (move : MoveCash) → IsThere w move → Signature → CashLine
given w move there by = source_line (book_of w move there) move by

abbrev pub taken : (w : WorldLists) (move : MoveCash) → IsThere w move → Signature → CashLine
taken w move there by = target_line (book_of w move there) move by

pub changes_are : (w : WorldLists) (move : MoveCash) (there : IsThere w move) (by : Signature)
    → move_changes (move_rows w move) move by ≡ write.Line (given w move there by) ∷ write.Line (taken w move there by) ∷ []
changes_are w move there by = ap (λ rows. move_changes rows move by) (rows_are w move there)

pub effect_is : (w : WorldLists) (move : MoveCash) (there : IsThere w move) (by : Signature)
    → move_effect w move by ≡ lined (given w move there by ∷ taken w move there by ∷ []) w
effect_is w move there by = ap (λ changes. applied changes w) (changes_are w move there by)

-- ---- its places

-- a place is the vault, or the drawer of a teller of the branch
place_is : (w : WorldLists) (place branch : ℕ) → is_missing place (teller_at w place) ≡ false → teller_is_of (teller_at w place) branch ≡ true → (place ≡ 0) ⊎ IsTellerOf w.tellers branch place
place_is w place branch known of = go (place == 0) refl known of
  where
    drawer : (o : Option Teller) → teller_row place w.tellers ≡ o → is_none (option_map (teller_record_of w) o) ≡ false
        → option_map_or (λ t. t.row.branch == branch) (option_map (teller_record_of w) o) true ≡ true → IsTellerOf w.tellers branch place
    drawer None is known of = absurd cc
    drawer (Some t) is known of =
        let found = found_row teller_key place w.tellers t is in
        (t, (found.0, found.1, eqb-true t.branch branch of))

    go : (b : Bool) → (place == 0) ≡ b → (not b && is_none (if b then None else teller_record w place)) ≡ false
        → option_map_or (λ t. t.row.branch == branch) (if b then None else teller_record w place) true ≡ true → (place ≡ 0) ⊎ IsTellerOf w.tellers branch place
    go true is known of = inl (eqb-true place 0 is)
    go false is known of = inr (drawer (teller_row place w.tellers) refl known of)

-- the cash of a place passes a test
abbrev place_passes : ℕ → Option TellerRecord → Option ℤ → (ℤ → Bool) → Bool
place_passes place row vault p = if is_vault place then option_map_or p vault true else option_map_or (λ t. p t.cash) row true

record PassesAt (w : WorldLists) (place : ℕ) (vault : ℤ) (p : ℤ → Bool) : Type 0 where
  pub at_vault : place ≡ 0 → p vault ≡ true
  pub at_drawer : place ≢ 0 → (t : Teller) → teller_row place w.tellers ≡ Some t → p (teller_record_of w t).cash ≡ true

passes_at : (w : WorldLists) (place : ℕ) (row : Option ℤ) (vault : ℤ) (p : ℤ → Bool) → (place ≡ 0 → row ≡ Some vault) → place_passes place (teller_at w place) row p ≡ true → PassesAt w place vault p
passes_at w place row vault p there passes = record {
  at_vault = λ zero.
      subst (λ o. option_map_or p o true ≡ true) (there zero)
      (subst (λ b. (if b then option_map_or p row true else option_map_or (λ t. p t.cash) (teller_at w place) true) ≡ true) (eq-eqb place 0 zero) passes);
  at_drawer = λ off t is.
      subst (λ o. option_map_or (λ t. p t.cash) (option_map (teller_record_of w) o) true ≡ true) is
      (subst (λ b. (if b then option_map_or p row true else option_map_or (λ t. p t.cash) (if b then None else teller_record w place) true) ≡ true) (ne_eqb place 0 off) passes);
}

-- ---- its lines may come next, and there is room for them

some_first : (a b : Bool) (vault : Option ℤ) → a ≡ true → (if a || b then vault else None) ≡ vault
some_first true b vault is = refl
some_first false b vault is = absurd cc

some_second : (a b : Bool) (vault : Option ℤ) → b ≡ true → (if a || b then vault else None) ≡ vault
some_second true b vault is = refl
some_second false true vault is = refl
some_second false false vault is = absurd cc

other_way : (was x y : ℤ) (s t : Bool)
    → was +ℤ ((if t then pos 0 else y) +ℤ (if s then pos 0 else x)) ≡ was +ℤ ((if not s then x else pos 0) +ℤ (if not t then y else pos 0))
other_way was x y true true = omega (arith, ints)
other_way was x y true false = omega (arith, ints)
other_way was x y false true = omega (arith, ints)
other_way was x y false false = omega (arith, ints)

source_room : (w : WorldLists) (move : MoveCash) (by : Signature) (there : IsThere w move) → IsAllowed (rows_of w move (Some there.home)) move by
    → HasRoomAt w move.branch move.source (from_source move)
source_room w move by there allowed =
    let vault = (branch_record_of w there.home).vault in
    let at_vault = λ (zero : move.source ≡ 0). some_first (is_vault move.source) (is_vault move.target) (Some vault) (eq-eqb move.source 0 zero) in
    let rows : MoveRows = rows_of w move (Some there.home) in
    let covers = passes_at w move.source rows.vault vault (λ z. not (int_lt (z +ℤ from_source move) (pos 0))) at_vault allowed.covered in
    let cents = passes_at w move.source rows.vault vault (λ z. is_cents (z +ℤ from_source move)) at_vault (and_parts _ _ (and_parts _ _ allowed.in_range).0).0 in
    record {
      vault = λ zero b is.
          for_found (λ b. IsCash ((branch_record_of w b).vault +ℤ from_source move)) (branch_row move.branch w.branches) there.home b there.home_is
          (cash_from _ (covers.at_vault zero) (cents.at_vault zero)) is;
      drawer = λ off t is. cash_from _ (covers.at_drawer off t is) (cents.at_drawer off t is);
    }

target_room : (w : WorldLists) (move : MoveCash) (by : Signature) (there : IsThere w move) → IsAllowed (rows_of w move (Some there.home)) move by → AreWithinLimits w
    → HasRoomAt w move.branch move.target (into_target move)
target_room w move by there allowed limits =
    let vault = (branch_record_of w there.home).vault in
    let at_vault = λ (zero : move.target ≡ 0). some_second (is_vault move.source) (is_vault move.target) (Some vault) (eq-eqb move.target 0 zero) in
    let rows : MoveRows = rows_of w move (Some there.home) in
    let cents = passes_at w move.target rows.vault vault (λ z. is_cents (z +ℤ into_target move)) at_vault (and_parts _ _ (and_parts _ _ allowed.in_range).0).1 in
    record {
      vault = λ zero b is.
          for_found (λ b. IsCash ((branch_record_of w b).vault +ℤ into_target move)) (branch_row move.branch w.branches) there.home b there.home_is
          (still_cash _ _ (limits.branches there.home (found_row branch_key move.branch w.branches there.home there.home_is).0).cash.vault_within.0 (not_below move.amount)
          (cents_from _ (cents.at_vault zero))) is;
      drawer = λ off t is.
          still_cash _ _ (limits.tellers t (found_row teller_key move.target w.tellers t is).0).cash.0 (not_below move.amount) (cents_from _ (cents.at_drawer off t is));
    }

are_placed : (w : WorldLists) (move : MoveCash) (by : Signature) (there : IsThere w move) → IsAllowed (rows_of w move (Some there.home)) move by → Books w → IsSigned w by
    → ArePlaced w move.branch (given w move there by ∷ taken w move there by ∷ [])
are_placed w move by there allowed books signed =
    let rows : MoveRows = rows_of w move (Some there.home) in
    let branch = found_row branch_key move.branch w.branches there.home there.home_is in
    let day = (((books_parts w).0 books).0.rows.branches.each there.home branch.0).day in
    let known = is_known rows move allowed.known in
    let of = and_parts _ _ allowed.of_branch in (
      record {
        of_branch = refl;
        sound = record {
          branch = (there.home, branch);
          place = place_is w move.source move.branch known.source of.0;
          moment = signed.moment;
          day = day;
          user = signed.user;
        };
        holder = tt;
      },
      (
        record {
          of_branch = refl;
          sound = record {
            branch = (there.home, branch);
            place = place_is w move.target move.branch known.target of.1;
            moment = signed.moment;
            day = day;
            user = signed.user;
          };
          holder = tt;
        },
        tt,
      ),
    )

is_carried : (w : WorldLists) (move : MoveCash) (by : Signature) (there : IsThere w move) → IsAllowed (rows_of w move (Some there.home)) move by → Books w → IsSigned w by → IsMoveCash move
    → AreCarried w move.branch (given w move there by) (taken w move there by)
is_carried w move by there allowed books signed ranges =
    let following = ap (λ k. line_count k w.lines) (found_row branch_key move.branch w.branches there.home there.home_is).1 in
    record {
      placed = are_placed w move by there allowed books signed;
      numbered = (ap (λ n. n + 1) following, (ap (λ n. n + 2) following ∙ two_after (line_count move.branch w.lines), tt));
      two_places = ranges.two_places;
      opposite = opposite (pos move.amount);
      first_carries = (refl, refl);
      second_carries = (refl, refl);
      first_room = source_room w move by there allowed;
      second_room = target_room w move by there allowed ((books_parts w).0 books).1;
      drawers = λ b is.
          for_found (λ b. IsCents ((branch_record_of w b).drawers +ℤ (to_drawers (given w move there by) +ℤ to_drawers (taken w move there by)))) (branch_row move.branch w.branches) there.home b
          there.home_is (subst IsCents (other_way (branch_record_of w there.home).drawers (from_source move) (into_target move) (is_vault move.source) (is_vault move.target))
          (cents_from _ (and_parts _ _ allowed.in_range).1)) is;
      lines = λ b is.
          for_found (λ b. (branch_record_of w b).lines + 2 ≤ max_key) (branch_row move.branch w.branches) there.home b there.home_is (ltb-false max_key _ allowed.room) is;
    }

-- ---- the law

pub move_cash_keeps_books : MoveCashKeepsBooks
move_cash_keeps_books w move by books signed ranges none =
    let found = is_allowed (move_rows w move) move by none in
    let there = is_there w move found.known in
    let allowed = subst (λ rows. IsAllowed rows move by) (rows_are w move there) found in
    subst Books (sym (effect_is w move there by))
    (carried_keep_books w move.branch (given w move there by) (taken w move there by) (is_carried w move by there allowed books signed ranges) books)
