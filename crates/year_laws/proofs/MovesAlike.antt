-- Cash that is moved between two places leaves both banks alike.
use Rattle.std.proofs.Common.{◌≡◌, ◌≢◌, ◌==◌, ◌&&◌, ◌||◌, ◌+◌, ℕ, Bool, true, false, not, Option, Some, None, refl, ap}
use Rattle.std.specs.Prelude.{is_none, option_map, if◌then◌else◌}
use Rattle.std.proofs.lemmas.Bool.{and_parts, eqb-true, ne_eqb, or_parts}
use Rattle.bank_books.specs.Balances.{teller_row}
use Rattle.bank_books.specs.Effects.{written}
use Rattle.bank_books.specs.Records.{branch_record_of, teller_record, teller_record_of}
use Rattle.bank_books.specs.WorldLists.{WorldLists}
use Rattle.bank_books.specs.declared.row_write.RowWrite.TheVariants as write
use Rattle.bank_books.specs.declared.rows.Teller.{Teller}
use Rattle.bank_books.specs.declared.signature.Signature.{Signature}
use Rattle.counter_ops.specs.declared.move_cash.MoveCash.{MoveCash}
use Rattle.rule_tests.specs.Rules.{teller_is_of}
use Rattle.drawers.specs.MoveCash.{first_against_move, is_missing, is_vault, move_effect, move_rows, teller_at}
use Rattle.drawers.specs.declared.move_cash.MoveRows.{MoveRows}
use Rattle.drawers.proofs.AllowedMove.{IsAllowed, IsThere, effect_is, given, is_allowed, is_there, taken}
use Rattle.year_laws.specs.GoesOn.{Turn}
use Rattle.year_laws.specs.StaysAlike.{IsDrawerOf, StayAlike}
use Rattle.year_laws.proofs.FoundAlike.{line_after, lines_are}
use Rattle.year_laws.proofs.LinesAlike.{line_stays}
use Rattle.year_laws.proofs.NextRows.{IsNextLine}
use Rattle.year_laws.proofs.RowsAlike.{carried}

-- a place that is no vault is a drawer of the branch
place_of : (w : WorldLists) (branch place : ℕ) → is_missing place (teller_at w place) ≡ false → teller_is_of (teller_at w place) branch ≡ true → place ≢ 0 → IsDrawerOf w.tellers branch place
place_of w branch place known of some = go (place == 0) (ne_eqb place 0 some) known of
  where
    there : (o : Option Teller) → teller_row place w.tellers ≡ o → is_none (option_map (teller_record_of w) o) ≡ false → teller_is_of (option_map (teller_record_of w) o) branch ≡ true → IsDrawerOf w.tellers branch place
    there None is known of = absurd cc
    there (Some row) is known of = (row, (is, eqb-true row.branch branch of))

    go : (b : Bool) → b ≡ false → (not b && is_none (if b then None else teller_record w place)) ≡ false → teller_is_of (if b then None else teller_record w place) branch ≡ true
        → IsDrawerOf w.tellers branch place
    go true is known of = absurd cc
    go false is known of = there (teller_row place w.tellers) refl known of

-- what the rules say of its places
record AreKnown (w : WorldLists) (move : MoveCash) : Type 0 where
  pub source : is_missing move.source (teller_at w move.source) ≡ false
  pub target : is_missing move.target (teller_at w move.target) ≡ false
  pub source_branch : teller_is_of (teller_at w move.source) move.branch ≡ true
  pub target_branch : teller_is_of (teller_at w move.target) move.branch ≡ true

are_known : (w : WorldLists) (move : MoveCash) (by : Signature) → IsAllowed (move_rows w move) move by → AreKnown w move
are_known w move by allowed =
    let rows : MoveRows = move_rows w move in
    let places = is_missing move.source rows.source || is_missing move.target rows.target in
    let without_vault = or_parts (places || is_none rows.cash_book) ((is_vault move.source || is_vault move.target) && is_none rows.vault) allowed.known in
    let without_book = or_parts places (is_none rows.cash_book) without_vault.0 in
    let both = or_parts (is_missing move.source rows.source) (is_missing move.target rows.target) without_book.0 in
    let of = and_parts (teller_is_of rows.source move.branch) (teller_is_of rows.target move.branch) allowed.of_branch in
    record { source = both.0; target = both.1; source_branch = of.0; target_branch = of.1 }

given_next : (w : WorldLists) (move : MoveCash) (by : Signature) (there : IsThere w move) → AreKnown w move → IsNextLine w.tellers w.lines (given w move there by)
given_next w move by there known =
    record { number = ap (λ n. n + 1) (lines_are w move.branch there.home there.home_is); place = place_of w move.branch move.source known.source known.source_branch }

taken_next : (w : WorldLists) (move : MoveCash) (by : Signature) (there : IsThere w move) → AreKnown w move → IsNextLine w.tellers (written (write.Line (given w move there by)) w).lines (taken w move there by)
taken_next w move by there known = record {
  number = line_after (given w move there by) w.lines (branch_record_of w there.home).lines (lines_are w move.branch there.home there.home_is);
  place = place_of w move.branch move.target known.target known.target_branch;
}

pub move_stays : (t : Turn) (old new : WorldLists) → StayAlike t old new → (move : MoveCash) (by : Signature) → first_against_move (move_rows old move) move by ≡ None
    → first_against_move (move_rows new move) move by ≡ None → StayAlike t (move_effect old move by) (move_effect new move by)
move_stays t old new stay move by old_none new_none =
    let old_allowed = is_allowed (move_rows old move) move by old_none in
    let new_allowed = is_allowed (move_rows new move) move by new_none in
    let old_known = are_known old move by old_allowed in
    let new_known = are_known new move by new_allowed in
    let o = is_there old move old_allowed.known in
    let n = is_there new move new_allowed.known in
    let first =
    line_stays t old new stay (given old move o by) (given new move n by) (record { branch = refl; place = refl; amount = refl; form = refl; user = refl }) (given_next old move by o old_known)
    (given_next new move by n new_known) in
    carried (StayAlike t) _ _ _ _ (effect_is old move o by) (effect_is new move n by)
    (line_stays t (written (write.Line (given old move o by)) old) (written (write.Line (given new move n by)) new) first (taken old move o by) (taken new move n by)
    (record { branch = refl; place = refl; amount = refl; form = refl; user = refl }) (taken_next old move by o old_known) (taken_next new move by n new_known))
