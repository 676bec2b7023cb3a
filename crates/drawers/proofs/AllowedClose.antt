-- What is known of a day that no rule forbids to close: its branch is there, and its proof may come next.
use Rattle.std.proofs.Common.{◌≡◌, ℕ, ◌+◌, ◌≤◌, [], ◌∷◌, true, false, not, ap, arith, sym, subst, Option, Some, None}
use Rattle.std.specs.Prelude.{is_none, is_some, nat_le, option_map}
use Rattle.std.specs.Option.{option_map_or}
use Rattle.std.specs.List.{list_any}
use Rattle.std.proofs.lemmas.Bool.{not-false, or_parts}
use Rattle.bank_terms.specs.Limits.{max_day}
use Rattle.counter_ops.specs.declared.close_day.CloseDay.{CloseDay}
use Rattle.bank_books.specs.Balances.{branch_row}
use Rattle.bank_books.specs.Books.{Books}
use Rattle.bank_books.specs.Effects.{applied}
use Rattle.bank_books.specs.Keys.{branch_key}
use Rattle.bank_books.specs.Records.{branch_record, branch_record_of}
use Rattle.bank_books.specs.WorldLists.{WorldLists}
use Rattle.bank_books.specs.declared.row_write.RowWrite.TheVariants as write
use Rattle.bank_books.specs.declared.rows.Branch.{Branch}
use Rattle.bank_books.specs.declared.rows.Proof.{Proof}
use Rattle.world_reads.specs.BookReads.{roster}
use Rattle.rule_tests.specs.BranchParts.{ledger_of}
use Rattle.book_laws.specs.Moves.{with_proof}
use Rattle.book_laws.specs.Next.{IsNextProof}
use Rattle.book_laws.proofs.BooksSplit.{books_parts}
use Rattle.book_laws.proofs.DayProved.{proof_and_day_keep_books}
use Rattle.keyed_rows.proofs.Rows.{found_by_key, found_row}
use Rattle.rule_tests.proofs.RuleTests.{one_fits, passed_by, source_of}
use Rattle.drawers.specs.CloseDay.{close_day_changes, close_day_effect, closing_rows, day_proof, first_against_close_day, is_in_range, is_unknown}
use Rattle.drawers.specs.Laws.{CloseDayKeepsBooks}
use Rattle.drawers.specs.declared.close_day.ClosingRows.{ClosingRows}

-- ---- what the rules say

pub record IsAllowed (rows : ClosingRows) : Type 0 where
  pub known : is_unknown rows ≡ false
  pub in_range : is_in_range rows ≡ true
  pub none_held : rows.holds_a_drawer ≡ false
  pub room : option_map_or (λ ledger. nat_le max_day ledger.day) rows.ledger false ≡ false

pub is_allowed : (rows : ClosingRows) → first_against_close_day rows ≡ None → IsAllowed rows
is_allowed rows none =
    let known = passed_by (is_unknown rows) _ _ none in
    let range = passed_by (not (is_in_range rows)) _ _ known.1 in
    let held = passed_by rows.holds_a_drawer _ _ range.1 in
    let room = passed_by (option_map_or (λ ledger. nat_le max_day ledger.day) rows.ledger false) _ _ held.1 in
    record { known = known.0; in_range = not-false (is_in_range rows) range.0; none_held = held.0; room = room.0 }

-- ---- the rows

pub record IsThere (w : WorldLists) (form : CloseDay) : Type 0 where
  pub branch : Branch
  pub branch_is : branch_row form.branch w.branches ≡ Some branch

pub is_there : (w : WorldLists) (form : CloseDay) → IsAllowed (closing_rows w form) → IsThere w form
is_there w form allowed =
    let rows : ClosingRows = closing_rows w form in
    let both = or_parts (is_none rows.ledger) (is_none rows.vault) allowed.known in
    let record_of = source_of ledger_of (branch_record w form.branch) both.0 in
    let branch = source_of (branch_record_of w) (branch_row form.branch w.branches) (ap is_none record_of.1) in
    record { branch = branch.0; branch_is = branch.1 }

-- what it is judged on, by what is found of its branch
abbrev pub rows_of : WorldLists → CloseDay → Option Branch → ClosingRows
rows_of w form found = record {
  ledger = option_map ledger_of (option_map (branch_record_of w) found);
  vault = option_map (λ b. b.vault) (option_map (branch_record_of w) found);
  holds_a_drawer = list_any (λ t. is_some t.holder) (roster w form.branch);
}

rows_are : (w : WorldLists) (form : CloseDay) (there : IsThere w form) → closing_rows w form ≡ rows_of w form (Some there.branch)
rows_are w form there = ap (rows_of w form) there.branch_is

-- ---- what it changes

-- the proof of its day
abbrev pub proof_of : (w : WorldLists) (form : CloseDay) → IsThere w form → Proof
proof_of w form there = day_proof (ledger_of (branch_record_of w there.branch)) (branch_record_of w there.branch).vault form

pub changes_are : (w : WorldLists) (form : CloseDay) (there : IsThere w form) → let proof = proof_of w form there in
    close_day_changes (closing_rows w form) form ≡ write.Proof proof ∷ write.Day (record { branch = form.branch; day = proof.day + 1 }) ∷ []
changes_are w form there = ap (λ rows. close_day_changes rows form) (rows_are w form there)

pub effect_is : (w : WorldLists) (form : CloseDay) (there : IsThere w form) → close_day_effect w form ≡ with_proof (proof_of w form there) w
effect_is w form there = ap (λ changes. applied changes w) (changes_are w form there)

-- ---- its proof may come next

one_at_least : (n : ℕ) → 1 ≤ n + 1
one_at_least n = omega arith

proof_is_next : (w : WorldLists) (form : CloseDay) (there : IsThere w form) → IsAllowed (closing_rows w form) → Books w → IsNextProof w (proof_of w form there)
proof_is_next w form there allowed books =
    let parts = (books_parts w).0 books in
    let branches = parts.0.rows.branches in
    let branch = found_row branch_key form.branch w.branches there.branch there.branch_is in
    let day = (branches.each there.branch branch.0).day in
    record {
      sound = record { branch = (there.branch, branch); day = day; entries = (parts.1.branches there.branch branch.0).history.entries_within };
      present = λ b is of. sym (ap (λ row. row.day) (found_by_key branch_key form.branch w.branches there.branch b branches.keys there.branch_is is of));
      next_day = (one_at_least there.branch.day, one_fits max_day there.branch.day (subst IsAllowed (rows_are w form there) allowed).room);
    }

-- ---- the law

pub close_day_keeps_books : CloseDayKeepsBooks
close_day_keeps_books w form books none =
    let allowed = is_allowed (closing_rows w form) none in
    let there = is_there w form allowed in
    subst Books (sym (effect_is w form there)) (proof_and_day_keep_books w (proof_of w form there) (proof_is_next w form there allowed books) books)
