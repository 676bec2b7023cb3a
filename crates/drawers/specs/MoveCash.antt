-- Cash that is moved between two places of a branch: the rows that it is judged on, the rules of the books against it, its effect, and what it leaves. A
-- place is a teller's drawer, or the vault, whose number is 0.
use Rattle.std.specs.Prelude.{ℕ, ℤ, pos, neg_ℤ, ◌+◌, ◌+ℤ◌, ◌==◌, ◌||◌, ◌&&◌, Bool, not, is_none, List, [], ◌∷◌, Option, None, option_map, option_and_then, if◌then◌else◌}
use Rattle.std.specs.Option.{option_map_or}
use Rattle.bank_terms.specs.declared.rule.Rule.{Rule}
use Rattle.bank_terms.specs.declared.rule.Rule.TheVariants as rule
use Rattle.counter_ops.specs.declared.move_cash.MoveCash.{MoveCash}
use Rattle.bank_books.specs.Effects.{applied}
use Rattle.bank_books.specs.Records.{branch_record, teller_record}
use Rattle.bank_books.specs.WorldLists.{WorldLists}
use Rattle.bank_books.specs.declared.records.TellerRecord.{TellerRecord}
use Rattle.bank_books.specs.declared.row_write.RowWrite.{RowWrite}
use Rattle.bank_books.specs.declared.row_write.RowWrite.TheVariants as write
use Rattle.bank_books.specs.declared.signature.Signature.{Signature}
use Rattle.bank_books.specs.declared.rows.CashLine.{CashLine}
use Rattle.bank_books.specs.declared.rows.LineForm.TheVariants as line
use Rattle.rule_tests.specs.BranchParts.{cash_book_of}
use Rattle.rule_tests.specs.Denial.{first_denial}
use Rattle.rule_tests.specs.Rules.{cash_book_is_full, drawer_covers, drawer_in_range, drawer_is_free, drawer_is_held_by, drawers_in_range, teller_is_of, vault_covers, vault_in_range}
use Rattle.rule_tests.specs.declared.cash_book.CashBook.{CashBook}
use Rattle.drawers.specs.declared.move_cash.MoveRows.{MoveRows}
use Rattle.drawers.specs.declared.move_cash.Moved.{Moved}

abbrev pub is_vault : ℕ → Bool
is_vault place = place == 0

-- the teller of a place that is no vault
abbrev pub teller_at : WorldLists → ℕ → Option TellerRecord
teller_at w place = if is_vault place then None else teller_record w place

-- the rows that it is judged on, in a World: the vault's cash only where the vault gives or takes
abbrev pub move_rows : WorldLists → MoveCash → MoveRows
move_rows w move = record {
  source = teller_at w move.source;
  target = teller_at w move.target;
  cash_book = option_map cash_book_of (branch_record w move.branch);
  vault = if is_vault move.source || is_vault move.target then option_map (λ b. b.vault) (branch_record w move.branch) else None;
}

-- the place is no vault, and its teller is not there
abbrev pub is_missing : ℕ → Option TellerRecord → Bool
is_missing place row = not (is_vault place) && is_none row

abbrev pub is_unknown : MoveRows → MoveCash → Bool
is_unknown rows move =
    is_missing move.source rows.source
    || is_missing move.target rows.target
    || is_none rows.cash_book
    || ((is_vault move.source || is_vault move.target) && is_none rows.vault)

-- Who moves cash holds the drawer that gives it or, where that is the vault, the drawer that takes it; and cash goes into no drawer that nobody holds.
abbrev pub may_move : MoveRows → MoveCash → ℕ → Bool
may_move rows move user =
    drawer_is_held_by (if is_vault move.source then rows.target else rows.source) user && not (drawer_is_free rows.target)

-- what it adds to the place that gives
abbrev pub from_source : MoveCash → ℤ
from_source move = neg_ℤ (pos move.amount)

-- what it adds to the place that takes
abbrev pub into_target : MoveCash → ℤ
into_target move = pos move.amount

-- with this added, the cash of a place is not below zero
abbrev pub place_covers : ℕ → Option TellerRecord → Option ℤ → ℤ → Bool
place_covers place row vault added = if is_vault place then vault_covers vault added else drawer_covers row added

-- and is an amount of money
abbrev pub place_in_range : ℕ → Option TellerRecord → Option ℤ → ℤ → Bool
place_in_range place row vault added = if is_vault place then vault_in_range vault added else drawer_in_range row added

-- what it adds to the cash of all drawers together: nothing, where it goes from drawer to drawer
abbrev pub into_drawers : MoveCash → ℤ
into_drawers move = (if is_vault move.target then pos 0 else into_target move) +ℤ (if is_vault move.source then pos 0 else from_source move)

abbrev pub is_in_range : MoveRows → MoveCash → Bool
is_in_range rows move =
    place_in_range move.source rows.source rows.vault (from_source move)
    && place_in_range move.target rows.target rows.vault (into_target move)
    && drawers_in_range rows.cash_book (into_drawers move)

-- the rules of the books that the move by this user is judged by, in their order, each with whether it denies
abbrev pub move_tests : MoveRows → MoveCash → Signature → List (Rule × Bool)
move_tests rows move by =
    (rule.Unknown, is_unknown rows move)
    ∷ (rule.Branch, not (teller_is_of rows.source move.branch && teller_is_of rows.target move.branch))
    ∷ (rule.Drawer, not (may_move rows move by.user))
    ∷ (rule.Cash, not (place_covers move.source rows.source rows.vault (from_source move)))
    ∷ (rule.Range, not (is_in_range rows move))
    ∷ (rule.Full, cash_book_is_full rows.cash_book 2)
    ∷ []

-- the first of them that denies
abbrev pub first_against_move : MoveRows → MoveCash → Signature → Option Rule
first_against_move rows move by = first_denial (move_tests rows move by)

-- the line at the place that gives
abbrev pub source_line : CashBook → MoveCash → Signature → CashLine
source_line book move by = record {
  branch = move.branch;
  number = book.lines + 1;
  place = move.source;
  amount = from_source move;
  form = line.Move;
  moment = by.moment;
  day = book.day;
  user = by.user;
}

-- the line at the place that takes
abbrev pub target_line : CashBook → MoveCash → Signature → CashLine
target_line book move by = record {
  branch = move.branch;
  number = book.lines + 2;
  place = move.target;
  amount = into_target move;
  form = line.Move;
  moment = by.moment;
  day = book.day;
  user = by.user;
}

-- what it adds, where its rows are there
abbrev pub move_changes : MoveRows → MoveCash → Signature → List RowWrite
move_changes rows move by =
    option_map_or (λ book. write.Line (source_line book move by) ∷ write.Line (target_line book move by) ∷ []) rows.cash_book []

-- the World after it
abbrev pub move_effect : WorldLists → MoveCash → Signature → WorldLists
move_effect w move by = applied (move_changes (move_rows w move) move by) w

-- the cash of a place, where it is there
abbrev pub place_cash : ℕ → Option TellerRecord → Option ℤ → Option ℤ
place_cash place row vault = if is_vault place then vault else option_map (λ t. t.cash) row

-- the cash of both places after it
abbrev pub moved : MoveCash → ℤ → ℤ → Moved
moved move source target = record { moved = move.amount; source = source +ℤ from_source move; target = target +ℤ into_target move }

-- what it leaves, where its rows are there
abbrev pub moved_of : MoveRows → MoveCash → Option Moved
moved_of rows move =
    option_and_then (λ source. option_map (λ target. moved move source target) (place_cash move.target rows.target rows.vault))
    (place_cash move.source rows.source rows.vault)
