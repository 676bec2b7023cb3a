-- The day of a branch that is closed: the rows that it is judged on, the rules of the books against it, its effect, and what it leaves.
use Rattle.std.specs.Prelude.{ℤ, ◌+◌, ◌||◌, ◌&&◌, Bool, true, false, not, nat_le, int_lt, pos, is_none, is_some, List, [], ◌∷◌, Option, option_map, option_and_then}
use Rattle.std.specs.Option.{option_map_or}
use Rattle.std.specs.List.{list_any}
use Rattle.money.specs.Range.{is_cents}
use Rattle.bank_terms.specs.Limits.{max_day, max_key}
use Rattle.bank_terms.specs.declared.rule.Rule.{Rule}
use Rattle.bank_terms.specs.declared.rule.Rule.TheVariants as rule
use Rattle.counter_ops.specs.declared.close_day.CloseDay.{CloseDay}
use Rattle.bank_books.specs.Effects.{applied}
use Rattle.bank_books.specs.Records.{branch_record}
use Rattle.bank_books.specs.WorldLists.{WorldLists}
use Rattle.bank_books.specs.declared.row_write.RowWrite.{RowWrite}
use Rattle.bank_books.specs.declared.row_write.RowWrite.TheVariants as write
use Rattle.bank_books.specs.declared.rows.Proof.{Proof}
use Rattle.world_reads.specs.BookReads.{roster}
use Rattle.rule_tests.specs.BranchParts.{ledger_of}
use Rattle.rule_tests.specs.Denial.{first_denial}
use Rattle.rule_tests.specs.declared.ledger.Ledger.{Ledger}
use Rattle.drawers.specs.declared.close_day.Closed.{Closed}
use Rattle.drawers.specs.declared.close_day.ClosingRows.{ClosingRows}

-- the rows that it is judged on, in a World
abbrev pub closing_rows : WorldLists → CloseDay → ClosingRows
closing_rows w form = record {
  ledger = option_map ledger_of (branch_record w form.branch);
  vault = option_map (λ b. b.vault) (branch_record w form.branch);
  holds_a_drawer = list_any (λ t. is_some t.holder) (roster w form.branch);
}

-- the branch is not there
abbrev pub is_unknown : ClosingRows → Bool
is_unknown rows = is_none rows.ledger || is_none rows.vault

-- what the proof holds; a bank that passes its checks has none of it outside its range
abbrev pub is_in_range : ClosingRows → Bool
is_in_range rows =
    option_map_or (λ ledger. is_cents ledger.balance && nat_le ledger.entries max_key) rows.ledger true
    && option_map_or (λ cash. is_cents cash && not (int_lt cash (pos 0))) rows.vault true

-- the rules of the books that it is judged by, in their order, each with whether it denies: no drawer of the branch is held at the end of its day
abbrev pub close_day_tests : ClosingRows → List (Rule × Bool)
close_day_tests rows =
    (rule.Unknown, is_unknown rows)
    ∷ (rule.Range, not (is_in_range rows))
    ∷ (rule.Day, rows.holds_a_drawer)
    ∷ (rule.Full, option_map_or (λ ledger. nat_le max_day ledger.day) rows.ledger false)
    ∷ []

-- the first of them that denies
abbrev pub first_against_close_day : ClosingRows → Option Rule
first_against_close_day rows = first_denial (close_day_tests rows)

-- the proof of the day that ends
abbrev pub day_proof : Ledger → ℤ → CloseDay → Proof
day_proof ledger vault form = record { branch = form.branch; day = ledger.day; entries = ledger.entries; balance = ledger.balance; cash = vault }

-- what it adds and changes, where its rows are there: the proof, and the branch is on its next day
abbrev pub close_day_changes : ClosingRows → CloseDay → List RowWrite
close_day_changes rows form =
    option_map_or (λ ledger. option_map_or (λ vault.
    write.Proof (day_proof ledger vault form) ∷ write.Day (record { branch = form.branch; day = ledger.day + 1 }) ∷ []) rows.vault []) rows.ledger []

-- the World after it
abbrev pub close_day_effect : WorldLists → CloseDay → WorldLists
close_day_effect w form = applied (close_day_changes (closing_rows w form) form) w

-- what its proof holds
abbrev pub closed : Ledger → ℤ → Closed
closed ledger vault = record { balance = ledger.balance; cash = vault; closed = ledger.day; entries = ledger.entries }

-- what it leaves, where its rows are there
abbrev pub closed_of : ClosingRows → Option Closed
closed_of rows = option_and_then (λ ledger. option_map (λ vault. closed ledger vault) rows.vault) rows.ledger
