-- Slips: a request that bears one acts once, however often it is sent. What an operation is judged by beside its policy and its books, and what it leaves of its slip.
use Rattle.std.specs.Prelude.{ℕ, ◌==◌, ◌&&◌, ◌||◌, Bool, false, not, nat_le, is_none, List, Option, None, Some, option_and_then, if◌then◌else◌}
use Rattle.std.specs.Option.{option_map_or}
use Rattle.bank_terms.specs.Limits.{max_slips}
use Rattle.bank_terms.specs.Procedure.{takes_slip}
use Rattle.bank_terms.specs.declared.operation_row.OperationRow.{OperationRow}
use Rattle.bank_terms.specs.declared.rule.Rule.{Rule}
use Rattle.bank_terms.specs.declared.rule.Rule.TheVariants as rule
use Rattle.bank_books.specs.Effects.{written}
use Rattle.bank_books.specs.Records.{slip_count}
use Rattle.bank_books.specs.SlipRow.{SlipRow}
use Rattle.bank_books.specs.WorldLists.{WorldLists}
use Rattle.bank_books.specs.declared.row_write.RowWrite.TheVariants as write
use Rattle.counter_ops.specs.Op.{procedure_of}
use Rattle.counter_ops.specs.Rows.{row_of}
use Rattle.world_reads.specs.BookReads.{slip}
use Rattle.bank_meaning.specs.Executions.{execution_meaning}
use Rattle.bank_meaning.specs.Meaning.{Meaning}
use Rattle.bank_meaning.specs.NamedRelease.{is_same_operation}
use Rattle.bank_meaning.specs.PolicyRules.{asker, grounds, is_identified}
use Rattle.bank_meaning.specs.declared.execution.Execution.{Execution}

-- the number of the slip that an operation is asked for with, 0 for none
abbrev pub slip_named : Execution → ℕ
slip_named x = if takes_slip (procedure_of x.op) then x.who.slip else 0

-- all that is asked of it
pub record SlipGrounds : Type 0 where
  -- its number, 0 for none, and the operation that is asked for, as a row
  pub number : ℕ
  pub operation : OperationRow
  -- the slip of that number of the user who asks, where there is one, and how many the user has
  pub found : Option SlipRow
  pub count : ℕ

abbrev pub slip_grounds : WorldLists → Execution → SlipGrounds
slip_grounds w x = record {
  number = slip_named x;
  operation = row_of x.op;
  found = if slip_named x == 0 then None else slip w (asker x.who) (slip_named x);
  count = slip_count (asker x.who) w.slips;
}

-- it was taken with another operation
abbrev pub is_of_another : SlipGrounds → Bool
is_of_another g = option_map_or (λ s. not (is_same_operation s.operation g.operation)) g.found false

-- it would be a new one, and who asks has 100,000
abbrev pub has_no_room : SlipGrounds → Bool
has_no_room g = not (g.number == 0) && (is_none g.found && nat_le max_slips g.count)

-- The rule denies it, with its slip, of what denies it without: the rule on slips is the slip's own, and its counts are full where the slip has no room, too.
abbrev pub with_slip : SlipGrounds → (Rule → Bool) → Rule → Bool
with_slip g denies rule.Slip = is_of_another g
with_slip g denies rule.Full = has_no_room g || denies rule.Full
with_slip g denies r = denies r

-- what was replied when it was taken, where that was with an equal operation
abbrev pub kept_reply : SlipGrounds → Option (List ℕ)
kept_reply g = option_and_then (λ s. if is_same_operation s.operation g.operation then Some s.reply else None) g.found

-- an operation is repeated: who asks is known and has the slip with an equal operation; then the reply that was kept
abbrev pub repeated_execution : WorldLists → Execution → Option (List ℕ)
repeated_execution w x = if is_identified (grounds w x).standing (grounds w x).session then kept_reply (slip_grounds w x) else None

-- the row of a slip that is taken
abbrev pub slip_of : Execution → List ℕ → SlipRow
slip_of x reply = record { user = asker x.who; number = slip_named x; operation = row_of x.op; reply = reply }

-- the World where it was taken, where one is named
abbrev pub taken_by : Execution → List ℕ → WorldLists → WorldLists
taken_by x reply w = if slip_named x == 0 then w else written (write.Slip (slip_of x reply)) w

-- An operation with its slip: that may deny it, too, and where no rule does it is taken with what is replied.
abbrev pub slipped_meaning : WorldLists → Execution → Meaning
slipped_meaning w x = record {
  denies = with_slip (slip_grounds w x) (execution_meaning w x).denies;
  effect = taken_by x (execution_meaning w x).reply.bytes (execution_meaning w x).effect;
  reply = (execution_meaning w x).reply;
}
