-- What is judged of an operation with its slip.
use Rattle.std.specs.Prelude.{◌≡◌, ℕ, ⊤, Bool, true, false, Option, Some, None, Result, IfOk, IsSome}
use Rattle.money.specs.declared.fault.Fault.{Fault}
use Rattle.bank_terms.specs.declared.rule.Rule.{Rule}
use Rattle.bank_terms.specs.declared.rule.Rule.TheVariants as rule
use Rattle.bank_books.specs.SlipRow.{SlipRow}
use Rattle.bank_books.specs.WorldLists.{WorldLists}
use Rattle.bank_policy.specs.declared.rows.Standing.{Standing}
use Rattle.counter_ops.specs.Rows.{row_of}
use Rattle.world_reads.specs.BookReads.{slip}
use Rattle.store_rows.specs.Status.{Keeps, Status, Tells, count_after, mark_of}
use Rattle.bank_meaning.specs.NamedRelease.{is_same_operation}
use Rattle.bank_meaning.specs.Requests.{executes, first, repeated, verdict}
use Rattle.bank_meaning.specs.PolicyRules.{grounds}
use Rattle.bank_meaning.specs.declared.execution.Execution.{Execution}
use Rattle.op_prepare.specs.Judged.{CountsFault}
use Rattle.op_prepare.specs.declared.prepared.Ready.{Ready}
use Rattle.decide.specs.Permit.{IsReadyFor, Makes}
use Rattle.decide.specs.declared.slips.Judgement.{Judgement}
use Rattle.decide.specs.declared.slips.Judgement.TheVariants as judgement

-- it is no repeat, no rule denies it, and what is ready carries it out
pub record IsMade (w : WorldLists) (x : Execution) (r : Ready) : Type 0 where
  pub fresh : repeated w (executes x) ≡ None
  pub allowed : first w (executes x) ≡ None
  pub makes : Makes w (verdict (executes x) w) r

-- it is no repeat, and this is the first rule that denies it
pub record IsDenied (w : WorldLists) (x : Execution) (rule : Rule) : Type 0 where
  pub fresh : repeated w (executes x) ≡ None
  pub first : first w (executes x) ≡ Some rule

-- the first rule that denies it, or what was replied when it was made, or what carries it out
abbrev pub IsJudgedWithSlip : WorldLists → Execution → Judgement → Type 0
IsJudgedWithSlip w x (judgement.Denied rule) = IsDenied w x rule
IsJudgedWithSlip w x (judgement.Repeated text) = repeated w (executes x) ≡ Some text.items
IsJudgedWithSlip w x (judgement.Ready r) = IsMade w x r

-- what a slip that is found makes of it
abbrev pub IsOfFound : SlipRow → Execution → Judgement → Type 0
IsOfFound s x (judgement.Denied stated) = (is_same_operation s.operation (row_of x.op) ≡ false) × (stated ≡ rule.Slip)
IsOfFound s x (judgement.Repeated text) = (is_same_operation s.operation (row_of x.op) ≡ true) × (text.items ≡ s.reply)
IsOfFound s x (judgement.Ready r) = ⊥

-- a report is ready for a question for one alone
abbrev pub JudgesReportsOnly : Bool → Judgement → Type 0
JudgesReportsOnly is (judgement.Denied rule) = ⊤
JudgesReportsOnly is (judgement.Repeated text) = ⊤
JudgesReportsOnly is (judgement.Ready r) = IsReadyFor is r

-- this is what the row of the user who asks says of whether they may
abbrev pub HasStanding : WorldLists → Execution → Option Standing → Type 0
HasStanding w x row = (grounds w x).standing ≡ row

-- the same, and the user has not the slip of this number
abbrev pub IsNewTo : WorldLists → Execution → Option Standing → ℕ → ℕ → Type 0
IsNewTo w x row user number = HasStanding w x row × (slip w user number ≡ None)

-- What reading comes to of such a World, where there may be nothing to read; it counts the fault that it answers.
pub record MayReadRow {A : Type 0} (old new : Status) (IsSuch : WorldLists → Type 0) (result : Result A Fault) (says : WorldLists → A → Type 0) : Type 0 where
  pub stated : Tells old new (λ w. IsSuch w → IfOk result (says w))
  pub kept : Keeps old new (mark_of result)
  pub counted : new.fault_count ≡ count_after (mark_of result) old.fault_count

-- the same of what may find want of memory beside the store
pub record MayReadOf {A : Type 0} (old new : Status) (IsSuch : WorldLists → Type 0) (result : Result A Fault) (says : WorldLists → A → Type 0) : Type 0 where
  pub stated : Tells old new (λ w. IsSuch w → IfOk result (says w))
  pub kept : Keeps old new (mark_of result)

-- where the World is such a one, and a rule denies it, a fault is one that the store counted
abbrev pub DeniesWhereOrCounts : {A : Type 0} → Status → Status → (WorldLists → Type 0) → (WorldLists → Option Rule) → Result A Fault → Type 0
DeniesWhereOrCounts old new IsSuch first_of result = Tells old new (λ w. IsSuch w → IsSome (first_of w) → CountsFault old new result)

-- the first rule where the slip has no room: that its counts are full comes after each other rule that denies
abbrev pub or_full : Option Rule → Rule
or_full None = rule.Full
or_full (Some r) = r
