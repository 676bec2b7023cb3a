-- Steps inside a transaction.
use Rattle.std.specs.Prelude.{ℕ, ◌≡◌, IfOk, IsTrue, List, OnOk, Result}
use Rattle.std.specs.Borrow.{MutBor}
use Rattle.money.specs.declared.fault.Fault.{Fault}
use Rattle.sqlite.specs.Held.{Held, state}
use Rattle.sqlite.specs.Order.{Row}
use Rattle.sqlite.specs.State.{HasCleanDisk, KeepsCommit, State, Survives}
use Rattle.sqlite_trees.specs.declared.store.Store.{Ghosts}
use Rattle.bank_books.specs.WorldLists.{WorldLists}
use Rattle.book_kept.specs.Sheets.{Sheets}
use Rattle.sql_schema.specs.Held.{HoldsTables, HoldsWorld}
use Rattle.sql_schema.specs.ReadBack.{Runs}

-- Where the tables held these rows they hold what the step makes of them, and nothing is committed. A step that is refused says nothing
-- of what they hold, since the transaction is then rolled back.
abbrev pub Steps : {X E : Type 0} → State → State → (Sheets → Sheets) → Result X E → Type 0
Steps old new after result =
    HasCleanDisk new → IsTrue old.in_transaction → (s : Sheets) → HoldsTables old.now s →
    OnOk result (IsTrue new.in_transaction × HoldsTables new.now (after s)) × KeepsCommit old new

-- what the tables hold stays as it is, and nothing is committed
abbrev pub Stays : {X E : Type 0} → State → State → Result X E → Type 0
Stays old new result = Steps old new (λ s. s) result

-- a crash leaves nothing that it could not leave before
abbrev pub LeavesNone : State → State → Type 0
LeavesNone old new = Survives old new (λ _. ⊥)

-- a step of Worlds
abbrev pub Moves : {X E : Type 0} → State → State → (WorldLists → WorldLists) → Result X E → Type 0
Moves old new after result =
    HasCleanDisk new → IsTrue old.in_transaction → (w : WorldLists) → HoldsWorld old.now w →
    OnOk result (IsTrue new.in_transaction × HoldsWorld new.now (after w)) × KeepsCommit old new

-- the same of steps that went through
abbrev pub MovedBy : State → State → (WorldLists → WorldLists) → Type 0
MovedBy old new after =
    HasCleanDisk new → IsTrue old.in_transaction → (w : WorldLists) → HoldsWorld old.now w →
    (IsTrue new.in_transaction × HoldsWorld new.now (after w)) × KeepsCommit old new

-- What a step that went through says of the rows that the tables held before it.
abbrev pub Tells : {X E : Type 0} → State → State → (Sheets → Type 0) → Result X E → Type 0
Tells old new says result = HasCleanDisk new → IsTrue old.in_transaction → (s : Sheets) → HoldsTables old.now s → OnOk result (says s)

-- What a read returns, where it goes through, by the rows that the tables hold.
abbrev pub FindsHeld : {X E : Type 0} → State → State → Result X E → (Sheets → X → Type 0) → Type 0
FindsHeld old new result is = HasCleanDisk new → (s : Sheets) → HoldsTables old.now s → IfOk result (is s)

-- the same inside a transaction
abbrev pub FindsHeldInside : {X E : Type 0} → State → State → Result X E → (Sheets → X → Type 0) → Type 0
FindsHeldInside old new result is = HasCleanDisk new → IsTrue old.in_transaction → (s : Sheets) → HoldsTables old.now s → IfOk result (is s)

-- a statement that is run inside a transaction
abbrev pub RunsInside : List ℕ → Row → State → State → Result ℕ Fault → Type 0
RunsInside sql params old new result = HasCleanDisk new → IsTrue old.in_transaction → Runs sql params old new result

-- a connection that a call finds open was open, and one that answers is
abbrev pub WasOpen : {X E : Type 0} → State → State → Result X E → Type 0
WasOpen old new result = HasCleanDisk new → OnOk result (IsTrue old.is_open) × (IsTrue new.is_open → IsTrue old.is_open)

-- The frame of every call inside a transaction: it is the same connection, of which a crash leaves nothing that it could not leave before.
pub record Frame {S : Type 0} (store : Ghosts S) (was is : MutBor (Held S)) : Type 0 where
  pub same : is.ghost_name ≡ was.ghost_name
  pub survives : LeavesNone (state store was.now) (state store is.now)

-- a step with its frame
pub record Step {S X E : Type 0} (store : Ghosts S) (was is : MutBor (Held S)) (after : Sheets → Sheets) (result : Result X E) : Type 0 where
  pub same : is.ghost_name ≡ was.ghost_name
  pub survives : LeavesNone (state store was.now) (state store is.now)
  pub steps : Steps (state store was.now) (state store is.now) after result

-- a read with its frame, of a connection that was open
pub record Reads {S X E : Type 0} (store : Ghosts S) (was is : MutBor (Held S)) (result : Result X E) : Type 0 where
  pub same : is.ghost_name ≡ was.ghost_name
  pub survives : LeavesNone (state store was.now) (state store is.now)
  pub stays : Stays (state store was.now) (state store is.now) result
  pub was_open : WasOpen (state store was.now) (state store is.now) result

-- what a read that begins and ends its own transaction says of the connection
pub record IsReadOnly {X E : Type 0} (old new : State) (result : Result X E) : Type 0 where
  pub was_open : WasOpen old new result
  pub survives : LeavesNone old new
