-- What reads of the tables say of a World, and that they change nothing.
use Rattle.std.specs.Prelude.{IfOk, IsTrue, Result}
use Rattle.sqlite.specs.State.{HasCleanDisk, State}
use Rattle.bank_books.specs.WorldLists.{WorldLists}
use Rattle.sql_schema.specs.Held.{HoldsBank, HoldsWorld}
use Rattle.sql_schema.specs.Steps.{LeavesNone, Moves, WasOpen}

-- A read inside a transaction says this of every World that the tables hold, and leaves them as they are.
pub record ReadsWorld {A E : Type 0} (old new : State) (says : WorldLists → A → Type 0) (result : Result A E) : Type 0 where
  pub stated : HasCleanDisk new → IsTrue old.in_transaction → (w : WorldLists) → HoldsWorld old.now w → IfOk result (says w)
  pub moves : Moves old new (λ w. w) result
  pub stays_open : WasOpen old new result
  pub survives : LeavesNone old new

-- The same of a read between transactions: where the connection is still open, the tables and the last commit hold the World as before.
pub record ReadsBank {A E : Type 0} (old new : State) (says : WorldLists → A → Type 0) (result : Result A E) : Type 0 where
  pub stated : HasCleanDisk new → (w : WorldLists) → HoldsBank old w → IfOk result (says w)
  pub kept : HasCleanDisk new → (w : WorldLists) → HoldsBank old w → IsTrue new.is_open → HoldsBank new w
  pub stays_open : WasOpen old new result
  pub survives : LeavesNone old new
