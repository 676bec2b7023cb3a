-- Steps inside a transaction from one kind of database to another, on a connection that may be shut.
use Rattle.std.specs.Prelude.{IsTrue, OnOk, Result}
use Rattle.sqlite.specs.Effect.{Database}
use Rattle.sqlite.specs.State.{HasCleanDisk, KeepsCommit, State}

-- The step goes through on an open connection alone. Where its database was of the first kind it leaves one of the second, and commits
-- nothing, whatever it answers.
abbrev pub Proceeds : {X E : Type 0} → State → State → (Database → Type 0) → (Database → Type 0) → Result X E → Type 0
Proceeds old new From To result =
    HasCleanDisk new → IsTrue old.in_transaction → (IsTrue old.is_open → From old.now) →
    OnOk result (IsTrue old.is_open × IsTrue new.in_transaction × To new.now) × KeepsCommit old new
