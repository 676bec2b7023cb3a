-- Why a report breaks off: for a fault of the store, which it counted.
use Rattle.std.specs.Prelude.{◌≡◌, Option, Some, None}
use Rattle.money.specs.Counted.{CountsFailure}
use Rattle.money.specs.declared.fault.Fault.{Fault}
use Rattle.bank_books.specs.WorldLists.{WorldLists}
use Rattle.store_rows.specs.Status.{Status, Tells}

-- Where no fault is returned, the store counted none. A fault that is returned is one that it counted, where it was
-- honest and represented a World of which P holds.
abbrev pub CountsWhere : Status → Status → Option Fault → (WorldLists → Type 0) → Type 0
CountsWhere old new None P = new.fault_count ≡ old.fault_count
CountsWhere old new (Some fault) P = Tells old new (λ w. P w → CountsFailure old.fault_count new.fault_count)
