-- What a store over SQL represents, by the connection that it keeps.
use Rattle.std.specs.Prelude.{ℕ, Bool, IsTrue}
use Rattle.sqlite.specs.State.{HasCleanDisk, State}
use Rattle.sqlite.specs.Tree.{Trees}
use Rattle.bank_books.specs.WorldLists.{WorldLists}
use Rattle.store_rows.specs.Status.{Status}
use Rattle.sql_schema.specs.Held.{AreOfWorld, HoldsBank}
use Rattle.sql_writes.specs.Known.{AreKnownOf}
use Rattle.sql_writes.specs.declared.known.KnownRows.{KnownRows}

-- as long as the connection is open, its tables hold this World, also after a fault of the disk
abbrev pub Holds : State → WorldLists → Type 0
Holds s w = HasCleanDisk s → IsTrue s.is_open → HoldsBank s w

-- a crash may leave trees of this World
abbrev pub MayLeave : State → WorldLists → Type 0
MayLeave s w = (trees : Trees) × s.may_leave trees × AreOfWorld w trees

-- whatever trees a crash may leave are of some World
abbrev pub LeavesAWorld : State → Type 0
LeavesAWorld s = (trees : Trees) → s.may_leave trees → (w : WorldLists) × AreOfWorld w trees

abbrev pub sql_status : State → Bool → ℕ → ℕ → Status
sql_status s is_stopped faults failures = record {
  holds = Holds s;
  is_honest = HasCleanDisk s;
  is_stopped = is_stopped;
  fault_count = faults;
  failure_count = failures;
  may_leave = MayLeave s;
  leaves_a_world = LeavesAWorld s;
}

-- what is known is so of every World: nothing
abbrev pub KnowsNothing : KnownRows → Type 0
KnowsNothing known = (w : WorldLists) → AreKnownOf w known

-- It represents the Worlds that the tables hold and of which the rows are that are known. Of a disk that has not returned what was
-- written nothing is said.
abbrev pub with_known : KnownRows → Status → Status
with_known known s = record s { holds = λ w. s.holds w × (s.is_honest → AreKnownOf w known) }
