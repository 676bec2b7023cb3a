-- When a bank is made in a database, and when that is refused.
use Rattle.std.specs.Prelude.{◌≡◌, ◌≢◌, ⊤, Err, Ok}
use Rattle.sqlite.specs.Schema.{Schema}
use Rattle.sqlite.specs.State.{State}
use Rattle.sqlite.specs.Tree.{Trees}
use Rattle.bank_books.specs.Books.{Books}
use Rattle.bank_books.specs.Records.{kept_of}
use Rattle.bank_books.specs.WorldLists.{WorldLists}
use Rattle.sql_schema.specs.Held.{AreOfWorld, HoldsBank}
use Rattle.store_sql.specs.Bank.{MayLeave}
use Rattle.book_check.specs.Verdict.{IsVerdict}
use Rattle.policy_check.specs.PolicyVerdict.{IsPolicyVerdict}
use Rattle.sql_create.specs.Blank.{no_schema}
use Rattle.sql_create.specs.declared.open_fault.OpenFault.{OpenFault}
use Rattle.sql_create.specs.declared.open_fault.OpenFault.TheVariants as fault

-- its books hold, its policy is sound, and nobody may execute what they certify
pub record IsBank (w : WorldLists) : Type 0 where
  pub books : Books w
  pub policy : IsPolicyVerdict w.policy (Ok tt)

-- The tables hold the rows of this World and of no other, and a crash leaves no others.
pub record IsKeptAs (s : State) (w : WorldLists) : Type 0 where
  pub holds : HoldsBank s w
  pub only : (other : WorldLists) → HoldsBank s other → other ≡ w
  pub durable : (trees : Trees) → s.may_leave trees → AreOfWorld w trees
  pub alone : (left : WorldLists) → MayLeave s left → left ≡ w

-- why no bank of this World is made in a database of this schema; a fault of the database may come at any point
abbrev pub IsRefusal : Schema → WorldLists → OpenFault → Type 0
IsRefusal schema w (fault.Books why) = IsVerdict w (kept_of w) (Err why)
IsRefusal schema w (fault.Policy why) = Books w × IsPolicyVerdict w.policy (Err why)
IsRefusal schema w fault.NotEmpty = IsBank w × (schema ≢ no_schema)
IsRefusal schema w (fault.Fault why) = ⊤

-- it was refused before the database was written to: for the World, or for what stands in the database
abbrev pub IsBeforehand : OpenFault → Type 0
IsBeforehand (fault.Fault why) = ⊥
IsBeforehand _ = ⊤
