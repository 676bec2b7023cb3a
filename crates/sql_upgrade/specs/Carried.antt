-- What a file that was carried over holds.
use Rattle.std.specs.Prelude.{◌≡◌, IsTrue}
use Rattle.sqlite.specs.State.{State}
use Rattle.sqlite.specs.Tree.{Trees}
use Rattle.bank_books.specs.WorldLists.{WorldLists}
use Rattle.sql_schema.specs.Held.{AreOfWorld, HoldsBank}
use Rattle.sql_schema.specs.Schema.{schema_of}
use Rattle.sql_schema.specs.declared.edition.Edition.{Edition}
use Rattle.store_sql.specs.Bank.{MayLeave}
use Rattle.sql_adopt.specs.Adopted.{Finds}

-- The tables of an older schema version held a World whose books hold and whose policy is sound, and no other. Those
-- of the newest hold it now, and a crash leaves it in them alone.
pub record Carries (e : Edition) (old new : State) : Type 0 where
  pub world : WorldLists
  pub found : Finds e old.now world
  pub holds : HoldsBank new world
  pub durable : (trees : Trees) → new.may_leave trees → AreOfWorld world trees
  pub alone : (left : WorldLists) → MayLeave new left → left ≡ world

-- these trees are the tables of the newest schema version, with the World that those of the older one held
pub record IsCarriedOver (e : Edition) (old : State) (trees : Trees) : Type 0 where
  pub world : WorldLists
  pub found : Finds e old.now world
  pub holds : AreOfWorld world trees

-- Nothing was committed: if the connection is open, its last commit is one that a crash could leave before.
abbrev pub CommitsNone : State → State → Type 0
CommitsNone old new = IsTrue new.is_open → old.may_leave new.committed.trees

-- If the connection is open, its tables are those of this schema version, with nothing uncommitted in them.
pub record IsOf (e : Edition) (s : State) : Type 0 where
  pub schema : IsTrue s.is_open → s.now.schema ≡ schema_of e
  pub settled : IsTrue s.is_open → s.committed ≡ s.now
