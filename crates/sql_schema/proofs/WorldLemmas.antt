-- Tables that hold a World, and what leaves them so.
use Rattle.std.proofs.Common.{◌≡◌, Result, subst, sym}
use Rattle.sqlite.specs.Effect.{Database, IsDatabase}
use Rattle.sqlite.specs.State.{State}
use Rattle.bank_books.specs.WorldLists.{WorldLists}
use Rattle.book_kept.specs.Keepable.{IsKeepable}
use Rattle.book_kept.specs.Sheets.{sheets_of}
use Rattle.sql_schema.specs.Held.{HoldsSheetsIn, HoldsTables, HoldsWorld, HoldsWorldIn}
use Rattle.sql_schema.specs.Schema.{newest, schema_of}
use Rattle.sql_schema.specs.Steps.{Moves, Stays}
use Rattle.sql_schema.specs.declared.edition.Edition.{Edition}
use Rattle.sql_schema.proofs.StepLemmas.{ok_weaker}

pub tables_of : (db : Database) (w : WorldLists) → HoldsWorld db w → HoldsTables db (sheets_of w)
tables_of db w h = record { schema = h.schema; sound = subst (λ schema. IsDatabase (record { schema = schema; trees = db.trees })) (sym h.schema) h.world.listed; rows = h.world.rows }

pub world_in : (e : Edition) (db : Database) (w : WorldLists) → IsKeepable w → db.schema ≡ schema_of e → IsDatabase db → HoldsSheetsIn e db.trees (sheets_of w) → HoldsWorldIn e db w
world_in e db w can schema sound rows = record { schema = schema; world = record { listed = subst (λ schema. IsDatabase (record { schema = schema; trees = db.trees })) schema sound; rows = rows; keepable = can } }

pub world_of : (db : Database) (w : WorldLists) → IsKeepable w → HoldsTables db (sheets_of w) → HoldsWorld db w
world_of db w can h = world_in newest db w can h.schema h.sound h.rows

-- what leaves the rows as they are leaves the World
pub moves_nothing : {X E : Type 0} (old new : State) (result : Result X E) → Stays old new result → Moves old new (λ w. w) result
moves_nothing old new result steps clean inside w holds =
    let it = steps clean inside (sheets_of w) (tables_of old.now w holds) in
    (ok_weaker result _ _ (λ h. (h.0, world_of new.now w holds.world.keepable h.1)) it.0, it.1)
