-- What a statement of a table leaves, by the laws of the table.
use Rattle.std.proofs.Common.{ℕ, List, [], Ok, subst}
use Rattle.sqlite.specs.Rowids.TheVariants.{Given}
use Rattle.sqlite.proofs.Callers.{one_step}
use Rattle.sqlite_rules.specs.Action.{Writes as WritesTo}
use Rattle.sqlite_rules.specs.Calls.{ids_of}
use Rattle.sqlite_rules.specs.Edit.{Applies, taken_by}
use Rattle.sqlite_schema.specs.declared.schema.Keys.TheVariants.{Enforced}
use Rattle.sql_schema.proofs.WriteLemmas.{updates}
use Rattle.sql_schema.proofs.TableNames.{Row, Executes, State, edit_of, Sheets, HoldsTables, bank_schema, inserts}
use Rattle.sql_releases.specs.Tables.{Adds, Sets}

pub added : {X : Type 0} (text : List ℕ) (given : X → Row) (Fits : X → Type 0) (after : X → Sheets → Sheets) → Adds text given Fits after
    → (old new : State) (s : Sheets) (x : X) (count : ℕ) → Fits x → HoldsTables old.now s → Executes text (given x) old new (Ok count) → HoldsTables new.now (after x s)
added text given Fits after law old new s x count fit holds h =
    let it = inserts bank_schema text (given x) law.at law.table law.terms law.width law.is law.plain law.there law.uncounted law.unstamped old new count holds.schema h in
    record { schema = it.schema_is; sound = it.sound; rows = law.leaves old.now.trees new.now.trees s x fit holds.rows it.applies }

pub were_set : {X : Type 0} (text : List ℕ) (given : X → Row) (Fits : X → Type 0) (after : X → Sheets → Sheets) → Sets text given Fits after
    → (old new : State) (s : Sheets) (x : X) (count : ℕ) → Fits x → HoldsTables old.now s → Executes text (given x) old new (Ok count) → HoldsTables new.now (after x s)
were_set text given Fits after law old new s x count fit holds h =
    let it = updates bank_schema text (given x) law.at law.table (record { lets = []; body = law.body }) law.plain law.there law.is old new count holds.schema h in
    let edit = edit_of old.now.trees law.table (ids_of it.rows) Given 1 it.rows in
    let step : Applies bank_schema Enforced old.now.trees edit new.now.trees =
    one_step bank_schema Enforced old.now.trees new.now.trees edit (law.sets_nothing_off (taken_by old.now.trees edit) edit.news) (subst (λ s. WritesTo s Enforced old.now.trees edit (Ok new.now.trees)) holds.schema it.writes) in
    record { schema = it.schema_is; sound = it.sound; rows = law.leaves old.now.trees new.now.trees s x it.rows fit holds.rows it.answer.answer step }
