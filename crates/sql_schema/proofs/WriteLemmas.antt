-- What a write of rows by their values does to the trees.
use Rattle.std.specs.Prelude.{MatchBool}
use Rattle.std.proofs.Common.{true≢false, subst₂, ◌≡◌, ◌⊎◌, inl, inr, ℕ, ℤ, ◌/◌, List, [], append-nil, length, slice_get, Bool, true, false, cond, Some, None, Ok, Err, Result, refl, sym, ap, subst, ◌∙◌}
use Rattle.sqlite.specs.declared.types.Value.{Value}
use Rattle.sqlite.specs.declared.types.Value.TheVariants.{Null, Int}
use Rattle.sqlite.specs.Order.{Row}
use Rattle.sqlite.specs.Term.{Term}
use Rattle.sqlite.specs.Ops.{unary}
use Rattle.sqlite.specs.Table.{Table}
use Rattle.sqlite.specs.Schema.{Schema}
use Rattle.sqlite.specs.Kind.TheVariants.{Integer}
use Rattle.sqlite.specs.Source.TheVariants.{Values}
use Rattle.sqlite.specs.Command.TheVariants.{Insert, Update, Delete}
use Rattle.sqlite_schema.specs.declared.program.Program.{Program}
use Rattle.sqlite_rules.specs.Action.{Writes as WritesTo}
use Rattle.sqlite_rules.specs.Calls.{ids_of}
use Rattle.sqlite.specs.Edit.{Edit, edit_of}
use Rattle.sqlite_rules.specs.Edit.{Applies}
use Rattle.sqlite_rules.proofs.ActionLemmas.{no_works}
use Rattle.sqlite_schema.specs.declared.schema.Keys.TheVariants.{Enforced}
use Rattle.sqlite.specs.Cast.{cast}
use Rattle.sqlite.specs.Rowids.{Rowids}
use Rattle.sqlite.specs.Rowids.TheVariants.{Chosen, Above, Given}
use Rattle.sqlite.specs.Does.{Tally, OnRows, AtPlace}
use Rattle.sqlite.specs.Rows.{Task, Written, rowids_for, count_of}
use Rattle.sqlite.specs.Listing.{understood}
use Rattle.sqlite.specs.Effect.{Database, IsDatabase, Answers, value_rows}
use Rattle.sqlite.specs.State.{State, mode_of, Executes, Shows}
use Rattle.sqlite.proofs.Callers.{IsPlain, command_of, runs_as, one_step}

either : (b : Bool) (x : Value) → cond b x x ≡ x
either true x = refl
either false x = refl

pub cast_int : (n : ℤ) → cast Integer (Int n) ≡ Int n
unfolding unary
cast_int n = either _ (Int n)

pub cast_null : cast Integer Null ≡ Null
unfolding unary
cast_null = either _ Null

went : {B E R : Type 0} {b : B} {Stops : E → Type 0} → ((stop : E) × Stops stop × (Ok b ≡ Err stop)) ⊎ R → R
went (inl stopped) = absurd (let e = stopped.2 in cc)
went (inr on) = on

same_value : {B E : Type 0} {a b : B} → ◌≡◌ {A = Result B E} (Ok a) (Ok b) → a ≡ b
same_value e = cc

settle : (b c : Bool) (A B : Type 0) → b ≡ false → MatchBool (cond b c false) A B → B
settle false c A B e h = h
settle true c A B e h = absurd (true≢false e)

-- what an INSERT of values leaves
pub record Inserted (schema : Schema) (table : Table) (rows : List Row) (old new : State) : Type 0 where
  pub schema_is : new.now.schema ≡ schema
  pub sound : IsDatabase new.now
  pub applies : Applies schema Enforced old.now.trees (edit_of old.now.trees table [] Chosen 0 rows) new.now.trees
  pub shown : Shows old new new.now (cond old.in_transaction old.committed new.now) old.in_transaction

module _ (schema : Schema) (sql : List ℕ) (params : Row) (at : ℕ) (table : Table) (terms : List Term) (width : ℕ)
    (is : command_of (understood schema sql) ≡ Insert at (Values terms width)) (plain : IsPlain (understood schema sql))
    (there : slice_get schema.tables at ≡ Some table) (uncounted : table.is_counted ≡ false) (unstamped : table.stamps.terms ≡ []) where
  pub inserts : (old new : State) (count : ℕ) → old.now.schema ≡ schema → Executes sql params old new (Ok count)
      → Inserted schema table (value_rows params width (length terms / width) terms) old new
  inserts old new count has h =
      let db = old.now.trees in
      let command = Insert at (Values terms width) in
      let w = runs_as sql params old new schema has command is plain count h in
      let task : Task = record { limit = old.step_limit; keys = Enforced; schema = old.now.schema; table = table; params = params } in
      let placed : slice_get old.now.schema.tables at ≡ Some table = ap (λ (s : Schema). slice_get s.tables at) has ∙ there in
      let did : OnRows task (mode_of old) None command db (Ok (w.tally, new.now)) =
      subst (λ o. AtPlace (λ (t : Table). OnRows (record task { table = t }) (mode_of old) None command db) o (Ok (w.tally, new.now))) placed w.changed in
      let done = went did in
      let now = ap (λ (p : Tally × Database). p.1) (same_value (went (went done.2).2).2) in
      let given = went done.1 in
      let all : given.0 ≡ value_rows params width (length terms / width) terms = given.1.1 ∙ ap (λ ps. value_rows ps width (length terms / width) terms) (rw (unstamped, append-nil params)) in
      let counter = went given.2 in
      let written = went counter.2 in
      let counted = went written.2 in
      let mid : counted.0 ≡ written.0 = same_value (settle table.is_counted _ _ _ uncounted counted.1) in
      let trees : done.0.trees ≡ written.0 = ap (λ (it : Written). it.trees) (same_value counted.2) ∙ mid in
      let edit : Rowids → List Row → Edit = λ how rows. edit_of db table [] how 0 rows in
      let values = value_rows params width (length terms / width) terms in
      let chosen : rowids_for table (count_of counter.0) ≡ Chosen = ap (λ b. cond b (Above (count_of counter.0)) Chosen) uncounted in
      let first : Applies old.now.schema Enforced db (edit (rowids_for table (count_of counter.0)) given.0) written.0 =
      one_step old.now.schema Enforced db written.0 (edit (rowids_for table (count_of counter.0)) given.0) (no_works old.now.schema Enforced 0 table.tree _) written.1 in
      let second : Applies old.now.schema Enforced db (edit Chosen values) written.0 =
      subst₂ (λ how rows. Applies old.now.schema Enforced db (edit how rows) written.0) chosen all first in
      let after : new.now.trees ≡ written.0 = ap (λ (d : Database). d.trees) now ∙ trees in
      record {
        schema_is = ap (λ (d : Database). d.schema) now ∙ has;
        sound = w.sound;
        applies = subst₂ (λ s t. Applies s Enforced db (edit Chosen values) t) has (sym after) second;
        shown = w.shown;
      }

-- what an UPDATE or a DELETE leaves, by the rows that its query picks
pub record Picked (schema : Schema) (table : Table) (q : Program) (params : Row) (from : ℕ) (sources : List Row → List Row) (old new : State) : Type 0 where
  pub rows : List Row
  pub answer : Answers (record { schema = old.now.schema; trees = old.now.trees }) q params rows
  pub schema_is : new.now.schema ≡ schema
  pub sound : IsDatabase new.now
  pub writes : WritesTo old.now.schema Enforced old.now.trees (edit_of old.now.trees table (ids_of rows) Given from (sources rows)) (Ok new.now.trees)
  pub shown : Shows old new new.now (cond old.in_transaction old.committed new.now) old.in_transaction

module _ (schema : Schema) (sql : List ℕ) (params : Row) (at : ℕ) (table : Table) (q : Program) (plain : IsPlain (understood schema sql)) (there : slice_get schema.tables at ≡ Some table) where
  pub updates : command_of (understood schema sql) ≡ Update at q → (old new : State) (count : ℕ) → old.now.schema ≡ schema → Executes sql params old new (Ok count) → Picked schema table q params 1 (λ rows. rows) old new
  updates is old new count has h =
      let db = old.now.trees in
      let command = Update at q in
      let w = runs_as sql params old new schema has command is plain count h in
      let task : Task = record { limit = old.step_limit; keys = Enforced; schema = old.now.schema; table = table; params = params } in
      let placed : slice_get old.now.schema.tables at ≡ Some table = ap (λ (s : Schema). slice_get s.tables at) has ∙ there in
      let did : OnRows task (mode_of old) None command db (Ok (w.tally, new.now)) =
      subst (λ o. AtPlace (λ (t : Table). OnRows (record task { table = t }) (mode_of old) None command db) o (Ok (w.tally, new.now))) placed w.changed in
      let done = went did in
      let now = ap (λ (p : Tally × Database). p.1) (same_value (went (went done.2).2).2) in
      let given = went done.1 in
      let written = went given.2 in
      let trees : done.0.trees ≡ written.0 = ap (λ (it : Written). it.trees) (same_value written.2) in
      let after : new.now.trees ≡ written.0 = ap (λ (d : Database). d.trees) now ∙ trees in
      record {
        rows = given.0;
        answer = given.1;
        schema_is = ap (λ (d : Database). d.schema) now ∙ has;
        sound = w.sound;
        writes = subst (λ t. WritesTo old.now.schema Enforced db (edit_of db table (ids_of given.0) Given 1 given.0) (Ok t)) (sym after) written.1;
        shown = w.shown;
      }

  pub deletes : command_of (understood schema sql) ≡ Delete at q → (old new : State) (count : ℕ) → old.now.schema ≡ schema → Executes sql params old new (Ok count) → Picked schema table q params 0 (λ rows. []) old new
  deletes is old new count has h =
      let db = old.now.trees in
      let command = Delete at q in
      let w = runs_as sql params old new schema has command is plain count h in
      let task : Task = record { limit = old.step_limit; keys = Enforced; schema = old.now.schema; table = table; params = params } in
      let placed : slice_get old.now.schema.tables at ≡ Some table = ap (λ (s : Schema). slice_get s.tables at) has ∙ there in
      let did : OnRows task (mode_of old) None command db (Ok (w.tally, new.now)) =
      subst (λ o. AtPlace (λ (t : Table). OnRows (record task { table = t }) (mode_of old) None command db) o (Ok (w.tally, new.now))) placed w.changed in
      let done = went did in
      let now = ap (λ (p : Tally × Database). p.1) (same_value (went (went done.2).2).2) in
      let given = went done.1 in
      let written = went given.2 in
      let trees : done.0.trees ≡ written.0 = ap (λ (it : Written). it.trees) (same_value written.2) in
      let after : new.now.trees ≡ written.0 = ap (λ (d : Database). d.trees) now ∙ trees in
      record {
        rows = given.0;
        answer = given.1;
        schema_is = ap (λ (d : Database). d.schema) now ∙ has;
        sound = w.sound;
        writes = subst (λ t. WritesTo old.now.schema Enforced db (edit_of db table (ids_of given.0) Given 0 []) (Ok t)) (sym after) written.1;
        shown = w.shown;
      }
