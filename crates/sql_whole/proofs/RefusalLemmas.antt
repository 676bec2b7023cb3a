-- Why a query for a whole table is refused on a connection to the tables of a bank: for the database, or for a limit on steps.
use Rattle.std.proofs.Common.{◌≡◌, ℕ, Option, List, [], length, true, append-nil, inl, inr, Ok, Err, Result, ap, sym, subst, arith, ◌∙◌}
use Rattle.sqlite.specs.Clock.{timed}
use Rattle.sqlite.specs.Command.TheVariants.{Select}
use Rattle.sqlite.specs.Effect.{Database, RefusesQuery}
use Rattle.sqlite.specs.Listing.{IsSourceOf, reads_listing, understood}
use Rattle.sqlite.specs.State.{FailsToQuery, FailsToShow, HasCause, IsNoStatement, IsNotRun, IsStatement, State, store_error}
use Rattle.sqlite.specs.declared.error.Error.{Error}
use Rattle.sqlite.proofs.Callers.{IsPlain}
use Rattle.sqlite_resolve.specs.declared.compiled.Compiled.{Compiled}
use Rattle.sqlite_resolve.specs.declared.error.CompileError.{CompileError}
use Rattle.sqlite_trees.specs.declared.error.StoreError.{StoreError}
use Rattle.sqlite_trees.specs.declared.error.StoreError.TheVariants.{OutOfMemory, Io, Corrupt, Full, Broken, Unstorable}
use Rattle.sqlite_typing.specs.Types.{accepts_program}
use Rattle.sql_schema.specs.Schema.{schema_of}
use Rattle.sql_schema.specs.declared.edition.Edition.{Edition}
use Rattle.sql_whole.specs.Faults.{IsOfDatabase, read_fault_named}
use Rattle.sql_whole.specs.Whole.{IsAlone, IsAnswered, IsQueryFor}
use Rattle.sql_whole.specs.declared.fault.Table.{Table}

of_store : (old new : State) (table : Table) (cause : StoreError) (e : Error) → e ≡ store_error cause → HasCause old new ⊥ cause → IsOfDatabase (read_fault_named e table)
of_store old new table OutOfMemory e is h = subst (λ x. IsOfDatabase (read_fault_named x table)) (sym is) tt
of_store old new table Io e is h = subst (λ x. IsOfDatabase (read_fault_named x table)) (sym is) tt
of_store old new table Corrupt e is h = subst (λ x. IsOfDatabase (read_fault_named x table)) (sym is) tt
of_store old new table Full e is h = subst (λ x. IsOfDatabase (read_fault_named x table)) (sym is) tt
of_store old new table Broken e is h = subst (λ x. IsOfDatabase (read_fault_named x table)) (sym is) tt
of_store old new table Unstorable e is h = absurd h

module _ (edition : Edition) (text : List ℕ) (asks : IsAnswered edition text) (table : Table) (old new : State) (e : Error) (has : old.now.schema ≡ schema_of edition) where
  at_bank : (r : Result Compiled CompileError) → understood old.now.schema text ≡ r → understood (schema_of edition) text ≡ r
  at_bank r is = ap (λ s. understood s text) (sym has) ∙ is

  no_statement : IsNoStatement old text [] e → ⊥
  no_statement (inl h) = subst (IsQueryFor asks.query asks.names) (at_bank (Err h.0) h.1) asks.is
  no_statement (inr (c, is, inl longer)) = longer.0 (let alone = subst (IsAlone (length text)) (at_bank (Ok c) is) asks.alone in omega (arith, alone.0))
  no_statement (inr (c, is, inr (inl given))) = given.0 (ap length (sym (subst (IsAlone (length text)) (at_bank (Ok c) is) asks.alone).1))
  no_statement (inr (c, is, inr (inr timed))) = timed.0 (subst IsPlain (at_bank (Ok c) is) asks.plain).1

  refused : (limit : Option ℕ) (db : Database) → db ≡ old.now → RefusesQuery limit db (record { lets = []; body = asks.query }) [] e → IsOfDatabase (read_fault_named e table)
  refused limit db is (inl mismatch) = absurd (let typed : accepts_program db.schema [] asks.query [] ≡ true = subst (λ s. accepts_program s [] asks.query [] ≡ true) (sym (ap (λ (d : Database). d.schema) is ∙ has)) asks.typed in let no = mismatch.1 in cc)
  refused limit db is (inr (inl overflow)) = absurd (asks.adds_nothing db.trees overflow.1)
  refused limit db is (inr (inr interrupted)) = subst (λ x. IsOfDatabase (read_fault_named x table)) (sym interrupted.0) tt

  shows_not : (c : Compiled) (it : IsStatement old text [] c) → FailsToShow old new text c (timed [] c.formats it.now) e c.returning → IsOfDatabase (read_fault_named e table)
  shows_not c it h =
      let plain = subst IsPlain (at_bank (Ok c) it.is) asks.plain in
      let command : c.command ≡ Select (record { lets = []; body = asks.query }) asks.names = subst (IsQueryFor asks.query asks.names) (at_bank (Ok c) it.is) asks.is in
      let shown = rw (plain.0, plain.1, append-nil [], command) at h in
      let db : shown.0 ≡ old.now = subst (λ b. IsSourceOf b old.now shown.0) (ap (λ s. reads_listing s text) has ∙ asks.unlisted) shown.1 in
      refused old.step_limit shown.0 db shown.2

  pub of_database : FailsToQuery text [] old new e → IsOfDatabase (read_fault_named e table)
  unfolding FailsToQuery IsNotRun
  of_database (inl (inl h)) = absurd (no_statement h.0)
  of_database (inl (inr h)) = of_store old new table h.0 e h.1 h.2
  of_database (inr h) = shows_not h.0 h.1 h.2
