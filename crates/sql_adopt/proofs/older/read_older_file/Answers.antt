-- What search finds for itself, asked for here so that a mutant is refused soon.
use Rattle.std.proofs.Common.{◌≡◌, ◌≢◌, ℕ, Result, Ok, Err, IfErr, IfOk, IsErrAnd, IsTrue, OnOk, rules}
use Rattle.std.specs.Prelude.{IsSome}
use Rattle.sqlite.specs.Effect.{IsDatabase}
use Rattle.sqlite.specs.Held.{state}
use Rattle.sql_schema.specs.Held.{HoldsSheetsIn}
use Rattle.sql_schema.specs.Readable.{AreReadable}
use Rattle.sql_schema.specs.Schema.{newest}
use Rattle.sql_schema.specs.declared.edition.Edition.{Edition}
use Rattle.book_kept.specs.Sheets.{Sheets}
use Rattle.sql_whole.specs.Whole.{HasBankTables}
use Rattle.sql_adopt.specs.Adopted.{AreFileRows, IsBankFileIn, IsBankRow}
use Rattle.sql_adopt.specs.Older.{BearsNoOther}
use Rattle.sql_adopt.specs.Refused.{IsOfOther, IsOfStore, IsRefusedIn}
use Rattle.sql_adopt.proofs.LeftLemmas.{left_with, trees_kept}
use Rattle.sql_adopt.proofs.older.read_older_file.Goals as goal

on_ok : {X E A B : Type 0} (r : Result X E) → (A → B) → OnOk r A → OnOk r B
on_ok (Ok x) then is = then is
on_ok (Err e) then is = tt

pub returns-clause-whole : goal.returns-clause-whole
returns-clause-whole g c clean e older = stated e older.file older.row
  where
    stated : (e : Edition) → IsBankFileIn e (state g.S.Store c.args.conn.now) → BearsNoOther e (state g.S.Store c.args.conn.now).now.trees
        → IfOk c.all_older_rows-rows.result (λ file. (file.edition ≡ e) × AreFileRows e (state g.S.Store c.args.conn.now).now.trees file.rows)
    stated e file bears =
        let has : HasBankTables e (state g.S.Store c.args.conn.now) = search rules in
        (c.all_older_rows-rows.ensures.whole e bears clean has).0

pub returns-clause-refused : goal.returns-clause-refused
returns-clause-refused g c clean e older = stated e older.older older.file older.row
  where
    stated : (e : Edition) → e ≢ newest → IsBankFileIn e (state g.S.Store c.args.conn.now) → BearsNoOther e (state g.S.Store c.args.conn.now).now.trees
        → IfErr c.all_older_rows-rows.result (IsRefusedIn e (state g.S.Store c.args.conn.now).now.trees)
    stated e older file bears =
        let has : HasBankTables e (state g.S.Store c.args.conn.now) = search rules in
        c.all_older_rows-rows.ensures.refused e older bears clean has

pub returns-clause-takes : goal.returns-clause-takes
returns-clause-takes g c clean e older s holds readable = stated e older.older older.file older.row s holds readable
  where
    stated : (e : Edition) → e ≢ newest → IsBankFileIn e (state g.S.Store c.args.conn.now) → BearsNoOther e (state g.S.Store c.args.conn.now).now.trees
        → (s : Sheets) → HoldsSheetsIn e (state g.S.Store c.args.conn.now).now.trees s → AreReadable s → IfOk c.all_older_rows-rows.result (λ file. IsSome file.rows.policy) × IfErr c.all_older_rows-rows.result IsOfStore
    stated e older file bears s holds readable =
        let has : HasBankTables e (state g.S.Store c.args.conn.now) = search rules in
        c.all_older_rows-rows.ensures.takes e older bears clean has s holds readable

pub returns-clause-other : goal.returns-clause-other
returns-clause-other g c clean other = stated other.file other.version other.row
  where
    stated : IsBankFileIn newest (state g.S.Store c.args.conn.now) → (version : ℕ) → IsBankRow newest (state g.S.Store c.args.conn.now).now.trees version → IsErrAnd c.all_older_rows-rows.result IsOfOther
    stated file version row =
        let has : HasBankTables newest (state g.S.Store c.args.conn.now) = search rules in
        c.all_older_rows-rows.ensures.other clean newest has version row

pub returns-clause-left : goal.returns-clause-left
returns-clause-left g c clean is file =
    let old = state g.S.Store c.args.conn.now in
    let new = state g.S.Store c.all_older_rows-rows.new.conn in
    let stayed = (c.all_older_rows-rows.ensures.read_only.was_open clean).1 in
    let trees : IsTrue new.is_open → new.committed.trees ≡ old.committed.trees =
    λ is_open. trees_kept old new c.all_older_rows-rows.ensures.read_only.survives clean (g.met.S.Store.stays c.all_older_rows-rows.new.conn.store is_open)
    (λ db may. g.met.S.Store.settled c.args.conn.now.store db (stayed is_open) may)
    in
    let idle : IsTrue c.is_autocommit-idle.result = search rules in
    left_with is old new file stayed (c.is_autocommit-idle.ensures.settled idle) trees c.schema-schema.ensures.live c.schema-left.ensures.live

pub returns-clause-sound : goal.returns-clause-sound
returns-clause-sound g c clean e older = stated older.file
  where
    stated : IsBankFileIn e (state g.S.Store c.args.conn.now) → OnOk c.all_older_rows-rows.result (IsDatabase (state g.S.Store c.args.conn.now).now)
    stated file =
        let has : HasBankTables e (state g.S.Store c.args.conn.now) = search rules in
        let sound : IsTrue (state g.S.Store c.args.conn.now).is_open → IsDatabase (state g.S.Store c.args.conn.now).now = search rules in
        on_ok c.all_older_rows-rows.result sound (c.all_older_rows-rows.ensures.read_only.was_open clean).0
