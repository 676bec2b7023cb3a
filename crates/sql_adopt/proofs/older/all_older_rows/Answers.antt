use Rattle.std.proofs.Common.{◌≡◌}
use Rattle.std.specs.Prelude.{IsSome, ⊤}
use Rattle.sqlite.specs.Held.{state}
use Rattle.sql_schema.specs.Held.{HoldsSheetsIn}
use Rattle.sql_schema.specs.Readable.{AreReadable}
use Rattle.sql_schema.proofs.StepLemmas.{early}
use Rattle.book_kept.specs.Sheets.{Sheets}
use Rattle.sql_adopt.specs.Adopted.{AreFileRows}
use Rattle.sql_adopt.specs.Refused.{IsOfStore, IsRefusedIn}
use Rattle.sql_adopt.proofs.OlderLemmas.{older_then}
use Rattle.sql_adopt.proofs.ReadingLemmas.{gave_last, handed_refused}
use Rattle.sql_adopt.proofs.TakenLemmas.{handed_both, handed_other}
use Rattle.sql_adopt.proofs.older.all_older_rows.Goals as goal

pub returns-in_err-edition-clause-whole : goal.returns-in_err-edition-clause-whole
returns-in_err-edition-clause-whole g c e bears =
    gave_last e (state g.S.Store c.args.conn.now) (state g.S.Store c.edition_read.new.conn) (λ trees file. (file.edition ≡ e) × AreFileRows e trees file.rows) c.from_residual.result c.from_residual.ensures.0
    (λ clean has. (c.in_err-edition.ensures.whole e clean has).2)

pub returns-in_err-rows-clause-whole : goal.returns-in_err-rows-clause-whole
returns-in_err-rows-clause-whole g c e bears =
    let s0 = state g.S.Store c.args.conn.now in
    let s1 = state g.S.Store c.edition_read.new.conn in
    let s2 = state g.S.Store c.all_rows.new.conn in
    gave_last e s0 s2 (λ trees file. (file.edition ≡ e) × AreFileRows e trees file.rows) c.from_residual-in_err-rows.result c.from_residual-in_err-rows.ensures.0
    (λ clean has. (older_then e c.in_ok-edition.edition s0 s1 s2 c.all_rows.ensures.read_only.survives bears (c.in_ok-edition.ensures.whole e) (λ x db. ⊤) (λ clean has. (tt, (c.in_err-rows.ensures.whole clean has).1)) clean has).1)

pub returns-clause-whole : goal.returns-clause-whole
returns-clause-whole g c e bears clean has =
    let s0 = state g.S.Store c.args.conn.now in
    let s1 = state g.S.Store c.edition_read.new.conn in
    let s2 = state g.S.Store c.all_rows.new.conn in
    older_then e c.in_ok-edition.edition s0 s1 s2 c.all_rows.ensures.read_only.survives bears (c.in_ok-edition.ensures.whole e) (λ x db. AreFileRows x db c.in_ok-rows.rows) c.in_ok-rows.ensures.whole clean has

pub returns-in_err-edition-clause-refused : goal.returns-in_err-edition-clause-refused
returns-in_err-edition-clause-refused g c e older bears clean has =
    handed_refused e (state g.S.Store c.args.conn.now).now.trees c.from_residual.result c.in_err-edition.field-0.0 c.from_residual.ensures.1 (c.in_err-edition.ensures.refused e older clean has)

pub returns-in_err-rows-clause-refused : goal.returns-in_err-rows-clause-refused
returns-in_err-rows-clause-refused g c e older bears clean has =
    let s0 = state g.S.Store c.args.conn.now in
    let s1 = state g.S.Store c.edition_read.new.conn in
    let s2 = state g.S.Store c.all_rows.new.conn in
    let fault = c.in_err-rows.field-0.0 in
    handed_refused e s0.now.trees c.from_residual-in_err-rows.result fault c.from_residual-in_err-rows.ensures.1
    (older_then e c.in_ok-edition.edition s0 s1 s2 c.all_rows.ensures.read_only.survives bears (c.in_ok-edition.ensures.whole e) (λ x db. IsRefusedIn x db fault)
    (λ clean has. (c.in_err-rows.ensures.refused clean has, (c.in_err-rows.ensures.whole clean has).1)) clean has).0.1

pub returns-in_err-edition-clause-takes : goal.returns-in_err-edition-clause-takes
returns-in_err-edition-clause-takes g c e older bears clean has s holds readable =
    handed_both c.from_residual.result c.in_err-edition.field-0.0 (λ file. IsSome file.rows.policy) c.from_residual.ensures.1 (c.in_err-edition.ensures.takes e older clean has s holds readable)

pub returns-in_err-rows-clause-takes : goal.returns-in_err-rows-clause-takes
returns-in_err-rows-clause-takes g c e older bears clean has s holds readable =
    let s0 = state g.S.Store c.args.conn.now in
    let s1 = state g.S.Store c.edition_read.new.conn in
    let s2 = state g.S.Store c.all_rows.new.conn in
    let fault = c.in_err-rows.field-0.0 in
    handed_both c.from_residual-in_err-rows.result fault (λ file. IsSome file.rows.policy) c.from_residual-in_err-rows.ensures.1
    ((older_then e c.in_ok-edition.edition s0 s1 s2 c.all_rows.ensures.read_only.survives bears (c.in_ok-edition.ensures.whole e) (λ x db. (s : Sheets) → HoldsSheetsIn x db s → AreReadable s → IsOfStore fault)
    (λ clean has. (λ s holds readable. (c.in_err-rows.ensures.takes clean has s holds readable).1, (c.in_err-rows.ensures.whole clean has).1)) clean has).0.1 s holds readable)

pub returns-clause-takes : goal.returns-clause-takes
returns-clause-takes g c e older bears clean has s holds readable =
    let s0 = state g.S.Store c.args.conn.now in
    let s1 = state g.S.Store c.edition_read.new.conn in
    let s2 = state g.S.Store c.all_rows.new.conn in (
      (older_then e c.in_ok-edition.edition s0 s1 s2 c.all_rows.ensures.read_only.survives bears (c.in_ok-edition.ensures.whole e) (λ x db. (s : Sheets) → HoldsSheetsIn x db s → AreReadable s → IsSome c.in_ok-rows.rows.policy)
          (λ clean has. (λ s holds readable. (c.in_ok-rows.ensures.takes clean has s holds readable).0, (c.in_ok-rows.ensures.whole clean has).1)) clean has).0.1 s holds readable,
      tt,
    )

pub returns-in_err-edition-clause-other : goal.returns-in_err-edition-clause-other
returns-in_err-edition-clause-other g c clean e has version row =
    handed_other c.from_residual.result c.in_err-edition.field-0.0 c.from_residual.ensures.1 (c.in_err-edition.ensures.other clean e has version row)

pub returns-in_err-rows-clause-other : goal.returns-in_err-rows-clause-other
returns-in_err-rows-clause-other g c clean e has version row =
    let s1 = state g.S.Store c.edition_read.new.conn in
    let s2 = state g.S.Store c.all_rows.new.conn in
    absurd (c.in_ok-edition.ensures.other (early s1 s2 _ c.all_rows.ensures.read_only.survives clean) e has version row)

pub returns-clause-other : goal.returns-clause-other
returns-clause-other g c clean e has version row =
    let s1 = state g.S.Store c.edition_read.new.conn in
    let s2 = state g.S.Store c.all_rows.new.conn in
    absurd (c.in_ok-edition.ensures.other (early s1 s2 _ c.all_rows.ensures.read_only.survives clean) e has version row)
