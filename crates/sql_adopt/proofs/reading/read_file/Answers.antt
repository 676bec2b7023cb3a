-- What search finds for itself, asked for here so that a mutant is refused soon.
use Rattle.std.proofs.Common.{◌≡◌, ◌≢◌, ℕ, IsErrAnd, IsTrue, rules}
use Rattle.sqlite.specs.Held.{state}
use Rattle.sql_schema.specs.Cells.{edition_number}
use Rattle.sql_schema.specs.declared.edition.Edition.{Edition}
use Rattle.sql_whole.specs.Whole.{HasBankTables}
use Rattle.sql_adopt.specs.Adopted.{IsBankFileIn, IsBankRow}
use Rattle.sql_adopt.specs.Refused.{IsOfOther}
use Rattle.sql_adopt.proofs.LeftLemmas.{left_with, trees_kept}
use Rattle.sql_adopt.proofs.reading.read_file.Goals as goal

pub returns-clause-left : goal.returns-clause-left
returns-clause-left g c clean is file =
    let old = state g.S.Store c.args.conn.now in
    let new = state g.S.Store c.all_rows-rows.new.conn in
    let stayed = (c.all_rows-rows.ensures.read_only.was_open clean).1 in
    let trees : IsTrue new.is_open → new.committed.trees ≡ old.committed.trees =
    λ is_open. trees_kept old new c.all_rows-rows.ensures.read_only.survives clean (g.met.S.Store.stays c.all_rows-rows.new.conn.store is_open)
    (λ db may. g.met.S.Store.settled c.args.conn.now.store db (stayed is_open) may)
    in
    let idle : IsTrue c.is_autocommit-idle.result = search rules in
    left_with is old new file stayed (c.is_autocommit-idle.ensures.settled idle) trees c.schema-schema.ensures.live c.schema-left.ensures.live

pub returns-clause-other : goal.returns-clause-other
returns-clause-other g c clean other = stated other.is other.file other.version other.row other.differs
  where
    stated : (e : Edition) → IsBankFileIn e (state g.S.Store c.args.conn.now) → (version : ℕ) → IsBankRow e (state g.S.Store c.args.conn.now).now.trees version → edition_number e ≢ edition_number c.args.edition
        → IsErrAnd c.all_rows-rows.result IsOfOther
    stated e file version row differs =
        let has : HasBankTables e (state g.S.Store c.args.conn.now) = search rules in
        c.all_rows-rows.ensures.other clean e has version row differs
