use Rattle.std.proofs.Common.{◌<◌, subst}
use Rattle.sqlite.specs.Held.{state}
use Rattle.bank_terms.specs.Limits.{max_version}
use Rattle.book_kept.specs.Sheets.{sheets_of}
use Rattle.sql_schema.proofs.StepLemmas.{always_ok, early}
use Rattle.sql_writes.proofs.KeptLemmas.{version_moves}
use Rattle.sql_schema.proofs.WorldLemmas.{tables_of}
use Rattle.sql_writes.proofs.ThenLemmas.{has_room, moves_stopped, version_steps}
use Rattle.sql_schema.proofs.StepChains.{read_step}
use Rattle.sql_writes.proofs.version_writes.raise_version.Goals as goal

pub returns-in_err-version-clause-moves : goal.returns-in_err-version-clause-moves
returns-in_err-version-clause-moves g c = moves_stopped _ c.from_residual.result c.from_residual.ensures.0 (read_step c.version_of.ensures.reads)

pub returns-clause-moves : goal.returns-clause-moves
returns-clause-moves g c =
    let old = state g.S.Store c.args.tx.now.conn.now in
    let mid = state g.S.Store c.version_of.new.tx.conn.now in
    let new = state g.S.Store c.set_version.new.tx.conn.now in
    version_moves old new c.set_version.result
    (version_steps old mid new c.in_ok-version.version c.set_version.result c.in_ok-version.ensures.found c.in_ok-version.ensures.reads.stays c.set_version.ensures.step.survives c.set_version.ensures.step.steps)

pub returns-clause-room : goal.returns-clause-room
returns-clause-room g c clean inside w holds =
    let old = state g.S.Store c.args.tx.now.conn.now in
    let mid = state g.S.Store c.version_of.new.tx.conn.now in
    let new = state g.S.Store c.set_version.new.tx.conn.now in
    let is = c.in_ok-version.ensures.found (early mid new _ c.set_version.ensures.step.survives clean) (sheets_of w) (tables_of old.now w holds) in
    always_ok c.set_version.result _ (has_room w.version (subst (λ n. n < max_version) is (c.has_room.ensures.0 c.if-not-has_room.false)))

pub returns-then-not-has_room-clause-moves : goal.returns-then-not-has_room-clause-moves
returns-then-not-has_room-clause-moves g c clean inside w holds =
    (tt, (c.in_ok-version.ensures.reads.stays clean inside (sheets_of w) (tables_of (state g.S.Store c.args.tx.now.conn.now).now w holds)).1)
