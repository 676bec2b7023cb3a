use Rattle.std.proofs.Common.{◌∷◌, []}
use Rattle.sqlite.specs.Held.{state}
use Rattle.sql_schema.proofs.StepLemmas.{always_ok, early, kept_then, none_ok}
use Rattle.bank_books.specs.declared.row_write.RowWrite.TheVariants as write
use Rattle.book_kept.specs.Changes.{legs_sheets}
use Rattle.book_kept.specs.Sheets.{sheets_of}
use Rattle.sql_writes.proofs.RequiredLemmas.{of_found}
use Rattle.sql_writes.proofs.KeptLemmas.{all_held}
use Rattle.sql_writes.proofs.KnownLemmas.{legs_left}
use Rattle.sql_writes.proofs.ThenLemmas.{known_stopped}
use Rattle.sql_schema.proofs.WorldLemmas.{tables_of}
use Rattle.sql_writes.proofs.leg_writes.write_legs.Goals as goal

pub returns-in_err-named-clause-moves : goal.returns-in_err-named-clause-moves
returns-in_err-named-clause-moves g c = known_stopped _ _ c.from_residual.result c.from_residual.ensures.0 c.rows_of_legs.ensures.step

pub returns-in_err-rows-clause-moves : goal.returns-in_err-rows-clause-moves
returns-in_err-rows-clause-moves g c = known_stopped _ _ c.from_residual-in_err-rows.result c.from_residual-in_err-rows.ensures.0 c.rows_of_legs.ensures.step

pub returns-clause-moves : goal.returns-clause-moves
returns-clause-moves g c clean inside w holds known =
    let s0 = state g.S.Store c.args.tx.now.conn.now in
    let s1 = state g.S.Store c.rows_of_legs.new.tx.conn.now in
    let s2 = state g.S.Store c.put_legs.new.tx.conn.now in
    let clean1 = early s1 s2 _ c.put_legs.ensures.step.survives clean in
    let tables = tables_of s0.now w holds in
    let rows = c.in_ok-rows.rows in
    let x1 = c.in_ok-named.ensures.step.steps clean1 inside (sheets_of w) tables in
    let of = c.in_ok-named.ensures.stated clean1 inside w holds known in
    let kept = of_found c.with_legs.result rows _ c.in_ok-rows.ensures c.with_legs.ensures.kept w holds.world.keepable c.requires of in
    let x2 = c.put_legs.ensures.step.steps clean x1.0.0 (sheets_of w) x1.0.1 in
    (all_held s2 (write.Entry c.args.first.now ∷ write.Entry c.args.second.now ∷ []) (legs_sheets rows) w c.put_legs.result kept x2.0, kept_then s0 s1 s2 x1.1 x2.1)

pub returns-in_err-named-clause-known : goal.returns-in_err-named-clause-known
returns-in_err-named-clause-known g c clean inside w holds known = none_ok c.from_residual.result _ c.from_residual.ensures.0

pub returns-in_err-rows-clause-known : goal.returns-in_err-rows-clause-known
returns-in_err-rows-clause-known g c clean inside w holds known = none_ok c.from_residual-in_err-rows.result _ c.from_residual-in_err-rows.ensures.0

pub returns-clause-known : goal.returns-clause-known
returns-clause-known g c clean inside w holds known =
    let s1 = state g.S.Store c.rows_of_legs.new.tx.conn.now in
    let s2 = state g.S.Store c.put_legs.new.tx.conn.now in
    let clean1 = early s1 s2 _ c.put_legs.ensures.step.survives clean in
    let rows = c.in_ok-rows.rows in
    let of = c.in_ok-named.ensures.stated clean1 inside w holds known in
    let kept = of_found c.with_legs.result rows _ c.in_ok-rows.ensures c.with_legs.ensures.kept w holds.world.keepable c.requires of in
    always_ok c.put_legs.result _ (c.known_after_legs.ensures _ (legs_left w _ c.args.first.now c.args.second.now _ _ _ _ rows of kept.keepable kept.sheets) known.slips)
