use Rattle.std.proofs.Common.{[], ap, arith, refl, rules, subst, sym, ◌∙◌}
use Rattle.sqlite.specs.Effect.{Database}
use Rattle.sqlite.specs.Held.{state}
use Rattle.sqlite.specs.State.{HasCleanDisk}
use Rattle.sqlite.proofs.Callers.{begun_plain, unchanged_then}
use Rattle.sqlite.proofs.StateLemmas.{survives_then}
use Rattle.sql_schema.proofs.StepLemmas.{fails_open, handed_on, none_ok}
use Rattle.sql_whole.specs.Faults.{IsErrorOfDatabase}
use Rattle.sql_whole.specs.Typed.{Each}
use Rattle.sql_whole.proofs.RefusalLemmas.{of_database}
use Rattle.sql_whole.proofs.StreamLemmas.{Taken, begun_open, each_last, failed_kept, leaves_none, none_there, took_all, took_more, took_none, took_unread}
use Rattle.sql_whole.proofs.WholeLemmas.{plain_there}
use Rattle.sql_whole.proofs.table_row.taken_rows.Goals as goal

pub returns-in_err-rows-clause-still : goal.returns-in_err-rows-clause-still
returns-in_err-rows-clause-still g c clean has =
    let refused = rw c.in_err-rows.was at c.query.follows.holds-at-none in
    let fails = refused.err clean in (
      none_ok c.from_residual.result _ c.from_residual.ensures.0,
      failed_kept c.args.edition c.args.sql.now c.requires.asks (state g.S.Store c.args.conn.now) (state g.S.Store c.query.follows.lender-at-none) c.in_err-rows.field-0.0 has fails,
    )

pub returns-in_err-rows-clause-there : goal.returns-in_err-rows-clause-there
returns-in_err-rows-clause-there g c clean has =
    let refused = rw c.in_err-rows.was at c.query.follows.holds-at-none in
    let fails = refused.err clean in
    handed_on c.from_residual.result c.in_err-rows.field-0.0 IsErrorOfDatabase c.from_residual.ensures.1
    (λ table. of_database c.args.edition c.args.sql.now c.requires.asks table (state g.S.Store c.args.conn.now) (state g.S.Store c.query.follows.lender-at-none) c.in_err-rows.field-0.0 has.schema fails)

pub returns-in_err-rows-clause-read_only : goal.returns-in_err-rows-clause-read_only
returns-in_err-rows-clause-read_only g c =
    let refused = rw c.in_err-rows.was at c.query.follows.holds-at-none in
    let old = state g.S.Store c.args.conn.now in
    let new = state g.S.Store c.query.follows.lender-at-none in
    record {
      was_open = λ clean. (none_ok c.from_residual.result _ c.from_residual.ensures.0, fails_open c.args.sql.now [] old new c.in_err-rows.field-0.0 (refused.err clean));
      survives = leaves_none c.args.edition c.args.sql.now old new c.requires.asks refused.survives;
    }

pub rows-init : goal.rows-init
rows-init g c =
    let made = c.in_ok-rows.ensures in
    let old = state g.S.Store c.args.conn.now in
    let now = c.in_ok-rows.rows.conn.now in
    let none = c.new-list.ensures.items in
    record {
      same = refl;
      survives = leaves_none c.args.edition c.args.sql.now old (state g.S.Store now) c.requires.asks made.survives;
      mode = made.mode;
      typed = subst (λ xs. Each g.T.TableRow.readable xs) (sym none) (none_there g.T.TableRow.readable);
      was_open = λ clean. begun_open g.S.Store c.args.sql.now c.args.conn.now now (made.begun clean);
      taken = λ clean has.
          let b = begun_plain g.S.Store c.args.sql.now [] c.args.conn.now now (plain_there c.args.edition c.args.sql.now old c.requires.asks.plain has) (made.begun clean) in
          took_none g.S.Store c.args.sql.now now g.T.TableRow.stated g.T.TableRow.cells g.T.TableRow.fits c.new-list.result.items none b.0;
      still = λ clean has. (begun_plain g.S.Store c.args.sql.now [] c.args.conn.now now (plain_there c.args.edition c.args.sql.now old c.requires.asks.plain has) (made.begun clean)).1;
    }

pub rows-preserved : goal.rows-preserved
rows-preserved g c =
    let moved = c.next.follows.holds-at-none in
    let old = state g.S.Store c.args.conn.now in
    let was = c.rows.rows.conn.now in
    let now = c.next.follows.lender-at-none.conn.now in
    let before = c.rows.invariant in
    let it = c.in_default-take_row.ensures.taken in
    record {
      same = moved.same_reference ∙ before.same;
      survives = survives_then old (state g.S.Store was) (state g.S.Store now) _ _ (λ _. ⊥) (λ _ db none. none) (λ _ db none. none) before.survives moved.survives;
      mode = λ idle. moved.mode (before.mode idle);
      typed = subst (λ xs. Each g.T.TableRow.readable xs) (sym it.4) (each_last g.T.TableRow.readable c.rows.list.items it.0 before.typed it.3);
      was_open = λ clean. before.was_open (omega (arith, moved.survives.clean));
      taken = λ clean has.
          let taken = before.taken (omega (arith, moved.survives.clean)) has in
          let on = (rw (c.in_ok-row.was, c.in-Some.is) at (moved.ok clean)) c.args.sql.now [] taken.given taken.answer in
          subst (λ xs. Taken g.S.Store c.args.sql.now now g.T.TableRow.stated g.T.TableRow.cells g.T.TableRow.fits xs) (sym it.4)
          (took_more g.S.Store c.args.sql.now was now g.T.TableRow.stated g.T.TableRow.cells g.T.TableRow.fits c.rows.list.items taken c.in-Some.row.now on it.0 it.1 it.2);
      still = λ clean has. unchanged_then old (state g.S.Store was) (state g.S.Store now) (before.still (omega (arith, moved.survives.clean)) has) (rw c.in_ok-row.was at (moved.same clean));
    }

pub returns-in_err-row-clause-there : goal.returns-in_err-row-clause-there
returns-in_err-row-clause-there g c clean has =
    let moved = c.next.follows.holds-at-none in
    let was = state g.S.Store c.rows.rows.conn.now in
    let now = state g.S.Store c.next.follows.lender-at-none.conn.now in
    let late : HasCleanDisk now = search rules in
    let early : HasCleanDisk was = omega (arith, moved.survives.clean) in
    let taken = c.rows.invariant.taken early has in
    let still = c.rows.invariant.still early has in
    let fails = (rw c.in_err-row.was at (moved.err late)) c.args.sql.now [] taken.given taken.answer in
    handed_on c.from_residual-in_err-row.result c.in_err-row.field-0.0 IsErrorOfDatabase c.from_residual-in_err-row.ensures.1
    (λ table. of_database c.args.edition c.args.sql.now c.requires.asks table was now c.in_err-row.field-0.0 (ap (λ (d : Database). d.schema) still.0.now_is ∙ has.schema) fails)

pub returns-in_default-clause-whole : goal.returns-in_default-clause-whole
returns-in_default-clause-whole g c clean has =
    let moved = c.next.follows.holds-at-none in
    let now = state g.S.Store c.next.follows.lender-at-none.conn.now in
    let late : HasCleanDisk now = search rules in
    let early : HasCleanDisk (state g.S.Store c.rows.rows.conn.now) = omega (arith, moved.survives.clean) in
    let taken = c.rows.invariant.taken early has in
    let shown = (rw (c.in_ok-row.was, c.in_default.is) at (moved.ok late)) c.args.sql.now [] taken.given taken.answer in
    took_all g.S.Store c.args.edition g.T.TableRow.shows g.T.TableRow.stated g.T.TableRow.cells g.T.TableRow.key g.T.TableRow.fits g.T.TableRow.sheet c.args.sql.now c.requires
    c.rows.rows.conn.now (state g.S.Store c.args.conn.now) has (c.rows.invariant.still early has) now c.rows.list.items taken shown

pub returns-in-Err-clause-takes : goal.returns-in-Err-clause-takes
returns-in-Err-clause-takes g c clean has xs held readable =
    let moved = c.next.follows.holds-at-none in
    let old = state g.S.Store c.args.conn.now in
    let was = state g.S.Store c.rows.rows.conn.now in
    let now = c.next.follows.lender-at-none.conn.now in
    let late : HasCleanDisk (state g.S.Store now) = search rules in
    let early : HasCleanDisk was = omega (arith, moved.survives.clean) in
    let taken = c.rows.invariant.taken early has in
    let on = (rw (c.in_ok-row.was, c.in-Some.is) at (moved.ok late)) c.args.sql.now [] taken.given taken.answer in
    let still = unchanged_then old was (state g.S.Store now) (c.rows.invariant.still early has) (rw c.in_ok-row.was at (moved.same late)) in
    took_unread g.S.Store c.args.edition g.T.TableRow.shows g.T.TableRow.stated g.T.TableRow.cells g.T.TableRow.key g.T.TableRow.fits g.T.TableRow.sheet c.args.sql.now c.requires
    now old has still taken.given c.in-Some.row.now on xs held g.T.TableRow.readable readable c.in-Err.fault c.in-Err.ensures.unread
