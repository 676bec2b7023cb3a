use Rattle.std.proofs.Common.{Err, Ok, [], inl, subst, sym}
use Rattle.sqlite.specs.Held.{state}
use Rattle.sql_schema.proofs.StepLemmas.{query_kept, query_open, shown_same}
use Rattle.sql_whole.specs.Faults.{IsOfDatabase}
use Rattle.sql_whole.proofs.RefusalLemmas.{of_database}
use Rattle.sql_whole.proofs.StreamLemmas.{leaves_none}
use Rattle.sql_whole.proofs.table_row.shown_rows.Goals as goal

pub returns-in-Ok-clause-still : goal.returns-in-Ok-clause-still
returns-in-Ok-clause-still g c clean plain =
    let old = state g.S.Store c.args.conn.now in
    let new = state g.S.Store c.query_all.new.self in (
      shown_same c.args.sql.now [] old new c.in-Ok.rows.items plain (c.in-Ok.ensures.ok clean),
      query_kept c.args.sql.now [] old new (Ok c.in-Ok.rows) plain (c.in-Ok.ensures.ok clean) tt,
    )

pub returns-in-Err-clause-still : goal.returns-in-Err-clause-still
returns-in-Err-clause-still g c clean plain =
    (tt, query_kept c.args.sql.now [] (state g.S.Store c.args.conn.now) (state g.S.Store c.query_all.new.self) (Err c.in-Err.error) plain tt (inl (c.in-Err.ensures.err clean)))

pub returns-in-Err-clause-there : goal.returns-in-Err-clause-there
returns-in-Err-clause-there g c clean e has asks =
    subst IsOfDatabase (sym c.read_fault.ensures)
    (of_database e c.args.sql.now asks c.args.table (state g.S.Store c.args.conn.now) (state g.S.Store c.query_all.new.self) c.in-Err.error has (c.in-Err.ensures.err clean))

pub returns-in-Ok-clause-read_only : goal.returns-in-Ok-clause-read_only
returns-in-Ok-clause-read_only g c =
    let old = state g.S.Store c.args.conn.now in
    let new = state g.S.Store c.query_all.new.self in
    record {
      was_open = λ clean. query_open c.args.sql.now [] old new (Ok c.in-Ok.rows) (c.in-Ok.ensures.ok clean) tt;
      survives = leaves_none c.requires.0 c.args.sql.now old new c.requires.1 c.query_all.ensures.survives;
    }

pub returns-in-Err-clause-read_only : goal.returns-in-Err-clause-read_only
returns-in-Err-clause-read_only g c =
    let old = state g.S.Store c.args.conn.now in
    let new = state g.S.Store c.query_all.new.self in
    record {
      was_open = λ clean. query_open c.args.sql.now [] old new (Err c.in-Err.error) tt (inl (c.in-Err.ensures.err clean));
      survives = leaves_none c.requires.0 c.args.sql.now old new c.requires.1 c.query_all.ensures.survives;
    }
