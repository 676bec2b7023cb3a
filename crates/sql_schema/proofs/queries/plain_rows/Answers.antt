use Rattle.sqlite.specs.Held.{state}
use Rattle.sql_schema.proofs.StepLemmas.{rows_open, rows_steps}
use Rattle.sql_schema.proofs.queries.plain_rows.Goals as goal

pub returns-clause-reads : goal.returns-clause-reads
returns-clause-reads g c =
    let old = state g.S.Store c.args.tx.now.conn.now in
    let new = state g.S.Store c.shown_rows.new.tx.conn.now in
    record {
      same = c.shown_rows.ensures.frame.same;
      survives = c.shown_rows.ensures.frame.survives;
      stays = λ clean inside s holds. rows_steps _ _ old new c.shown_rows.result c.requires (c.shown_rows.ensures.ok clean) (c.shown_rows.ensures.err clean) inside s holds;
      was_open = λ clean. rows_open _ _ old new c.shown_rows.result (c.shown_rows.ensures.ok clean) (c.shown_rows.ensures.err clean);
    }
