use Rattle.std.proofs.Common.{IsTrue}
use Rattle.sqlite.specs.Held.{state}
use Rattle.sql_schema.proofs.StepLemmas.{early, survived}
use Rattle.store_sql.proofs.CountedLemmas.{answered, known_of, not_both}
use Rattle.store_sql.proofs.sql_store.SqlStore.ask.Goals as goal

pub returns-else-self : goal.returns-else-self
returns-else-self g c =
    let old = state g.S.Store c.args.self.now.conn in
    let new = state g.S.Store c.ask-answer.new.conn in
    let reads = c.ask-answer.ensures.reads in
    let before = early old new _ reads.survives in
    rw (c.counted.ensures.conn, c.counted.ensures.known) (record {
      stated = λ honest w holds.
          answered c.ask-answer.result c.counted.result _ (record { ok = c.counted.ensures.ok; err = c.counted.ensures.err })
          (known_of c.ask-answer.result _ (IsTrue old.is_open) (reads.stays_open honest).0 (λ is_open. reads.stated honest w (holds.0 (before honest) is_open)));
      kept = record {
        answers = record { honest = before; state = c.counted.ensures.state; was_stopped = λ e. absurd (c.counted.ensures.named e); counted = c.counted.ensures.rose; no_more = c.counted.ensures.no_more; failed = c.counted.ensures.failed };
        kept = λ w holds. (λ honest is_open. reads.kept honest w (holds.0 (before honest) ((reads.stays_open honest).1 is_open)) is_open, λ honest. holds.1 (before honest));
        crash = λ honest w may. (may.0, survived old new reads.survives honest may.0 may.1, may.2);
        whole = λ honest leaves trees may. leaves trees (survived old new reads.survives honest trees may);
      };
      refused = λ stopped. not_both _ c.if-self.false stopped;
      counted = c.counted.ensures.counted;
    })
