use Rattle.std.proofs.Common.{◌∙◌, IsTrue, sym, ap, subst, inl, inr}
use Rattle.sqlite.specs.Effect.{Database}
use Rattle.sqlite.specs.Held.{state}
use Rattle.bank_books.specs.Effects.{applied}
use Rattle.sql_schema.specs.Held.{AreOfWorld, HoldsBank}
use Rattle.sql_schema.proofs.StepLemmas.{early}
use Rattle.sql_writes.specs.Known.{AreKnownOf}
use Rattle.store_sql.proofs.CountedLemmas.{IsCounted, known_else, known_then, marked, unmarked, went_through}
use Rattle.store_sql.proofs.KnownLemmas.{err_at}
use Rattle.store_sql.proofs.WorldLemmas.{same_world}
use Rattle.store_sql.proofs.sql_store.SqlStore.write.Goals as goal

pub returns-clause-changed : goal.returns-clause-changed
returns-clause-changed g c =
    let new = state g.S.Store c.apply_plan-done.new.conn in
    let before = early (state g.S.Store c.args.self.now.conn) new _ c.apply_plan-done.ensures.crash in
    let is : IsCounted c.apply_plan-done.result c.counted.result = record { ok = c.counted.ensures.ok; err = c.counted.ensures.err } in
    rw (c.counted.ensures.conn, c.counted.ensures.known) (record {
      answers = record { honest = before; state = c.counted.ensures.state; was_stopped = λ e. absurd (c.counted.ensures.named e); counted = c.counted.ensures.rose; no_more = c.counted.ensures.no_more; failed = c.counted.ensures.failed };
      moved = λ w holds. (
        λ honest is_open.
            let bank = holds.0 (before honest) (c.apply_plan-done.ensures.was_open honest is_open) in
            let known = holds.1 (before honest) in
            marked c.apply_plan-done.result c.counted.result (HoldsBank new) (applied c.args.plan.now w) w is (c.apply_plan-done.ensures.in_full honest w bank known) (known_else c.apply_plan-done.result (HoldsBank new w) (IsTrue new.is_open) is_open (c.apply_plan-done.ensures.refused honest w bank known)),
        λ honest.
            marked c.apply_plan-done.result c.counted.result (λ v. AreKnownOf v c.apply_plan-done.new.known) (applied c.args.plan.now w) w is
            (known_then c.apply_plan-done.result _ (IsTrue new.is_open) (c.apply_plan-done.ensures.stays_open honest) (λ is_open. c.apply_plan-done.ensures.known honest w (holds.0 (before honest) (c.apply_plan-done.ensures.was_open honest is_open)) (holds.1 (before honest))))
            (err_at c.apply_plan-done.result (λ v. AreKnownOf v c.apply_plan-done.new.known) w c.apply_plan-done.ensures.forgot),
      );
      crash = λ honest w left holds may. elim (c.apply_plan-done.ensures.crash.crash honest may.0 may.1) [
        | inl old ↦ inl (may.0, old, may.2)
        | inr new ↦ inr (same_world left (applied c.args.plan.now w) may.0 may.2 (new.1 w (holds.0 (before honest) new.0) (holds.1 (before honest))))
      ];
      settled = λ honest none w left holds may.
          let is_open = unmarked c.apply_plan-done.result c.counted.result _ is none (c.apply_plan-done.ensures.stays_open honest) in
          let bank = unmarked c.apply_plan-done.result c.counted.result _ is none (c.apply_plan-done.ensures.in_full honest w (holds.0 (before honest) (c.apply_plan-done.ensures.was_open honest is_open)) (holds.1 (before honest))) in
          let last = g.met.S.Store.settled c.apply_plan-done.new.conn.store may.0 is_open may.1 in
          same_world left (applied c.args.plan.now w) may.0 may.2 (subst (AreOfWorld (applied c.args.plan.now w)) (sym (last ∙ ap (λ (d : Database). d.trees) bank.settled)) bank.now.world);
      whole = λ honest w holds leaves trees may. elim (c.apply_plan-done.ensures.crash.crash honest trees may) [
        | inl old ↦ leaves trees old
        | inr new ↦ (applied c.args.plan.now w, new.1 w (holds.0 (before honest) new.0) (holds.1 (before honest)))
      ];
    })

pub returns-clause-room : goal.returns-clause-room
returns-clause-room g c = rw c.counted.ensures.conn (λ honest w holds.
    let before = early (state g.S.Store c.args.self.now.conn) (state g.S.Store c.apply_plan-done.new.conn) _ c.apply_plan-done.ensures.crash in
    went_through c.apply_plan-done.result c.counted.result _ (record { ok = c.counted.ensures.ok; err = c.counted.ensures.err })
    (known_then c.apply_plan-done.result _ (IsTrue (state g.S.Store c.apply_plan-done.new.conn).is_open) (c.apply_plan-done.ensures.stays_open honest) (λ is_open. c.apply_plan-done.ensures.room honest w (holds.0 (before honest) (c.apply_plan-done.ensures.was_open honest is_open)) (holds.1 (before honest)))))
