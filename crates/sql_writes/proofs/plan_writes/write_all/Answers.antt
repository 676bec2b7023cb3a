use Rattle.std.proofs.Common.{◌≡◌, ◌∙◌, ◌+◌, ap, subst, sym, take}
use Rattle.std.proofs.lemmas.List.{take_more}
use Rattle.sqlite.specs.Held.{state}
use Rattle.sqlite.proofs.StateLemmas.{survives_then}
use Rattle.bank_books.specs.Effects.{all_written, written}
use Rattle.sql_schema.specs.Held.{HoldsWorld}
use Rattle.sql_schema.proofs.StepLemmas.{early, kept_then}
use Rattle.sql_writes.proofs.PlanLemmas.{written_last}
use Rattle.sql_writes.proofs.plan_writes.write_all.Goals as goal

pub loop-row-preserved : goal.loop-row-preserved
loop-row-preserved g c =
    let first = state g.S.Store c.args.tx.now.conn.now in
    let mid = state g.S.Store c.loop-row.tx.conn.now in
    let last = state g.S.Store c.write_row.new.tx.conn.now in
    record {
      same = c.write_row.ensures.frame.same ∙ c.loop-row.invariant.same;
      moved = λ clean inside w holds.
          let before = c.loop-row.invariant.moved (early mid last _ c.write_row.ensures.frame.survives clean) inside w holds in
          let done = all_written (take c.loop-row.row-index c.args.plan.now) w in
          let step = c.in_ok-write_row.ensures.moves clean before.0.0 done before.0.1 in
          let next : written c.row-item.result done ≡ all_written (take (c.loop-row.row-index + 1) c.args.plan.now) w =
          ap (λ r. written r done) c.row-item.is
          ∙ sym (ap (λ p. all_written p w) (take_more c.args.plan.now c.loop-row.row-index c.row-item.result c.loop-row-test.true) ∙ written_last (take c.loop-row.row-index c.args.plan.now) _ w) in
          ((step.0.0, subst (HoldsWorld last.now) next step.0.1), kept_then first mid last before.1 step.1);
      survives = survives_then first mid last _ _ (λ _. ⊥) (λ _ db none. none) (λ _ db none. none) c.loop-row.invariant.survives c.write_row.ensures.frame.survives;
    }
