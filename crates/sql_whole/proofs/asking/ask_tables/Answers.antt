use Rattle.std.specs.Prelude.{⊤}
use Rattle.sqlite.specs.Held.{state}
use Rattle.sqlite.proofs.StateLemmas.{survives_then}
use Rattle.sql_whole.proofs.ReadsLemmas.{done_open, done_whole, gave_open, gave_whole}
use Rattle.sql_whole.proofs.asking.ask_tables.Goals as goal

pub loop-table-preserved : goal.loop-table-preserved
loop-table-preserved g c =
    let s0 = state g.S.Store c.args.conn.now in
    let s1 = state g.S.Store c.loop-table.conn in
    let s2 = state g.S.Store c.ask_table.new.conn in
    record {
      mode = λ idle. c.ask_table.ensures.mode (c.loop-table.invariant.mode idle);
      done = λ is_open. done_whole c.args.edition s0 s2 (λ _. ⊤ × ⊤) (λ _. ⊤) (λ _ _. tt)
          (done_open c.args.edition s0 s1 s2 (λ _. ⊤) c.ask_table.ensures.survives (c.loop-table.invariant.done is_open) (λ _. ⊤) c.in_ok-ask_table.ensures.whole);
      survives = survives_then s0 s1 s2 _ _ (λ _. ⊥) (λ _ db none. none) (λ _ db none. none) c.loop-table.invariant.survives c.ask_table.ensures.survives;
    }

pub returns-in_err-ask_table-clause-whole : goal.returns-in_err-ask_table-clause-whole
returns-in_err-ask_table-clause-whole g c is_open =
    let s0 = state g.S.Store c.args.conn.now in
    let s1 = state g.S.Store c.loop-table.conn in
    let s2 = state g.S.Store c.ask_table.new.conn in
    gave_whole c.args.edition s0 s2 (λ _ _. ⊤) c.from_residual.result c.from_residual.ensures.0
    (gave_open c.args.edition s0 s1 s2 (λ _. ⊤) c.ask_table.ensures.survives (c.loop-table.invariant.done is_open) (λ there clean has. (c.in_err-ask_table.ensures.whole there clean has).2))
