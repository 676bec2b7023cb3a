use Rattle.std.proofs.Common.{◌∙◌, ◌≤◌, ◌+◌, ap, IsTrue, length, subst}
use Rattle.std.proofs.lemmas.List.{get_or_default, take_all}
use Rattle.sqlite.specs.Held.{state}
use Rattle.sqlite.proofs.StateLemmas.{survives_then}
use Rattle.book_kept.specs.Changes.{add_rows}
use Rattle.book_kept.specs.Sheets.{member_no}
use Rattle.sql_schema.specs.Held.{HoldsTables}
use Rattle.sql_schema.proofs.StepLemmas.{early, kept_then, none_ok}
use Rattle.sql_writes.proofs.PlaceLemmas.{member_done, places_of}
use Rattle.sql_writes.proofs.policy_writes.write_members.Goals as goal

pub returns-in_err-add_member-clause-step : goal.returns-in_err-add_member-clause-step
returns-in_err-add_member-clause-step g c =
    let first = state g.S.Store c.args.tx.now.conn.now in
    let mid = state g.S.Store c.loop-member.tx.conn.now in
    let last = state g.S.Store c.add_member.new.tx.conn.now in
    record {
      same = c.add_member.ensures.step.same ∙ c.loop-member.invariant.same;
      survives = survives_then first mid last _ _ (λ _. ⊥) (λ _ db none. none) (λ _ db none. none) c.loop-member.invariant.survives c.add_member.ensures.step.survives;
      steps = λ clean inside s holds.
          let before = c.loop-member.invariant.done (early mid last _ c.add_member.ensures.step.survives clean) inside s holds in
          (none_ok c.from_residual.result _ c.from_residual.ensures.0, kept_then first mid last before.1 (c.add_member.ensures.step.steps clean before.0.0 _ before.0.1).1);
    }

pub loop-member-preserved : goal.loop-member-preserved
loop-member-preserved g c =
    let first = state g.S.Store c.args.tx.now.conn.now in
    let mid = state g.S.Store c.loop-member.tx.conn.now in
    let last = state g.S.Store c.add_member.new.tx.conn.now in
    record {
      same = c.add_member.ensures.step.same ∙ c.loop-member.invariant.same;
      place = ap (λ n. n + 1) c.loop-member.invariant.place;
      done = member_done first mid last c.args.row.now.set c.set-set.result c.loop-member.place c.loop-member.member-index c.args.row.now.members c.members-members.result.now _ c.set-set.ensures c.members-members.ensures
          c.loop-member.invariant.place c.loop-member-test.true (get_or_default c.members-members.result.now c.loop-member.member-index _ _ c.loop-member-test.true) c.loop-member.invariant.done
          c.add_member.ensures.step.survives c.in_ok-add_member.ensures.step.steps;
      survives = survives_then first mid last _ _ (λ _. ⊥) (λ _ db none. none) (λ _ db none. none) c.loop-member.invariant.survives c.add_member.ensures.step.survives;
    }

pub returns-clause-step : goal.returns-clause-step
returns-clause-step g c =
    let new = state g.S.Store c.loop-member.tx.conn.now in
    let past = subst (λ ms. length ms ≤ c.loop-member.member-index) c.members-members.ensures c.loop-member-test.false in
    record {
      same = c.loop-member.invariant.same;
      survives = c.loop-member.invariant.survives;
      steps = λ clean inside s holds.
          let it = c.loop-member.invariant.done clean inside s holds in (
            subst (λ ms. IsTrue new.in_transaction × HoldsTables new.now (record s { members = add_rows member_no (places_of c.args.row.now.set ms) s.members }))
                (take_all c.loop-member.member-index c.args.row.now.members past) it.0,
            it.1,
          );
    }
