-- One message after another, and the turn that ended it.
use Rattle.std.proofs.Common.{◌≡◌, ◌<◌, ℕ, length, [], ◌∷◌, ◌++◌, ◌+◌, length-append, Ok, refl, sym, ap, ◌∙◌, inl, inr, arith}
use Rattle.http_messages.specs.declared.serving.Served.{Served}
use Rattle.http_messages.specs.declared.step.Step.{Step}
use Rattle.http_messages.proofs.FailureLemmas.{end_after}
use Rattle.http_messages.proofs.RunLemmas.{run_more}
use Rattle.http_connection.specs.Parts.{ConnectionParts}
use Rattle.http_connection.proofs.GatheredLemmas.{run_opened}
use Rattle.http_connection.proofs.serving.serve_in.Goals as goal

pub loop-done-init : goal.loop-done-init
loop-done-init g c = record {
  run = ([], [], refl, run_opened g.E.Engine.answers g.E.Engine.stops g.E.Engine.breaks _ c.args.connection.now _ _ c.requires);
  open_still = ap (λ (x : ConnectionParts). x.is_closing) c.requires;
  read = refl;
  written = refl;
}

pub returns-in-Ok-Closed-clause-served : goal.returns-in-Ok-Closed-clause-served
returns-in-Ok-Closed-clause-served g c =
    let turn = rw c.in-Ok-Closed.field-0-is at c.in-Ok-Closed.ensures.turn in
    let i = c.loop-done.invariant.run in
    let fewer : length i.0 < c.args.most = omega (arith, i.2) in
    (_, i.0, i.1, i.3, inr (fewer, inl (ap (λ (n : ℕ). n + 1) (sym i.2), turn)))

pub returns-in-Ok-Waiting-clause-served : goal.returns-in-Ok-Waiting-clause-served
returns-in-Ok-Waiting-clause-served g c =
    let turn = rw c.in-Ok-Waiting.field-0-is at c.in-Ok-Waiting.ensures.turn in
    let i = c.loop-done.invariant.run in
    let fewer : length i.0 < c.args.most = omega (arith, i.2) in
    (_, i.0, i.1, i.3, inr (fewer, inr (sym i.2, turn)))

pub returns-in-Err-clause-served : goal.returns-in-Err-clause-served
returns-in-Err-clause-served g c =
    let i = c.loop-done.invariant.run in
    let fewer : length i.0 < c.args.most = omega (arith, i.2) in
    (_, i.0, i.1, i.3, (fewer, c.in-Err.ensures.turn))

pub returns-in-Err-clause-failures : goal.returns-in-Err-clause-failures
returns-in-Err-clause-failures g c =
    end_after Step Served c.args.reader.now c.loop-done.reader c.serve_one.new.reader c.args.writer.now c.loop-done.writer c.serve_one.new.writer c.in-Err.fault (c.loop-done.invariant.read, c.loop-done.invariant.written) c.in-Err.ensures.failures

pub loop-done-preserved : goal.loop-done-preserved
loop-done-preserved g c =
    let turn = rw c.in-Ok-Answered.field-0-is at c.in-Ok-Answered.ensures.turn in
    let i = c.loop-done.invariant.run in
    let m = turn.1.message in
    record {
      run = (i.0 ++ m ∷ [], i.1 ++ turn.0, omega (arith, length-append i.0 (m ∷ []), i.2), run_more _ _ _ _ _ _ i.0 i.1 i.3 turn);
      open_still = c.serve_one.ensures.open (c.in-Ok-Answered.is ∙ ap Ok c.in-Ok-Answered.field-0-is);
      read = c.in-Ok-Answered.ensures.failures.0 ∙ c.loop-done.invariant.read;
      written = c.in-Ok-Answered.ensures.failures.1 ∙ c.loop-done.invariant.written;
    }

pub returns-clause-served : goal.returns-clause-served
returns-clause-served g c =
    let i = c.loop-done.invariant.run in
    let all_done : c.loop-done.done ≡ c.args.most = omega arith in
    (_, i.0, i.1, i.3, inl (i.2 ∙ all_done, sym (i.2 ∙ all_done), refl))
