-- The reply is that to the message, at the moment that the clock gave, or a beginning of it.
use Rattle.std.proofs.Common.{◌≡◌, None, Some, Err, refl, rules, subst}
use Rattle.std.specs.Io.KnownBytes.{Appends}
use Rattle.money.specs.Counted.{AppendsBeginning, stream_of}
use Rattle.http_messages.specs.declared.engine.AnswerFault.TheVariants.{Write}
use Rattle.counter_api.specs.Response.{ResponseParts, faulted_parts}
use Rattle.counter_api.specs.Run.{framed}
use Rattle.counter_api.proofs.Answering.{all_begun, begun_of, whole_of}
use Rattle.counter_api.proofs.counter.CounterEngine.answer.Goals as goal

pub returns-in_err-write_response-in-Ok-Response-clause-answered : goal.returns-in_err-write_response-in-Ok-Response-clause-answered
returns-in_err-write_response-in-Ok-Response-clause-answered g c =
    let done = rw c.in-Ok-Response.field-0-is at c.in-Ok-Response.ensures.done in
    let same = rw c.in-Ok-Response.field-0-is at c.in-Ok-Response.ensures.writer in
    let bytes = framed c.args.message.now c.in-Ok-Response.response in
    let stated : c.from_residual.result ≡ Err Write = search rules in
    rw stated (
      bytes,
      record {
        moment = c.moment-moment.result;
        mark = None;
        given = record { given = c.moment-moment.ensures.given; same_gate = refl };
        handled = begun_of _ _ _ _ c.in-Ok-Response.response done;
      },
      subst (λ t. AppendsBeginning (g.W.Write.contents (stream_of t)) (g.W.Write.contents (stream_of c.write_response.new.writer)) bytes) same c.in_err-write_response-in-Ok-Response.ensures.beginning,
    )

pub returns-in-Ok-Report-Stopped-clause-answered : goal.returns-in-Ok-Report-Stopped-clause-answered
returns-in-Ok-Report-Stopped-clause-answered g c =
    let done = rw (c.in-Ok-Report-Stopped.field-0-is, c.in-Ok-Report-Stopped.field-0-0-is) at c.in-Ok-Report-Stopped.ensures.done in (
      done.0,
      record { moment = c.moment-moment.result; mark = None; given = record { given = c.moment-moment.ensures.given; same_gate = refl }; handled = done.2 },
      all_begun _ _ done.0 done.1,
    )

pub returns-in-Ok-Report-Broken-clause-answered : goal.returns-in-Ok-Report-Broken-clause-answered
returns-in-Ok-Report-Broken-clause-answered g c =
    let done = rw (c.in-Ok-Report-Broken.field-0-is, c.in-Ok-Report-Broken.field-0-0-is) at c.in-Ok-Report-Broken.ensures.done in (
      done.0,
      record {
        moment = c.moment-moment.result;
        fault = c.in-Ok-Report-Broken.field-0-0-0;
        given = record { given = c.moment-moment.ensures.given; same_gate = refl };
        report = done.2.report;
        kept = done.2.kept;
        cause = done.2.cause;
        headed = done.2.headed;
        allowed = done.2.allowed;
        begun = done.2.begun;
      },
      done.1,
    )

pub returns-in_ok-write_response-in-Err-clause-answered : goal.returns-in_ok-write_response-in-Err-clause-answered
returns-in_ok-write_response-in-Err-clause-answered g c =
    let bytes = framed c.args.message.now (faulted_parts c.in-Err.fault) in
    let whole = subst (λ (p : ResponseParts). Appends (g.W.Write.contents (stream_of c.handled-outcome.new.writer)) (g.W.Write.contents (stream_of c.write_response-in-Err.new.writer)) (framed c.args.message.now p))
    c.faulted-response.ensures c.in_ok-write_response-in-Err.ensures.whole in (
      bytes,
      record {
        moment = c.moment-moment.result;
        mark = Some c.in-Err.fault;
        given = record { given = c.moment-moment.ensures.given; same_gate = refl };
        handled = whole_of _ _ _ _ (faulted_parts c.in-Err.fault) c.in-Err.ensures.done;
      },
      subst (λ t. Appends (g.W.Write.contents (stream_of t)) (g.W.Write.contents (stream_of c.write_response-in-Err.new.writer)) bytes) c.in-Err.ensures.writer whole,
    )

pub returns-in_err-write_response-in-Err-clause-answered : goal.returns-in_err-write_response-in-Err-clause-answered
returns-in_err-write_response-in-Err-clause-answered g c =
    let bytes = framed c.args.message.now (faulted_parts c.in-Err.fault) in
    let begun = subst (λ (p : ResponseParts). AppendsBeginning (g.W.Write.contents (stream_of c.handled-outcome.new.writer)) (g.W.Write.contents (stream_of c.write_response-in-Err.new.writer)) (framed c.args.message.now p))
    c.faulted-response.ensures c.in_err-write_response-in-Err.ensures.beginning in
    let stated : c.from_residual-in_err-write_response-in-Err.result ≡ Err Write = search rules in
    rw stated (
      bytes,
      record {
        moment = c.moment-moment.result;
        mark = Some c.in-Err.fault;
        given = record { given = c.moment-moment.ensures.given; same_gate = refl };
        handled = begun_of _ _ _ _ (faulted_parts c.in-Err.fault) c.in-Err.ensures.done;
      },
      subst (λ t. AppendsBeginning (g.W.Write.contents (stream_of t)) (g.W.Write.contents (stream_of c.write_response-in-Err.new.writer)) bytes) c.in-Err.ensures.writer begun,
    )
