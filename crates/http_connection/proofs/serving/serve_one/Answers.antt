-- The reads that were made, and the step after them.
use Rattle.std.proofs.Common.{rules, ◌≡◌, ◌≤◌, ◌∙◌, ℕ, List, [], Bool, false, length, Ok, Err, refl, sym, ap, subst, inl}
use Rattle.money.specs.Counted.{stream_of}
use Rattle.http_messages.specs.Blank.{AreLineEnds}
use Rattle.http_messages.specs.Next.{IsPartial}
use Rattle.http_messages.specs.declared.engine.AnswerFault.TheVariants as Answer
use Rattle.http_messages.specs.declared.serving.ServeFault.TheVariants.{Read, Write}
use Rattle.http_messages.specs.declared.step.Step.TheVariants.{Answered, Closed}
use Rattle.http_messages.specs.Inbox.{max_message_len}
use Rattle.http_messages.proofs.TurnLemmas.{turn_answered, turn_closed, turn_stopped}
use Rattle.http_connection.specs.Parts.{ConnectionParts}
use Rattle.http_connection.specs.Serving.{at}
use Rattle.http_connection.proofs.GatheredLemmas.{before_none, before_read, before_sent, before_waits, left_before, nothing_left, only_read, sent_held, step_over, waits_left}
use Rattle.http_connection.proofs.serving.serve_one.Goals as goal

pub returns-in_err-send_much-clause-turn : goal.returns-in_err-send_much-clause-turn
returns-in_err-send_much-clause-turn g c =
    let stopped : c.from_residual.result ≡ Err Write = search rules in
    let sent = before_sent _ _ c.args.connection.now c.send_much.new.connection _ _ _ (before_none _ c.args.connection.now _ _) c.send_much.ensures.went in
    rw stopped (inl (
      c.in_err-send_much.ensures.err.1,
      only_read _ _ c.send_much.new.connection _ _ sent (subst (λ (l : List ℕ). length l ≤ max_message_len) (sym (sent_held c.args.connection.now c.send_much.new.connection _ c.send_much.ensures.went.2)) c.requires.bounded),
      sent.kept,
    ))

pub loop-connection-init : goal.loop-connection-init
loop-connection-init g c = record {
  before = before_sent _ _ c.args.connection.now c.send_much.new.connection _ _ _ (before_none _ c.args.connection.now _ _) c.send_much.ensures.went;
  unsent = left_before c.args.connection.now c.send_much.new.connection _ _ c.send_much.ensures.went;
  open_still = ap (λ (x : ConnectionParts). x.is_closing) c.send_much.ensures.went.2 ∙ c.requires.open;
  read = refl;
  written = c.in_ok-send_much.ensures.failures;
}

pub returns-in-Ok-Answered-clause-turn : goal.returns-in-Ok-Answered-clause-turn
returns-in-Ok-Answered-clause-turn g c =
    let step = rw c.in-Ok-Answered.field-0-is at c.in-Ok-Answered.ensures.step in
    turn_answered g.E.Engine.answers g.E.Engine.stops g.E.Engine.breaks _
    (at (g.R.Read.remaining (stream_of c.loop-connection.reader)) c.step.new.self (g.W.Write.contents (stream_of c.loop-connection.writer)) c.step.new.engine)
    _ c.loop-connection.invariant.before
    (step_over g.E.Engine.answers g.E.Engine.stops g.E.Engine.breaks (g.W.Write.contents (stream_of c.loop-connection.writer)) c.loop-connection.connection c.step.new.self c.loop-connection.engine c.step.new.engine (Ok Answered) step)

pub returns-in-Ok-Closed-clause-turn : goal.returns-in-Ok-Closed-clause-turn
returns-in-Ok-Closed-clause-turn g c =
    let step = rw c.in-Ok-Closed.field-0-is at c.in-Ok-Closed.ensures.step in
    turn_closed g.E.Engine.answers g.E.Engine.stops g.E.Engine.breaks _
    (at (g.R.Read.remaining (stream_of c.loop-connection.reader)) c.step.new.self (g.W.Write.contents (stream_of c.loop-connection.writer)) c.step.new.engine)
    _ c.loop-connection.invariant.before c.step.ensures.bounded
    (step_over g.E.Engine.answers g.E.Engine.stops g.E.Engine.breaks (g.W.Write.contents (stream_of c.loop-connection.writer)) c.loop-connection.connection c.step.new.self c.loop-connection.engine c.step.new.engine (Ok Closed) step)

pub returns-in-Err-Write-clause-turn : goal.returns-in-Err-Write-clause-turn
returns-in-Err-Write-clause-turn g c =
    let step = rw c.in-Err-Write.field-0-is at c.in-Err-Write.ensures.step in
    turn_stopped g.E.Engine.answers g.E.Engine.stops g.E.Engine.breaks _
    (at (g.R.Read.remaining (stream_of c.loop-connection.reader)) c.step.new.self (g.W.Write.contents (stream_of c.loop-connection.writer)) c.step.new.engine)
    _ Answer.Write c.loop-connection.invariant.before c.step.ensures.bounded
    (step_over g.E.Engine.answers g.E.Engine.stops g.E.Engine.breaks (g.W.Write.contents (stream_of c.loop-connection.writer)) c.loop-connection.connection c.step.new.self c.loop-connection.engine c.step.new.engine (Err Answer.Write) step)

pub returns-in-Err-Report-clause-turn : goal.returns-in-Err-Report-clause-turn
returns-in-Err-Report-clause-turn g c =
    let step = rw c.in-Err-Report.field-0-is at c.in-Err-Report.ensures.step in
    turn_stopped g.E.Engine.answers g.E.Engine.stops g.E.Engine.breaks _
    (at (g.R.Read.remaining (stream_of c.loop-connection.reader)) c.step.new.self (g.W.Write.contents (stream_of c.loop-connection.writer)) c.step.new.engine)
    _ Answer.Report c.loop-connection.invariant.before c.step.ensures.bounded
    (step_over g.E.Engine.answers g.E.Engine.stops g.E.Engine.breaks (g.W.Write.contents (stream_of c.loop-connection.writer)) c.loop-connection.connection c.step.new.self c.loop-connection.engine c.step.new.engine (Err Answer.Report) step)

pub returns-in_err-send-clause-turn : goal.returns-in_err-send-clause-turn
returns-in_err-send-clause-turn g c =
    let stopped : c.from_residual-in_err-send.result ≡ Err Write = search rules in
    let step = rw c.in-Ok-Waiting.field-0-is at c.in-Ok-Waiting.ensures.step in
    let waits = before_waits g.E.Engine.answers g.E.Engine.stops g.E.Engine.breaks _ _ _ c.loop-connection.connection c.step.new.self _ _ c.loop-connection.invariant.before step in
    let sent = before_sent _ _ c.step.new.self c.send.new.connection _ _ _ waits c.send.ensures.went in
    rw stopped (inl (
      c.loop-connection.invariant.unsent (waits_left g.E.Engine.answers g.E.Engine.stops g.E.Engine.breaks c.loop-connection.connection c.step.new.self _ _ step c.in_err-send.ensures.err.1),
      only_read _ _ c.send.new.connection _ _ sent (subst (λ (l : List ℕ). length l ≤ max_message_len) (sym (sent_held c.step.new.self c.send.new.connection _ c.send.ensures.went.2)) c.step.ensures.bounded),
      sent.kept,
    ))

pub returns-in_err-read_in-clause-turn : goal.returns-in_err-read_in-clause-turn
returns-in_err-read_in-clause-turn g c =
    let stopped : c.from_residual-in_err-read_in.result ≡ Err Read = search rules in
    let step = rw c.in-Ok-Waiting.field-0-is at c.in-Ok-Waiting.ensures.step in
    let waits = before_waits g.E.Engine.answers g.E.Engine.stops g.E.Engine.breaks _ _ _ c.loop-connection.connection c.step.new.self _ _ c.loop-connection.invariant.before step in
    let sent = before_sent _ _ c.step.new.self c.send.new.connection _ _ _ waits c.send.ensures.went in
    let read = before_read _ _ _ c.send.new.connection c.read_in.new.connection _ _ sent c.read_in.ensures.bytes in
    let same = c.in_err-read_in.ensures.err.1 in
    rw stopped (
      only_read _ _ c.read_in.new.connection _ _ read c.read_in.ensures.bounded,
      subst IsPartial (sym (ap (λ (x : ConnectionParts). x.held) same ∙ sent_held c.step.new.self c.send.new.connection _ c.send.ensures.went.2)) step.1,
      read.kept,
      nothing_left _ (ap (λ (x : ConnectionParts). x.unsent) same ∙ c.in_ok-send.ensures.all),
    )

pub returns-then-holds_line_ends-clause-turn : goal.returns-then-holds_line_ends-clause-turn
returns-then-holds_line_ends-clause-turn g c =
    let none : c.in_ok-read_in.field-0 ≡ false = search rules in
    let step = rw c.in-Ok-Waiting.field-0-is at c.in-Ok-Waiting.ensures.step in
    let waits = before_waits g.E.Engine.answers g.E.Engine.stops g.E.Engine.breaks _ _ _ c.loop-connection.connection c.step.new.self _ _ c.loop-connection.invariant.before step in
    let sent = before_sent _ _ c.step.new.self c.send.new.connection _ _ _ waits c.send.ensures.went in
    let read = before_read _ _ _ c.send.new.connection c.read_in.new.connection _ _ sent c.read_in.ensures.bytes in
    let ended = c.in_ok-read_in.ensures.end (ap (λ (b : Bool). Ok b) none) in
    let blank : AreLineEnds c.read_in.new.connection.held = search rules in (
      only_read _ _ c.read_in.new.connection _ _ read c.read_in.ensures.bounded,
      subst IsPartial (sym (ap (λ (x : ConnectionParts). x.held) ended.0 ∙ sent_held c.step.new.self c.send.new.connection _ c.send.ensures.went.2)) step.1,
      blank,
      ended.1,
      read.kept,
      nothing_left _ (ap (λ (x : ConnectionParts). x.unsent) ended.0 ∙ c.in_ok-send.ensures.all),
    )

pub returns-else-holds_line_ends-clause-turn : goal.returns-else-holds_line_ends-clause-turn
returns-else-holds_line_ends-clause-turn g c =
    let none : c.in_ok-read_in.field-0 ≡ false = search rules in
    let step = rw c.in-Ok-Waiting.field-0-is at c.in-Ok-Waiting.ensures.step in
    let waits = before_waits g.E.Engine.answers g.E.Engine.stops g.E.Engine.breaks _ _ _ c.loop-connection.connection c.step.new.self _ _ c.loop-connection.invariant.before step in
    let sent = before_sent _ _ c.step.new.self c.send.new.connection _ _ _ waits c.send.ensures.went in
    let read = before_read _ _ _ c.send.new.connection c.read_in.new.connection _ _ sent c.read_in.ensures.bytes in
    let ended = c.in_ok-read_in.ensures.end (ap (λ (b : Bool). Ok b) none) in
    let inside : AreLineEnds c.read_in.new.connection.held → ⊥ = search rules in (
      only_read _ _ c.read_in.new.connection _ _ read c.read_in.ensures.bounded,
      subst IsPartial (sym (ap (λ (x : ConnectionParts). x.held) ended.0 ∙ sent_held c.step.new.self c.send.new.connection _ c.send.ensures.went.2)) step.1,
      inside,
      ended.1,
      read.kept,
      nothing_left _ (ap (λ (x : ConnectionParts). x.unsent) ended.0 ∙ c.in_ok-send.ensures.all),
    )

pub loop-connection-preserved : goal.loop-connection-preserved
loop-connection-preserved g c =
    let step = rw c.in-Ok-Waiting.field-0-is at c.in-Ok-Waiting.ensures.step in
    let waits = before_waits g.E.Engine.answers g.E.Engine.stops g.E.Engine.breaks _ _ _ c.loop-connection.connection c.step.new.self _ _ c.loop-connection.invariant.before step in
    let sent = before_sent _ _ c.step.new.self c.send.new.connection _ _ _ waits c.send.ensures.went in
    let came = c.read_in.ensures.bytes in
    let none : c.read_in.new.connection.unsent ≡ [] = ap (λ (x : ConnectionParts). x.unsent) came.1 ∙ c.in_ok-send.ensures.all in
    let is = c.in-Ok-Waiting.field-0-is in
    record {
      before = before_read _ _ _ c.send.new.connection c.read_in.new.connection _ _ sent came;
      unsent = λ some. let e = sym some ∙ nothing_left _ none in absurd cc;
      open_still = ap (λ (x : ConnectionParts). x.is_closing) came.1 ∙ ap (λ (x : ConnectionParts). x.is_closing) c.send.ensures.went.2 ∙ (rw is at c.in-Ok-Waiting.ensures.closing);
      read = c.in_ok-read_in.ensures.failures ∙ c.loop-connection.invariant.read;
      written = c.in_ok-send.ensures.failures ∙ c.loop-connection.invariant.written;
    }
