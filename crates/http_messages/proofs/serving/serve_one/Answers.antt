-- The reads that were made, and the step after them.
use Rattle.std.proofs.Common.{rules, ◌≡◌, ℕ, List, ◌++◌, append-nil, Bool, true, false, Ok, Err, sym, ap, subst, ◌∙◌, inl}
use Rattle.http_messages.specs.declared.serving.ServeFault.TheVariants.{Read, Write}
use Rattle.http_messages.specs.Blank.{AreLineEnds}
use Rattle.http_messages.specs.Next.{IsPartial}
use Rattle.http_messages.specs.Turn.{fault_of}
use Rattle.http_messages.proofs.TurnLemmas.{flushed, none_came, read_none, read_on, turn_answered, turn_closed, turn_stopped, waited}
use Rattle.http_messages.proofs.serving.serve_one.Goals as goal

pub returns-in-Ok-Answered-clause-turn : goal.returns-in-Ok-Answered-clause-turn
returns-in-Ok-Answered-clause-turn g c =
    let step = rw c.in-Ok-Answered.field-0-is at c.in-Ok-Answered.ensures.step in
    turn_answered g.E.Engine.answers g.E.Engine.stops g.E.Engine.breaks _
    (record { left = g.R.Read.remaining c.loop-exchange.reader.stream; held = c.advance.new.self; written = g.W.Write.contents c.advance.new.writer.stream; unflushed = true; engine = c.advance.new.engine })
    _ c.loop-exchange.invariant.0 step

pub returns-in-Ok-Closed-clause-turn : goal.returns-in-Ok-Closed-clause-turn
returns-in-Ok-Closed-clause-turn g c =
    let step = rw c.in-Ok-Closed.field-0-is at c.in-Ok-Closed.ensures.step in
    turn_closed g.E.Engine.answers g.E.Engine.stops g.E.Engine.breaks _
    (record { left = g.R.Read.remaining c.loop-exchange.reader.stream; held = c.advance.new.self; written = g.W.Write.contents c.advance.new.writer.stream; unflushed = true; engine = c.advance.new.engine })
    _ c.loop-exchange.invariant.0 c.in-Ok-Closed.ensures.bounded step

pub returns-in-Err-clause-turn : goal.returns-in-Err-clause-turn
returns-in-Err-clause-turn g c =
    let is : c.into.result ≡ fault_of c.in-Err.fault = search rules in
    rw is (turn_stopped g.E.Engine.answers g.E.Engine.stops g.E.Engine.breaks _
    (record { left = g.R.Read.remaining c.loop-exchange.reader.stream; held = c.advance.new.self; written = g.W.Write.contents c.advance.new.writer.stream; unflushed = true; engine = c.advance.new.engine })
    _ c.in-Err.fault c.loop-exchange.invariant.0 c.in-Err.ensures.bounded c.in-Err.ensures.step)

pub returns-in_err-flush_written-clause-turn : goal.returns-in_err-flush_written-clause-turn
returns-in_err-flush_written-clause-turn g c =
    let stopped : c.from_residual.result ≡ Err Write = search rules in
    let step = rw c.in-Ok-Waiting.field-0-is at c.in-Ok-Waiting.ensures.step in
    let waits = waited g.E.Engine.answers g.E.Engine.stops g.E.Engine.breaks _ _ _ _ c.loop-exchange.invariant.0 step in
    let before = flushed _ _ _ _ waits c.flush_written.ensures.kept in
    rw stopped (inl (
      c.loop-exchange.invariant.1 c.in_err-flush_written.ensures.err.1,
      record { more = before.more; taken = before.takes.taken; held = before.takes.held; engine = before.engine; bounded = c.in-Ok-Waiting.ensures.bounded },
      before.kept,
    ))

pub returns-in_err-read_more-clause-turn : goal.returns-in_err-read_more-clause-turn
returns-in_err-read_more-clause-turn g c =
    let stopped : c.from_residual-in_err-read_more.result ≡ Err Read = search rules in
    let step = rw c.in-Ok-Waiting.field-0-is at c.in-Ok-Waiting.ensures.step in
    let waits = waited g.E.Engine.answers g.E.Engine.stops g.E.Engine.breaks _ _ _ _ c.loop-exchange.invariant.0 step in
    let err = c.in_err-read_more.ensures.err in
    let before = read_none _ _ _ _ _ (flushed _ _ _ _ waits c.flush_written.ensures.kept) err.1 err.2 in
    rw stopped (
      record { more = before.more; taken = before.takes.taken; held = before.takes.held; engine = before.engine; bounded = c.in_err-read_more.ensures.bounded },
      subst (λ (l : List ℕ). IsPartial l) (sym err.2) step.1,
      before.kept,
      c.in_ok-flush_written.ensures.spent,
    )

pub returns-then-are_line_ends-clause-turn : goal.returns-then-are_line_ends-clause-turn
returns-then-are_line_ends-clause-turn g c =
    let none : c.in_ok-read_more.field-0 ≡ false = search rules in
    let step = rw c.in-Ok-Waiting.field-0-is at c.in-Ok-Waiting.ensures.step in
    let waits = waited g.E.Engine.answers g.E.Engine.stops g.E.Engine.breaks _ _ _ _ c.loop-exchange.invariant.0 step in
    let came = c.in_ok-read_more.ensures.ok in
    let same : c.read_more.new.inbox ≡ c.advance.new.self =
    came.1.held ∙ ap (λ (l : List ℕ). c.advance.new.self ++ l) (none_came came.0 (sym came.2 ∙ none)) ∙ append-nil c.advance.new.self in
    let before = read_on _ _ _ _ _ _ (flushed _ _ _ _ waits c.flush_written.ensures.kept) came.1 in
    let blank : AreLineEnds c.read_more.new.inbox = search rules in (
      record { more = before.more; taken = before.takes.taken; held = before.takes.held; engine = before.engine; bounded = c.in_ok-read_more.ensures.bounded },
      subst (λ (l : List ℕ). IsPartial l) (sym same) step.1,
      blank,
      c.in_ok-read_more.ensures.end (ap (λ (b : Bool). Ok b) none),
      before.kept,
      c.in_ok-flush_written.ensures.spent,
    )

pub returns-else-are_line_ends-clause-turn : goal.returns-else-are_line_ends-clause-turn
returns-else-are_line_ends-clause-turn g c =
    let none : c.in_ok-read_more.field-0 ≡ false = search rules in
    let step = rw c.in-Ok-Waiting.field-0-is at c.in-Ok-Waiting.ensures.step in
    let waits = waited g.E.Engine.answers g.E.Engine.stops g.E.Engine.breaks _ _ _ _ c.loop-exchange.invariant.0 step in
    let came = c.in_ok-read_more.ensures.ok in
    let same : c.read_more.new.inbox ≡ c.advance.new.self =
    came.1.held ∙ ap (λ (l : List ℕ). c.advance.new.self ++ l) (none_came came.0 (sym came.2 ∙ none)) ∙ append-nil c.advance.new.self in
    let before = read_on _ _ _ _ _ _ (flushed _ _ _ _ waits c.flush_written.ensures.kept) came.1 in
    let inside : AreLineEnds c.read_more.new.inbox → ⊥ = search rules in (
      record { more = before.more; taken = before.takes.taken; held = before.takes.held; engine = before.engine; bounded = c.in_ok-read_more.ensures.bounded },
      subst (λ (l : List ℕ). IsPartial l) (sym same) step.1,
      inside,
      c.in_ok-read_more.ensures.end (ap (λ (b : Bool). Ok b) none),
      before.kept,
      c.in_ok-flush_written.ensures.spent,
    )

pub loop-exchange-preserved : goal.loop-exchange-preserved
loop-exchange-preserved g c =
    let step = rw c.in-Ok-Waiting.field-0-is at c.in-Ok-Waiting.ensures.step in
    let waits = waited g.E.Engine.answers g.E.Engine.stops g.E.Engine.breaks _ _ _ _ c.loop-exchange.invariant.0 step in
    let came = c.in_ok-read_more.ensures.ok in (
      read_on _ _ _ _ _ _ (flushed _ _ _ _ waits c.flush_written.ensures.kept) came.1,
      (λ is. let e = sym is ∙ c.in_ok-flush_written.ensures.spent in absurd cc),
      c.in_ok-read_more.ensures.failures ∙ c.loop-exchange.invariant.2,
      c.in_ok-flush_written.ensures.failures ∙ (c.in-Ok-Waiting.ensures.failures ∙ c.loop-exchange.invariant.3),
    )
