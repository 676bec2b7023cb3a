-- The head and the body that the engine is handed are those that the bytes begin with.
use Rattle.std.proofs.Common.{ℕ, List, ◌+◌, ◌-◌, take, drop, ap, refl, sym, subst, ◌∙◌, inl}
use Rattle.httparse.specs.Spans.{IsRequestAt}
use Rattle.httparse.specs.declared.spans.HeaderSpan.{HeaderSpan}
use Rattle.http_messages.proofs.StepLemmas.{handed_parts, step_answered, step_refused, step_stopped, faulty_refused}
use Rattle.http_messages.proofs.inbox.Inbox.advance.Goals as goal

pub returns-then-closes-clause-step : goal.returns-then-closes-clause-step
returns-then-closes-clause-step g c =
    let begins = rw c.in-Message.is at c.look.ensures.next in
    let r = c.in-Message.spans in
    let n = c.in-Message.body_len in
    let bytes = c.bytes-bytes.ensures ∙ c.look.ensures.kept in
    let covers = subst (λ (hs : List HeaderSpan). IsRequestAt c.bytes-bytes.result.now hs r begins.head) (sym c.spans.ensures)
    (subst (λ (l : List ℕ). IsRequestAt l c.look.new.fields r begins.head) (sym bytes) begins.begins.covers) in
    let is = c.new-message.ensures ∙ handed_parts _ _ r n _ _ begins (c.new-head.ensures begins.head covers) (ap (λ (l : List ℕ). take ((r.len + n) - r.len) (drop r.len l)) bytes) in
    inl (step_answered g.E.Engine.answers g.E.Engine.stops g.E.Engine.breaks _ _ _ _ r n _ (rw c.look.ensures.kept at c.look.ensures.bounded) begins is
    (c.drop_front.ensures ∙ ap (λ (l : List ℕ). drop (r.len + n) l) c.look.ensures.kept) c.in-Ok.ensures.answered (sym c.closes-closes.ensures ∙ c.if-closes.true))

pub returns-else-closes-clause-step : goal.returns-else-closes-clause-step
returns-else-closes-clause-step g c =
    let begins = rw c.in-Message.is at c.look.ensures.next in
    let r = c.in-Message.spans in
    let n = c.in-Message.body_len in
    let bytes = c.bytes-bytes.ensures ∙ c.look.ensures.kept in
    let covers = subst (λ (hs : List HeaderSpan). IsRequestAt c.bytes-bytes.result.now hs r begins.head) (sym c.spans.ensures)
    (subst (λ (l : List ℕ). IsRequestAt l c.look.new.fields r begins.head) (sym bytes) begins.begins.covers) in
    let is = c.new-message.ensures ∙ handed_parts _ _ r n _ _ begins (c.new-head.ensures begins.head covers) (ap (λ (l : List ℕ). take ((r.len + n) - r.len) (drop r.len l)) bytes) in
    step_answered g.E.Engine.answers g.E.Engine.stops g.E.Engine.breaks _ _ _ _ r n _ (rw c.look.ensures.kept at c.look.ensures.bounded) begins is
    (c.drop_front.ensures ∙ ap (λ (l : List ℕ). drop (r.len + n) l) c.look.ensures.kept) c.in-Ok.ensures.answered (sym c.closes-closes.ensures ∙ c.if-closes.false)

pub returns-in-Err-clause-step : goal.returns-in-Err-clause-step
returns-in-Err-clause-step g c =
    let begins = rw c.in-Message.is at c.look.ensures.next in
    let r = c.in-Message.spans in
    let n = c.in-Message.body_len in
    let bytes = c.bytes-bytes.ensures ∙ c.look.ensures.kept in
    let covers = subst (λ (hs : List HeaderSpan). IsRequestAt c.bytes-bytes.result.now hs r begins.head) (sym c.spans.ensures)
    (subst (λ (l : List ℕ). IsRequestAt l c.look.new.fields r begins.head) (sym bytes) begins.begins.covers) in
    let is = c.new-message.ensures ∙ handed_parts _ _ r n _ _ begins (c.new-head.ensures begins.head covers) (ap (λ (l : List ℕ). take ((r.len + n) - r.len) (drop r.len l)) bytes) in
    step_stopped g.E.Engine.answers g.E.Engine.stops g.E.Engine.breaks _ _ _ r n _ c.in-Err.fault (rw c.look.ensures.kept at c.look.ensures.bounded) begins is c.in-Err.ensures.answered

pub returns-in-FaultyHead-clause-step : goal.returns-in-FaultyHead-clause-step
returns-in-FaultyHead-clause-step g c =
    let begins = rw c.in-FaultyHead.is at c.look.ensures.next in
    let bytes = c.bytes.ensures ∙ c.look.ensures.kept in
    let covers = subst (λ (hs : List HeaderSpan). IsRequestAt c.bytes.result.now hs c.in-FaultyHead.spans begins.head) (sym c.spans-in-FaultyHead.ensures)
    (subst (λ (l : List ℕ). IsRequestAt l c.look.new.fields c.in-FaultyHead.spans begins.head) (sym bytes) begins.begins.covers) in
    let refused = faulty_refused _ _ _ _ _ _ begins (c.new-head-in-FaultyHead.ensures begins.head covers) c.framing.ensures.head_only in
    step_refused g.E.Engine.answers g.E.Engine.stops g.E.Engine.breaks _ _ _ _ c.refuse.result c.look.ensures.kept refl (rw (sym c.look.ensures.kept) at refused) c.refuse.ensures.ok c.refuse.ensures.err

pub returns-in-NoHead-clause-step : goal.returns-in-NoHead-clause-step
returns-in-NoHead-clause-step g c =
    let fault = rw (c.in-NoHead.is, sym c.look.ensures.kept) at c.look.ensures.next in
    step_refused g.E.Engine.answers g.E.Engine.stops g.E.Engine.breaks _ _ _ _ c.refuse-in-NoHead.result c.look.ensures.kept refl (inl (fault, refl)) c.refuse-in-NoHead.ensures.ok c.refuse-in-NoHead.ensures.err

pub returns-in-Partial-clause-step : goal.returns-in-Partial-clause-step
returns-in-Partial-clause-step g c =
    let part = rw (c.in-Partial.is, sym c.look.ensures.kept) at c.look.ensures.next in
    (record { held = c.look.ensures.kept; engine = refl }, part.0, part.1, refl)
