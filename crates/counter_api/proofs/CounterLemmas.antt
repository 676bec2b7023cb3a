-- From the exits of the loop over a counter to those of `serve` over its bank.
use Rattle.std.proofs.Common.{◌≡◌, ℕ, List, Option, Result, refl, ap, subst, ◌∙◌}
use Rattle.http_messages.specs.Exit.{IsExit, Point}
use Rattle.http_messages.specs.Parts.{MessageParts}
use Rattle.http_messages.specs.declared.serving.ServeFault.{ServeFault}
use Rattle.http_messages.specs.declared.serving.Served.{Served}
use Rattle.store_rows.specs.Status.{Status}
use Rattle.counter_api.specs.Answers.{CounterAnswers, CounterBreaks, IsBroken}
use Rattle.counter_api.specs.Exit.{IsServed}
use Rattle.reports.specs.Report.{BeginsWith}
use Rattle.counter_api.specs.Run.{IsAnswered, IsWhole}
use Rattle.counter_api.specs.declared.counter.Counter.{Counter}
use Rattle.counter_api.proofs.ExitLemmas.{exits}

module _ {S G C : Type 0} (status : S → Status) (users : G → List ℕ → Option ℕ) (may_give : C → ℕ → C → Type 0) where
  -- its users are those that it began with
  abbrev IsAsBefore : Counter S G C → Counter S G C → Type 0
  IsAsBefore start now = users now.clerk.gate ≡ users start.clerk.gate

  tells : (how : List ℕ → List ℕ → Type 0) (start old new : Counter S G C) (m : MessageParts) (out : List ℕ) → IsAsBefore start old → CounterAnswers status users may_give how old m out new
      → IsAsBefore start new × IsAnswered how (users start.clerk.gate) may_give (status old.bank.store) (status new.bank.store) old.clock new.clock m out
  tells how start old new m out before says = (
    ap users says.given.same_gate ∙ before,
    subst (λ known. IsAnswered how known may_give (status old.bank.store) (status new.bank.store) old.clock new.clock m out) before
        (record { moment = says.moment; mark = says.mark; given = says.given.given; handled = says.handled }),
  )

  tells_broken : (start old new : Counter S G C) (m : MessageParts) (sent : List ℕ) → IsAsBefore start old → CounterBreaks status users may_give old m sent new
      → IsAsBefore start new × IsBroken (users start.clerk.gate) may_give (status old.bank.store) (status new.bank.store) old.clock new.clock m sent
  tells_broken start old new m sent before says = (
    ap users says.given.same_gate ∙ before,
    subst (λ known. IsBroken known may_give (status old.bank.store) (status new.bank.store) old.clock new.clock m sent) before
        (record {
          moment = says.moment;
          fault = says.fault;
          given = says.given.given;
          report = says.report;
          kept = says.kept;
          cause = says.cause;
          headed = says.headed;
          allowed = says.allowed;
          begun = says.begun;
        }),
  )

  pub counter_exits : (most : ℕ) (old new : Point (Counter S G C)) (r : Result Served ServeFault)
      → IsExit (CounterAnswers status users may_give IsWhole) (CounterAnswers status users may_give BeginsWith) (CounterBreaks status users may_give) most old new r
      → IsServed status (users old.engine.clerk.gate) may_give most
      (record { left = old.left; written = old.written; store = old.engine.bank.store; clock = old.engine.clock })
      (record { left = new.left; written = new.written; store = new.engine.bank.store; clock = new.engine.clock }) r
      × (users new.engine.clerk.gate ≡ users old.engine.clerk.gate)
  counter_exits most old new r exit =
      exits (λ e. e.bank.store) (λ e. e.clock) status (users old.engine.clerk.gate) may_give (IsAsBefore old.engine) (CounterAnswers status users may_give IsWhole) (tells IsWhole old.engine)
      (CounterAnswers status users may_give BeginsWith) (tells BeginsWith old.engine)
      (CounterBreaks status users may_give) (tells_broken old.engine) most old new r refl exit
