-- That what answers messages does so over a bank.
use Rattle.std.proofs.Common.{ap}
use Rattle.std.specs.Prelude.{◌≡◌, ℕ, List, Option}
use Rattle.http_messages.specs.Parts.{MessageParts}
use Rattle.reports.specs.Report.{BeginsWith}
use Rattle.store_rows.specs.Status.{Status}
use Rattle.counter_api.specs.Answers.{CounterAnswers, CounterBreaks, CounterGives, IsBroken}
use Rattle.counter_api.specs.Run.{IsAnswered, IsWhole}
use Rattle.counter_api.specs.declared.counter.Counter.{Counter}

-- What answers a message by these bytes answers it over its bank, at a moment of its clock, by the whole reply; what stops after them, by a beginning of
-- one; and what breaks after them, breaks as a report. It names the same users after each.
pub record AnswersByBank {X : Type 0} (status : X → Status) (users : X → List ℕ → Option ℕ) (may_give : X → ℕ → X → Type 0) (answers stops breaks : X → MessageParts → List ℕ → X → Type 0) : Type 0 where
  pub whole : (old : X) (message : MessageParts) (out : List ℕ) (new : X) → answers old message out new
      → IsAnswered IsWhole (users old) may_give (status old) (status new) old new message out × (users new ≡ users old)
  pub begun : (old : X) (message : MessageParts) (out : List ℕ) (new : X) → stops old message out new
      → IsAnswered BeginsWith (users old) may_give (status old) (status new) old new message out × (users new ≡ users old)
  pub broken : (old : X) (message : MessageParts) (out : List ℕ) (new : X) → breaks old message out new
      → IsBroken (users old) may_give (status old) (status new) old new message out × (users new ≡ users old)

-- so a counter answers
pub counter_by_bank : {S G C : Type 0} (status : S → Status) (users : G → List ℕ → Option ℕ) (may_give : C → ℕ → C → Type 0)
    → AnswersByBank {X = Counter S G C} (λ e. status e.bank.store) (λ e. users e.clerk.gate) (CounterGives may_give)
    (CounterAnswers status users may_give IsWhole) (CounterAnswers status users may_give BeginsWith) (CounterBreaks status users may_give)
counter_by_bank status users may_give = record {
  whole = λ old message out new is. (is, ap users is.given.same_gate);
  begun = λ old message out new is. (is, ap users is.given.same_gate);
  broken = λ old message out new is. (is, ap users is.given.same_gate);
}
