-- What a counter's answer to a message says.
use Rattle.std.specs.Prelude.{◌≡◌, ℕ, List, Option, Some, None, IsOkAnd}
use Rattle.money.specs.declared.fault.Fault.{Fault}
use Rattle.http_messages.specs.Parts.{MessageParts}
use Rattle.reports.specs.Report.{BeginsWith}
use Rattle.store_rows.specs.Status.{Keeps, RoseBy, Status, Tells}
use Rattle.bank_meaning.specs.Requests.{first}
use Rattle.requests.specs.Request.{IsReport, request_of}
use Rattle.counter_api.specs.Run.{IsAnswered, reply_to}
use Rattle.counter_api.specs.Sent.{HasHead}
use Rattle.counter_api.specs.declared.counter.Counter.{Counter}

-- The message bore a moment that the clock gave, and asks for a report; and a fault broke its reply off, once its head
-- had gone out: these bytes are a beginning of the reply, of each World that the store represented, and no rule denies
-- what was asked there. It represents the same World, and where there is one it counted the fault.
pub record IsBroken {C : Type 0} (users : List ℕ → Option ℕ) (may_give : C → ℕ → C → Type 0) (old new : Status) (from to : C) (message : MessageParts) (sent : List ℕ) : Type 0 where
  pub moment : ℕ
  pub fault : Fault
  pub given : may_give from moment to
  pub report : IsOkAnd (request_of users moment message) (λ r. IsReport r.asked)
  pub kept : Keeps old new (Some fault)
  -- want of memory counts, too
  pub cause : Tells old new (λ w. RoseBy 1 old.fault_count new.fault_count)
  pub headed : HasHead message sent
  pub allowed : Tells old new (λ w. IsOkAnd (request_of users moment message) (λ r. first w r ≡ None))
  pub begun : Tells old new (λ w. BeginsWith (reply_to users w (record { message = message; moment = moment; mark = None })) sent)

-- The clock of the first counter may give this moment, which leaves the second; its gate stays.
pub record CounterGives {S G C : Type 0} (may_give : C → ℕ → C → Type 0) (old : Counter S G C) (moment : ℕ) (new : Counter S G C) : Type 0 where
  pub given : may_give old.clock moment new.clock
  pub same_gate : new.clerk.gate ≡ old.clerk.gate

module _ {S G C : Type 0} (status : S → Status) (users : G → List ℕ → Option ℕ) (may_give : C → ℕ → C → Type 0) where
  -- the message was answered over its bank, at a moment of its clock, and these bytes stand so to its reply
  abbrev pub CounterAnswers : (List ℕ → List ℕ → Type 0) → Counter S G C → MessageParts → List ℕ → Counter S G C → Type 0
  CounterAnswers how old message out new =
      IsAnswered how (users old.clerk.gate) (CounterGives may_give) (status old.bank.store) (status new.bank.store) old new message out

  -- its reply broke, after these bytes
  abbrev pub CounterBreaks : Counter S G C → MessageParts → List ℕ → Counter S G C → Type 0
  CounterBreaks old message sent new =
      IsBroken (users old.clerk.gate) (CounterGives may_give) (status old.bank.store) (status new.bank.store) old new message sent
