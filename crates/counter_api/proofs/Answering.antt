-- From what the handling of a message came to, and from what was written of its response, to the answer of the counter.
use Rattle.std.proofs.Common.{◌≡◌, ℕ, List, Option, sym, ap, subst, ◌∙◌, length, append-nil, [], arith}
use Rattle.std.proofs.lemmas.List.{take_all}
use Rattle.std.specs.Io.KnownBytes.{Appends}
use Rattle.money.specs.Counted.{AppendsBeginning}
use Rattle.reports.specs.Report.{BeginsWith}
use Rattle.store_rows.specs.Status.{Status}
use Rattle.counter_api.specs.Response.{ResponseParts}
use Rattle.counter_api.specs.Run.{IsHandled, IsWhole, MarkedMessage, framed}

-- a response that is written is whole, or a beginning of one
pub whole_of : (users : List ℕ → Option ℕ) (old new : Status) (m : MarkedMessage) (parts : ResponseParts) → IsHandled users old new m (λ response. parts ≡ response)
    → IsHandled users old new m (λ response. IsWhole (framed m.message response) (framed m.message parts))
whole_of users old new m parts h = record {
  bears = h.bears;
  timely = h.timely;
  answers = h.answers;
  refused = h.refused;
  moved = h.moved;
  replied = λ clean w held. ap (framed m.message) (h.replied clean w held);
  room = h.room;
  leaves = h.leaves;
  whole = h.whole;
}

pub begun_of : (users : List ℕ → Option ℕ) (old new : Status) (m : MarkedMessage) (parts : ResponseParts) → IsHandled users old new m (λ response. parts ≡ response)
    → IsHandled users old new m (λ response. BeginsWith (framed m.message response) (framed m.message parts))
begun_of users old new m parts h = record {
  bears = h.bears;
  timely = h.timely;
  answers = h.answers;
  refused = h.refused;
  moved = h.moved;
  replied = λ clean w held. ([], ap (framed m.message) (sym (h.replied clean w held)) ∙ sym (append-nil (framed m.message parts)));
  room = h.room;
  leaves = h.leaves;
  whole = h.whole;
}

-- all of the bytes are a beginning of themselves
pub all_begun : (before after : Option (List ℕ)) (bytes : List ℕ) → Appends before after bytes → AppendsBeginning before after bytes
all_begun before after bytes out = (length bytes, omega arith, subst (Appends before after) (sym (take_all (length bytes) bytes (omega arith))) out)
