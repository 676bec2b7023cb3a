-- A step over an inbox is one over its connection.
use Rattle.std.proofs.Common.{◌≡◌, ℕ, List, Option, Some, Result, subst}
use Rattle.http_messages.specs.declared.engine.AnswerFault.{AnswerFault}
use Rattle.http_messages.specs.declared.step.Step.{Step}
use Rattle.http_messages.specs.Parts.{MessageParts}
use Rattle.http_messages.specs.Step.{IsStep}

module _ {S : Type 0} (answers stops breaks : S → MessageParts → List ℕ → S → Type 0) where
  pub stepped : (h k u v : List ℕ) (from to : S) (held kept : List ℕ) (before after : Option (List ℕ)) (step : Result Step AnswerFault) → held ≡ h → kept ≡ k → before ≡ Some u → after ≡ Some v
      → IsStep answers stops breaks (record { held = held; written = before; engine = from }) (record { held = kept; written = after; engine = to }) step
      → IsStep answers stops breaks (record { held = h; written = Some u; engine = from }) (record { held = k; written = Some v; engine = to }) step
  stepped h k u v from to held kept before after step is_held is_kept was is took =
      subst (λ (o : Option (List ℕ)). IsStep answers stops breaks (record { held = h; written = Some u; engine = from }) (record { held = k; written = o; engine = to }) step) is
      (subst (λ (o : Option (List ℕ)). IsStep answers stops breaks (record { held = h; written = o; engine = from }) (record { held = k; written = after; engine = to }) step) was
      (subst (λ (l : List ℕ). IsStep answers stops breaks (record { held = h; written = before; engine = from }) (record { held = l; written = after; engine = to }) step) is_kept
      (subst (λ (l : List ℕ). IsStep answers stops breaks (record { held = l; written = before; engine = from }) (record { held = kept; written = after; engine = to }) step) is_held took)))
