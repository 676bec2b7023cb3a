-- The bytes of a reply from its status, the type of its content and its body.
use Rattle.std.proofs.Common.{◌≡◌, ℕ, List, Option, Result, OnErr, ap, subst, ◌∙◌}
use Rattle.money.specs.Counted.{AppendsBeginning}
use Rattle.http_heads.specs.Framing.{asks_head, closes}
use Rattle.http_messages.specs.Parts.{MessageParts}
use Rattle.http_messages.specs.Reply.{reply_bytes}
use Rattle.counter_api.specs.Response.{ResponseParts}
use Rattle.counter_api.specs.Run.{framed}

framed_from : (m : MessageParts) (parts : ResponseParts) (status : ℕ) (kind body : List ℕ) → status ≡ parts.status → kind ≡ parts.content_type → body ≡ parts.body
    → reply_bytes status kind body (closes m.head) (asks_head m.head) ≡ framed m parts
framed_from m parts status kind body same_status same_kind same_body =
    ap (λ s. reply_bytes s kind body (closes m.head) (asks_head m.head)) same_status
    ∙ ap (λ k. reply_bytes parts.status k body (closes m.head) (asks_head m.head)) same_kind
    ∙ ap (λ b. reply_bytes parts.status parts.content_type b (closes m.head) (asks_head m.head)) same_body

pub beginning_from : {A E : Type 0} (r : Result A E) (old new : Option (List ℕ)) (m : MessageParts) (parts : ResponseParts) (status : ℕ) (kind body : List ℕ) → status ≡ parts.status
    → kind ≡ parts.content_type → body ≡ parts.body → OnErr r (AppendsBeginning old new (reply_bytes status kind body (closes m.head) (asks_head m.head))) → OnErr r (AppendsBeginning old new (framed m parts))
beginning_from r old new m parts status kind body same_status same_kind same_body begun =
    subst (λ bytes. OnErr r (AppendsBeginning old new bytes)) (framed_from m parts status kind body same_status same_kind same_body) begun
