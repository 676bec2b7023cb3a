-- The reply to bytes that begin no message.
use Rattle.std.specs.Prelude.{◌≡◌, ◌⊎◌, ℕ, Bool, List, Some, codes, true, false}
use Rattle.httparse.specs.Grammar.{RequestHead}
use Rattle.http_heads.specs.declared.fault.MessageFault.{MessageFault}
use Rattle.http_heads.specs.Fault.{fault_status, fault_text}
use Rattle.http_heads.specs.Framing.{head_fault, asks_head}
use Rattle.http_heads.specs.Parts.{parts_of}
use Rattle.http_heads.specs.Stream.{BeginsHead}
use Rattle.http_messages.specs.Next.{HasFault, IsPartial}
use Rattle.http_messages.specs.Reply.{reply_bytes}

-- the reply to a fault that ends the connection
abbrev pub refusal_bytes : MessageFault → Bool → List ℕ
refusal_bytes fault head_only = reply_bytes (fault_status fault) (codes "application/json") (fault_text fault) true head_only

-- the bytes begin with no message, for this fault: no head was taken, or one that has the fault
abbrev pub IsRefused : List ℕ → MessageFault → Bool → Type 0
IsRefused bytes fault head_only =
    (HasFault bytes fault × (head_only ≡ false))
    ⊎ ((h : RequestHead) × (rest : List ℕ) × BeginsHead bytes h rest × (head_fault (parts_of h) ≡ Some fault) × (head_only ≡ asks_head (parts_of h)))

-- the reply to bytes that begin with no message
abbrev pub IsRefusal : List ℕ → List ℕ → Type 0
IsRefusal bytes reply = (fault : MessageFault) × (head_only : Bool) × IsRefused bytes fault head_only × (reply ≡ refusal_bytes fault head_only)

-- they hold no whole message at their front: they are less than one, or begin none
abbrev pub HoldsNoMessage : List ℕ → Type 0
HoldsNoMessage bytes = IsPartial bytes ⊎ ((reply : List ℕ) × IsRefusal bytes reply)
