-- What the bytes of a stream begin with.
use Rattle.std.specs.Prelude.{◌≡◌, ◌⊎◌, ℕ, ◌+◌, ◌<◌, ◌≤◌, List, length, Some, None, ⊤}
use Rattle.httparse.specs.declared.spans.HeaderSpan.{HeaderSpan}
use Rattle.httparse.specs.declared.spans.RequestSpans.{RequestSpans}
use Rattle.httparse.specs.Grammar.{RequestHead}
use Rattle.httparse.specs.Spans.{IsRequestAt, IsRequestWithin}
use Rattle.http_heads.specs.declared.fault.MessageFault.{MessageFault}
use Rattle.http_heads.specs.declared.fault.MessageFault.TheVariants as Fault
use Rattle.http_messages.specs.declared.looking.Next.{Next}
use Rattle.http_messages.specs.declared.looking.Next.TheVariants.{Message, FaultyHead, NoHead, Partial}
use Rattle.http_messages.specs.declared.looking.Awaited.{Awaited}
use Rattle.http_messages.specs.declared.looking.Awaited.TheVariants.{Head, Body}
use Rattle.http_heads.specs.Stream.{max_head_len, BeginsHead, IsMalformed, IsTooLong, IsUndecided}
use Rattle.http_heads.specs.Seen.{IsSeen}
use Rattle.http_heads.specs.Framing.{max_body_len, head_fault, body_len}
use Rattle.http_heads.specs.Parts.{parts_of}
use Rattle.http_messages.specs.Inbox.{max_message_len}

-- the bytes begin with the head that the spans cover
pub record BeginsAt (bytes : List ℕ) (headers : List HeaderSpan) (r : RequestSpans) (h : RequestHead) : Type 0 where
  pub covers : IsRequestAt bytes headers r h
  pub within : IsRequestWithin bytes headers r
  pub short : r.len ≤ max_head_len

-- they begin with a head that has no fault, and a body of n bytes is to follow it
pub record BeginsSound (bytes : List ℕ) (headers : List HeaderSpan) (r : RequestSpans) (n : ℕ) : Type 0 where
  pub head : RequestHead
  pub begins : BeginsAt bytes headers r head
  pub sound : head_fault (parts_of head) ≡ None
  pub body : n ≡ body_len (parts_of head)
  pub fits : n ≤ max_body_len

-- they begin with a head that has no fault, and with its body
pub record BeginsMessage (bytes : List ℕ) (headers : List HeaderSpan) (r : RequestSpans) (n : ℕ) : Type 0 where
  pub head : RequestHead
  pub begins : BeginsAt bytes headers r head
  pub sound : head_fault (parts_of head) ≡ None
  pub body : n ≡ body_len (parts_of head)
  pub whole : r.len + n ≤ length bytes

-- they begin with a head that has this fault
pub record BeginsFaulty (bytes : List ℕ) (headers : List HeaderSpan) (r : RequestSpans) (fault : MessageFault) : Type 0 where
  pub head : RequestHead
  pub begins : BeginsAt bytes headers r head
  pub faulty : head_fault (parts_of head) ≡ Some fault

-- they begin with a head that has no fault, and with a part of its body
pub record BeginsBody (bytes : List ℕ) : Type 0 where
  pub head : RequestHead
  pub rest : List ℕ
  pub begins : BeginsHead bytes head rest
  pub sound : head_fault (parts_of head) ≡ None
  pub part : length rest < body_len (parts_of head)

-- they are less than a whole message, and show no fault yet
abbrev pub IsPartial : List ℕ → Type 0
IsPartial bytes = IsUndecided bytes ⊎ BeginsBody bytes

-- they begin with no head, for this reason
abbrev pub HasFault : List ℕ → MessageFault → Type 0
HasFault bytes Fault.BadHead = IsMalformed bytes
HasFault bytes Fault.HeadTooLong = IsTooLong bytes
HasFault bytes _ = ⊥

-- a head that has no fault begins them, and the message has `whole` bytes with its head
pub record AwaitsBody (bytes : List ℕ) (whole : ℕ) : Type 0 where
  pub headers : List HeaderSpan
  pub spans : RequestSpans
  pub body : ℕ
  pub sound : BeginsSound bytes headers spans body
  pub is : whole ≡ spans.len + body

-- what was found of a message that came in part: how far a head was judged, or how long the message is
abbrev pub IsAwaited : List ℕ → Awaited → Type 0
IsAwaited bytes (Head seen) = IsSeen bytes seen
IsAwaited bytes (Body whole) = AwaitsBody bytes whole

-- where a head is awaited, all of the bytes were judged
abbrev pub IsThrough : List ℕ → Awaited → Type 0
IsThrough bytes (Head seen) = seen.len ≡ length bytes
IsThrough bytes (Body whole) = ⊤

abbrev pub IsNext : List ℕ → List HeaderSpan → Next → Type 0
IsNext bytes headers (Message r n) = BeginsMessage bytes headers r n
IsNext bytes headers (FaultyHead r fault) = BeginsFaulty bytes headers r fault
IsNext bytes headers (NoHead fault) = HasFault bytes fault
IsNext bytes headers Partial = IsPartial bytes × (length bytes < max_message_len)
