-- How a call of the loop ends: what was read, answered and written, by its exit.
use Rattle.std.specs.Prelude.{◌≡◌, ◌⊎◌, ℕ, ◌+◌, ◌<◌, ◌≤◌, List, [], ◌∷◌, ◌++◌, length, take, All, Option, Result, Ok, Err, false, true}
use Rattle.std.specs.Io.KnownBytes.{Consumes, Appends, IsAtEnd}
use Rattle.http_messages.specs.declared.serving.Served.{Served}
use Rattle.http_messages.specs.declared.serving.ServeFault.{ServeFault}
use Rattle.http_messages.specs.declared.serving.ServeFault.TheVariants.{Read, Write, Cut, Memory, Report}
use Rattle.http_heads.specs.Framing.{closes}
use Rattle.http_heads.specs.Parts.{parts_of}
use Rattle.http_messages.specs.Blank.{AreLineEnds}
use Rattle.http_messages.specs.Next.{IsPartial}
use Rattle.http_messages.specs.Parts.{MessageParts}
use Rattle.http_messages.specs.Inbox.{max_message_len}
use Rattle.http_messages.specs.Refusal.{IsRefusal}
use Rattle.http_messages.specs.Whole.{WholeMessage, message_parts, Splits}

-- a server at one point, as its caller sees it: what its reader has left, what its writer has, and its engine
pub record Point (S : Type 0) : Type 0 where
  pub left : Option (List ℕ)
  pub written : Option (List ℕ)
  pub engine : S

-- the connection goes on after the reply to this message (RFC 9112, section 9.3)
abbrev pub StaysOpen : WholeMessage → Type 0
StaysOpen m = closes (parts_of m.head) ≡ false

-- the connection ends after the reply to the last of the messages, and after none before
abbrev pub ClosesLast : List WholeMessage → Type 0
ClosesLast ms =
    (before : List WholeMessage) × (last : WholeMessage) × (ms ≡ before ++ last ∷ []) × All StaysOpen before
    × (closes (parts_of last.head) ≡ true)

-- no further reply is due: as many messages were answered as were asked for, and where none was nothing was read; or the input
-- ended between two messages; or the last one ended the connection. Where the input did not end, bytes may follow unread
abbrev pub Ends : ℕ → List WholeMessage → List ℕ → Option (List ℕ) → Type 0
Ends most ms rest left =
    ((length ms ≡ most) × All StaysOpen ms × (most ≡ 0 → rest ≡ []))
    ⊎ (((length ms < most) × All StaysOpen ms × IsPartial rest × AreLineEnds rest × IsAtEnd left)
    ⊎ ((length ms ≤ most) × ClosesLast ms))

-- these messages are fewer than were asked for, and the connection goes on after each
abbrev pub GoesOn : ℕ → List WholeMessage → Type 0
GoesOn most ms = (length ms < most) × All StaysOpen ms

-- the writer got these replies, and a beginning of one more: all of that one where a flush failed
abbrev pub StopsWithin : Option (List ℕ) → Option (List ℕ) → List ℕ → List ℕ → Type 0
StopsWithin old new replies reply = (n : ℕ) × (n ≤ length reply) × Appends old new (replies ++ take n reply)

module _ {S : Type 0} (answers : S → MessageParts → List ℕ → S → Type 0) where
  -- from old on the messages were answered, one after another, by these bytes, and left new
  abbrev pub AnswersAll : S → List WholeMessage → List ℕ → S → Type 0
  AnswersAll old [] out new = (out ≡ []) × (new ≡ old)
  AnswersAll old (m ∷ ms) out new =
      (mid : S) × (reply : List ℕ) × (later : List ℕ)
      × answers old (message_parts m) reply mid × (out ≡ reply ++ later) × AnswersAll mid ms later new

  -- the bytes that were read are these messages, one after another, and a rest, which is at most as long as the longest message;
  -- the engine answered the messages by out
  pub record Reads (old new : Point S) (ms : List WholeMessage) (rest out : List ℕ) : Type 0 where
    pub bytes : List ℕ
    pub taken : Consumes old.left new.left bytes
    pub splits : Splits bytes ms rest
    pub answered : AnswersAll old.engine ms out new.engine
    pub bounded : length rest ≤ max_message_len

  -- the same with one message more, which was answered last, in this way and by this reply
  pub record ReadsLast (way : S → MessageParts → List ℕ → S → Type 0) (old new : Point S) (before : List WholeMessage) (last : WholeMessage) (rest replies reply : List ℕ) : Type 0 where
    pub bytes : List ℕ
    pub mid : S
    pub taken : Consumes old.left new.left bytes
    pub splits : Splits bytes (before ++ last ∷ []) rest
    pub answered : AnswersAll old.engine before replies mid
    pub reached : way mid (message_parts last) reply new.engine
    pub bounded : length rest ≤ max_message_len

  -- the reply to a message stopped: that message is the last that was answered
  abbrev pub StopsInReply : (S → MessageParts → List ℕ → S → Type 0) → ℕ → Point S → Point S → Type 0
  StopsInReply way most old new =
      (before : List WholeMessage) × (last : WholeMessage) × (rest : List ℕ) × (replies : List ℕ) × (reply : List ℕ)
      × ReadsLast way old new before last rest replies reply × GoesOn most before × StopsWithin old.written new.written replies reply

  -- the reply to a message broke, after these bytes of it: that message is the last that was answered
  abbrev pub BreaksInReply : (S → MessageParts → List ℕ → S → Type 0) → ℕ → Point S → Point S → Type 0
  BreaksInReply way most old new =
      (before : List WholeMessage) × (last : WholeMessage) × (rest : List ℕ) × (replies : List ℕ) × (begun : List ℕ)
      × ReadsLast way old new before last rest replies begun × GoesOn most before × Appends old.written new.written (replies ++ begun)

  -- the reply to bytes that begin no message stopped
  abbrev pub StopsInRefusal : ℕ → Point S → Point S → Type 0
  StopsInRefusal most old new =
      (ms : List WholeMessage) × (rest : List ℕ) × (out : List ℕ) × (reply : List ℕ)
      × Reads old new ms rest out × GoesOn most ms × IsRefusal rest reply × StopsWithin old.written new.written out reply

module _ {S : Type 0} (answers stops breaks : S → MessageParts → List ℕ → S → Type 0) where
  -- Ok: the messages were answered, and no further reply is due, or what follows begins no message and was refused.
  -- Read, Cut: the messages were answered, and less than one more had come. Write: a reply was written and not flushed, or
  -- stopped. Report: the engine gave one up. Memory: nothing was read, answered or written
  abbrev pub IsExit : ℕ → Point S → Point S → Result Served ServeFault → Type 0
  IsExit most old new (Ok s) =
      (ms : List WholeMessage) × (rest : List ℕ) × (out : List ℕ) × Reads answers old new ms rest out
      × (((s.messages ≡ length ms) × Ends most ms rest new.left × Appends old.written new.written out)
      ⊎ ((s.messages ≡ length ms + 1) × GoesOn most ms × (reply : List ℕ) × IsRefusal rest reply × Appends old.written new.written (out ++ reply)))
  IsExit most old new (Err Read) =
      (ms : List WholeMessage) × (rest : List ℕ) × (out : List ℕ) × Reads answers old new ms rest out
      × GoesOn most ms × IsPartial rest × Appends old.written new.written out
  IsExit most old new (Err Cut) =
      (ms : List WholeMessage) × (rest : List ℕ) × (out : List ℕ) × Reads answers old new ms rest out
      × GoesOn most ms × IsPartial rest × ¬ (AreLineEnds rest) × IsAtEnd new.left × Appends old.written new.written out
  IsExit most old new (Err Write) =
      StopsInReply answers answers most old new ⊎ (StopsInReply answers stops most old new ⊎ StopsInRefusal answers most old new)
  IsExit most old new (Err Report) = BreaksInReply answers breaks most old new
  IsExit most old new (Err Memory) = new ≡ old
