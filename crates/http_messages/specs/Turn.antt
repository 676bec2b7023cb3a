-- What one turn of the loop does: reads, and a step after each, until one waits no more.
use Rattle.std.specs.Prelude.{◌≡◌, ◌⊎◌, ℕ, ◌≤◌, Bool, List, ◌++◌, length, Option, Result, Ok, Err, true, false}
use Rattle.std.specs.Io.KnownBytes.{Consumes, Appends, Keeps, IsAtEnd}
use Rattle.money.specs.Counted.{AppendsBeginning}
use Rattle.http_messages.specs.declared.engine.AnswerFault.{AnswerFault}
use Rattle.http_messages.specs.declared.engine.AnswerFault.TheVariants as Answer
use Rattle.http_messages.specs.declared.serving.ServeFault.{ServeFault}
use Rattle.http_messages.specs.declared.serving.ServeFault.TheVariants.{Read, Write, Cut, Memory, Report}
use Rattle.http_messages.specs.declared.step.Step.{Step}
use Rattle.http_messages.specs.declared.step.Step.TheVariants.{Answered, Closed, Waiting}
use Rattle.http_messages.specs.Blank.{AreLineEnds}
use Rattle.http_heads.specs.Framing.{closes}
use Rattle.http_messages.specs.Next.{IsPartial}
use Rattle.http_heads.specs.Parts.{parts_of}
use Rattle.http_messages.specs.Parts.{MessageParts}
use Rattle.http_messages.specs.Inbox.{max_message_len}
use Rattle.http_messages.specs.Refusal.{IsRefusal}
use Rattle.http_messages.specs.Whole.{WholeMessage, print_message, message_parts, IsMessage}

-- a server, as a contract sees it: what its reader has left, what it holds, what its writer has, whether something of that
-- was written since the last flush, and its engine
pub record StoreAndClock (S : Type 0) : Type 0 where
  pub left : Option (List ℕ)
  pub held : List ℕ
  pub written : Option (List ℕ)
  pub unflushed : Bool
  pub engine : S

-- bytes were read, and nothing else was done
pub record OnlyReads {S : Type 0} (old new : StoreAndClock S) : Type 0 where
  pub more : List ℕ
  pub taken : Consumes old.left new.left more
  pub held : new.held ≡ old.held ++ more
  pub engine : new.engine ≡ old.engine
  pub bounded : length new.held ≤ max_message_len

-- bytes were read, and the first message of what was held then was handed to the engine, with the rest after it
pub record Handles {S : Type 0} (answers : S → MessageParts → List ℕ → S → Type 0) (old new : StoreAndClock S) (rest reply : List ℕ) : Type 0 where
  pub more : List ℕ
  pub message : WholeMessage
  pub taken : Consumes old.left new.left more
  pub split : old.held ++ more ≡ print_message message ++ rest
  pub is : IsMessage message
  pub answered : answers old.engine (message_parts message) reply new.engine
  pub bounded : length rest ≤ max_message_len

-- why a call stops where a step stopped for this reason
abbrev pub fault_of : AnswerFault → ServeFault
fault_of Answer.Write = Write
fault_of Answer.Report = Report

module _ {S : Type 0} (answers stops breaks : S → MessageParts → List ℕ → S → Type 0) where
  -- a message was answered, and its reply closes or not
  abbrev pub Answers : Bool → StoreAndClock S → StoreAndClock S → Type 0
  Answers ends old new =
      (reply : List ℕ) × (a : Handles answers old new new.held reply) × (closes (parts_of a.message.head) ≡ ends)
      × Appends old.written new.written reply

  -- how a turn ended: Waiting, where the input ended between two messages. A failed write cut off a reply, or was a flush of what stood there before. After a read nothing is unflushed
  abbrev pub IsTurn : StoreAndClock S → StoreAndClock S → Result Step ServeFault → Type 0
  IsTurn old new (Ok Answered) = Answers false old new
  IsTurn old new (Ok Closed) =
      Answers true old new
      ⊎ (OnlyReads old new × (reply : List ℕ) × IsRefusal new.held reply × Appends old.written new.written reply)
  IsTurn old new (Ok Waiting) =
      OnlyReads old new × IsPartial new.held × AreLineEnds new.held × IsAtEnd new.left × Keeps old.written new.written × (new.unflushed ≡ false)
  IsTurn old new (Err Read) = OnlyReads old new × IsPartial new.held × Keeps old.written new.written × (new.unflushed ≡ false)
  IsTurn old new (Err Cut) =
      OnlyReads old new × IsPartial new.held × ¬ (AreLineEnds new.held) × IsAtEnd new.left × Keeps old.written new.written × (new.unflushed ≡ false)
  IsTurn old new (Err Write) =
      ((old.unflushed ≡ true) × OnlyReads old new × Keeps old.written new.written)
      ⊎ ((reply : List ℕ) × AppendsBeginning old.written new.written reply
      × (((rest : List ℕ) × Handles stops old new rest reply) ⊎ (OnlyReads old new × IsRefusal new.held reply)))
  IsTurn old new (Err Report) =
      (begun : List ℕ) × Appends old.written new.written begun × (rest : List ℕ) × Handles breaks old new rest begun
  IsTurn old new (Err Memory) = ⊥
