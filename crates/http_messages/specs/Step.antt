-- What one step over the bytes that are held does.
use Rattle.std.specs.Prelude.{◌≡◌, ◌⊎◌, ℕ, ◌<◌, ◌≤◌, Bool, List, ◌++◌, length, Option, Result, Ok, Err, true, false}
use Rattle.std.specs.Io.KnownBytes.{Appends}
use Rattle.money.specs.Counted.{AppendsBeginning}
use Rattle.http_heads.specs.Framing.{closes}
use Rattle.http_heads.specs.Parts.{parts_of}
use Rattle.http_messages.specs.declared.engine.AnswerFault.{AnswerFault}
use Rattle.http_messages.specs.declared.engine.AnswerFault.TheVariants.{Write, Report}
use Rattle.http_messages.specs.declared.step.Step.{Step}
use Rattle.http_messages.specs.declared.step.Step.TheVariants.{Answered, Closed, Waiting}
use Rattle.http_messages.specs.Inbox.{max_message_len}
use Rattle.http_messages.specs.Next.{IsPartial}
use Rattle.http_messages.specs.Parts.{MessageParts}
use Rattle.http_messages.specs.Refusal.{IsRefusal}
use Rattle.http_messages.specs.Whole.{WholeMessage, print_message, message_parts, IsMessage}

-- a connection and what answers it: which bytes are held, what the writer has, and the engine
pub record Side (S : Type 0) : Type 0 where
  pub held : List ℕ
  pub written : Option (List ℕ)
  pub engine : S

-- the first message of what was held was handed to the engine, with the rest after it
pub record HandsOn {S : Type 0} (way : S → MessageParts → List ℕ → S → Type 0) (old new : Side S) (rest reply : List ℕ) : Type 0 where
  pub message : WholeMessage
  pub split : old.held ≡ print_message message ++ rest
  pub is : IsMessage message
  pub answered : way old.engine (message_parts message) reply new.engine
  pub bounded : length rest ≤ max_message_len

-- no message was handed on
pub record HandsNone {S : Type 0} (old new : Side S) : Type 0 where
  pub held : new.held ≡ old.held
  pub engine : new.engine ≡ old.engine

module _ {S : Type 0} (answers stops breaks : S → MessageParts → List ℕ → S → Type 0) where
  -- the first message was answered, its rest is held, and its reply closes or not
  abbrev pub AnswersFirst : Bool → Side S → Side S → Type 0
  AnswersFirst ends old new =
      (reply : List ℕ) × (h : HandsOn answers old new new.held reply) × (closes (parts_of h.message.head) ≡ ends) × Appends old.written new.written reply

  -- How a step ended. Answered: the first message was answered, and its rest is held. Closed: the same, by a reply that ends the
  -- connection; or what is held begins none, and was refused. Waiting: less than one message is held, and nothing was done. Write: a
  -- beginning alone of a reply was written. Report: the reply broke after this beginning
  abbrev pub IsStep : Side S → Side S → Result Step AnswerFault → Type 0
  IsStep old new (Ok Answered) = AnswersFirst false old new
  IsStep old new (Ok Closed) =
      AnswersFirst true old new
      ⊎ (HandsNone old new × (reply : List ℕ) × IsRefusal new.held reply × Appends old.written new.written reply)
  IsStep old new (Ok Waiting) = HandsNone old new × IsPartial new.held × (length new.held < max_message_len) × (new.written ≡ old.written)
  IsStep old new (Err Write) =
      (reply : List ℕ) × AppendsBeginning old.written new.written reply
      × (((rest : List ℕ) × HandsOn stops old new rest reply) ⊎ (HandsNone old new × IsRefusal new.held reply))
  IsStep old new (Err Report) =
      (begun : List ℕ) × Appends old.written new.written begun × (rest : List ℕ) × HandsOn breaks old new rest begun
