-- What an engine's answer says.
use Rattle.std.specs.Prelude.{ℕ, List, Option, Result, Ok, Err}
use Rattle.std.specs.Io.KnownBytes.{Appends}
use Rattle.money.specs.Counted.{AppendsBeginning}
use Rattle.http_messages.specs.declared.engine.AnswerFault.{AnswerFault}
use Rattle.http_messages.specs.declared.engine.AnswerFault.TheVariants as Answer
use Rattle.http_messages.specs.Parts.{MessageParts}

module _ {S : Type 0} (answers stops breaks : S → MessageParts → List ℕ → S → Type 0) where
  -- old answered the message, and is new: the reply was written, or a beginning of one that stopped, or all that there was of one that broke
  abbrev pub IsAnswered : S → S → MessageParts → Option (List ℕ) → Option (List ℕ) → Result Unit AnswerFault → Type 0
  IsAnswered old new m before after (Ok _) = (reply : List ℕ) × answers old m reply new × Appends before after reply
  IsAnswered old new m before after (Err Answer.Write) = (reply : List ℕ) × stops old m reply new × AppendsBeginning before after reply
  IsAnswered old new m before after (Err Answer.Report) = (begun : List ℕ) × breaks old m begun new × Appends before after begun
