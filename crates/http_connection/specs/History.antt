-- What happens to a connection, one thing after another, whoever moves its bytes.
use Rattle.std.specs.Prelude.{◌≡◌, ◌⊎◌, ◌+◌, ℕ, List, [], ◌∷◌, ◌++◌, Option, Some, All, Result, false}
use Rattle.std.specs.Io.KnownBytes.{Appends, Consumes}
use Rattle.http_messages.specs.Exit.{AnswersAll, StaysOpen}
use Rattle.http_messages.specs.Parts.{MessageParts}
use Rattle.http_messages.specs.Step.{IsStep}
use Rattle.http_messages.specs.Whole.{Splits, WholeMessage}
use Rattle.http_messages.specs.declared.engine.AnswerFault.{AnswerFault}
use Rattle.http_messages.specs.declared.step.Step.{Step}
use Rattle.http_connection.specs.Connection.{IsAnswered, progress_of}
use Rattle.http_connection.specs.Parts.{ConnectionParts, after_received, closed}
use Rattle.http_connection.specs.declared.progress.Progress.{Progress}
use Rattle.http_connection.specs.declared.progress.Progress.TheVariants.{Answered, Closes, Waits}

-- these bytes came; a step was taken; these, the first of those that were to go out, went out; the input ended, and nothing more is answered
pub data Event : Type 0 where
  came : List ℕ → Event
  stepped : Progress → Event
  went : List ℕ → Event
  ended : Event

-- what came
abbrev pub came_of : List Event → List ℕ
came_of [] = []
came_of (came bytes ∷ events) = bytes ++ came_of events
came_of (stepped progress ∷ events) = came_of events
came_of (went bytes ∷ events) = came_of events
came_of (ended ∷ events) = came_of events

-- what went out
abbrev pub went_of : List Event → List ℕ
went_of [] = []
went_of (came bytes ∷ events) = went_of events
went_of (stepped progress ∷ events) = went_of events
went_of (went bytes ∷ events) = bytes ++ went_of events
went_of (ended ∷ events) = went_of events

-- how many messages were answered by replies after which the connection goes on
abbrev pub answered_by : Progress → ℕ
answered_by Answered = 1
answered_by Waits = 0
answered_by Closes = 0

abbrev pub answered_of : List Event → ℕ
answered_of [] = 0
answered_of (came bytes ∷ events) = answered_of events
answered_of (stepped progress ∷ events) = answered_by progress + answered_of events
answered_of (went bytes ∷ events) = answered_of events
answered_of (ended ∷ events) = answered_of events

-- the same connection, with these bytes to go out
abbrev pub with_unsent : List ℕ → ConnectionParts → ConnectionParts
with_unsent bytes c = record { held = c.held; unsent = bytes; is_closing = c.is_closing }

module _ {S : Type 0} (answers stops breaks : S → MessageParts → List ℕ → S → Type 0) where
  -- from a connection and what answers it to what both are after these events
  abbrev pub IsHistory : ConnectionParts → S → List Event → ConnectionParts → S → Type 0
  IsHistory c e [] d f = (d ≡ c) × (f ≡ e)
  IsHistory c e (came bytes ∷ events) d f = IsHistory (after_received bytes c) e events d f
  IsHistory c e (stepped progress ∷ events) d f =
      (mid : ConnectionParts) × (at : S) × (c.is_closing ≡ false) × IsAnswered answers stops breaks c e mid at progress × IsHistory mid at events d f
  IsHistory c e (went bytes ∷ events) d f = (rest : List ℕ) × (c.unsent ≡ bytes ++ rest) × IsHistory (with_unsent rest c) e events d f
  IsHistory c e (ended ∷ events) d f = IsHistory (closed c) e events d f

  -- What closed a connection, of which this was held, and nothing was to go out: a step, which left this held and that to go out; or the end of its input.
  abbrev pub IsLast : List ℕ → S → List ℕ → List ℕ → S → Type 0
  IsLast held at rest out to =
      ((step : Result Step AnswerFault) × (progress_of step ≡ Closes) × IsStep answers stops breaks (record { held = held; written = Some []; engine = at }) (record { held = rest; written = Some out; engine = to }) step)
      ⊎ ((rest ≡ held) × (out ≡ []) × (to ≡ at))

-- Something was read of one stream and written to another, and this is the history of the connection meanwhile, with the number of messages that were answered
-- in it: all that was read came to it, in that order, and all that was written is what went out of it. So it is for each who moves its bytes.
pub record Moves {S : Type 0} (answers stops breaks : S → MessageParts → List ℕ → S → Type 0) (left_old left_new written_old written_new : Option (List ℕ)) (answered : ℕ) (c : ConnectionParts) (e : S) (d : ConnectionParts) (f : S) : Type 0 where
  pub events : List Event
  pub history : IsHistory answers stops breaks c e events d f
  pub came : Consumes left_old left_new (came_of events)
  pub went : Appends written_old written_new (went_of events)
  pub count : answered_of events ≡ answered

-- What came are these messages, one after another, and what is held; the connection goes on after each; they were answered, one after another; and what went
-- out, with what is still to go out, is their replies.
pub record IsServed {S : Type 0} (answers : S → MessageParts → List ℕ → S → Type 0) (came gone : List ℕ) (from : S) (c : ConnectionParts) (to : S) : Type 0 where
  pub messages : List WholeMessage
  pub replies : List ℕ
  pub splits : Splits came messages c.held
  pub lasting : All StaysOpen messages
  pub answered : AnswersAll answers from messages replies to
  pub sent : replies ≡ gone ++ c.unsent

-- What came first are these messages, answered one after another, and what was held as the connection closed. Its input ended, or the last step closed it:
-- by its last reply, by a refusal, by a beginning alone of either, or by a report that broke. No step followed: what came later is held unanswered. What
-- went out, with what is still to go out, is the replies, and then what the last step wrote, if one closed it.
pub record IsClosed {S : Type 0} (answers stops breaks : S → MessageParts → List ℕ → S → Type 0) (came gone : List ℕ) (from : S) (c : ConnectionParts) (to : S) : Type 0 where
  pub messages : List WholeMessage
  pub replies : List ℕ
  pub first : List ℕ
  pub later : List ℕ
  pub all : came ≡ first ++ later
  pub held : List ℕ
  pub at : S
  pub splits : Splits first messages held
  pub lasting : All StaysOpen messages
  pub answered : AnswersAll answers from messages replies at
  pub rest : List ℕ
  pub out : List ℕ
  pub last : IsLast answers stops breaks held at rest out to
  pub kept : c.held ≡ rest ++ later
  pub sent : replies ++ out ≡ gone ++ c.unsent
