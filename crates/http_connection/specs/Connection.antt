-- What a step makes of a connection.
use Rattle.std.specs.Prelude.{◌≡◌, ℕ, Bool, List, Some, Result, Ok, Err, true, false}
use Rattle.http_messages.specs.declared.engine.AnswerFault.{AnswerFault}
use Rattle.http_messages.specs.declared.step.Step.{Step}
use Rattle.http_messages.specs.declared.step.Step.TheVariants as step
use Rattle.http_messages.specs.Parts.{MessageParts}
use Rattle.http_messages.specs.Step.{IsStep, Side}
use Rattle.http_connection.specs.Parts.{ConnectionParts}
use Rattle.http_connection.specs.declared.progress.Progress.{Progress}
use Rattle.http_connection.specs.declared.progress.Progress.TheVariants.{Answered, Waits, Closes}

-- by how the step ended
abbrev pub progress_of : Result Step AnswerFault → Progress
progress_of (Ok step.Answered) = Answered
progress_of (Ok step.Waiting) = Waits
progress_of (Ok step.Closed) = Closes
progress_of (Err fault) = Closes

abbrev pub closes_by : Progress → Bool
closes_by Answered = false
closes_by Waits = false
closes_by Closes = true

-- the connection beside what answers it
abbrev pub side_of : {S : Type 0} → ConnectionParts → S → Side S
side_of c engine = record { held = c.held; written = Some c.unsent; engine = engine }

-- A step was taken over what is held, and its reply is after what was to go out.
pub record IsAnswered {S : Type 0} (answers stops breaks : S → MessageParts → List ℕ → S → Type 0) (old : ConnectionParts) (from : S) (new : ConnectionParts) (to : S) (result : Progress) : Type 0 where
  pub step : Result Step AnswerFault
  pub is : IsStep answers stops breaks (side_of old from) (side_of new to) step
  pub so : result ≡ progress_of step
  pub closing : new.is_closing ≡ closes_by result
