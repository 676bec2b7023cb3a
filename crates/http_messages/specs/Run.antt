-- A whole run of the loop.
use Rattle.std.specs.Prelude.{◌≡◌, ◌⊎◌, ℕ, ◌+◌, ◌<◌, ◌≤◌, List, [], ◌++◌, length, All, Result, Ok, Err, true}
use Rattle.std.specs.Io.KnownBytes.{Consumes, Appends}
use Rattle.http_messages.specs.declared.serving.Served.{Served}
use Rattle.http_messages.specs.declared.serving.ServeFault.{ServeFault}
use Rattle.http_messages.specs.declared.step.Step.TheVariants.{Closed, Waiting}
use Rattle.http_messages.specs.Exit.{StaysOpen, AnswersAll}
use Rattle.http_messages.specs.Parts.{MessageParts}
use Rattle.http_messages.specs.Inbox.{max_message_len}
use Rattle.http_messages.specs.Whole.{WholeMessage, Splits}
use Rattle.http_messages.specs.Turn.{StoreAndClock, IsTurn}

module _ {S : Type 0} (answers stops breaks : S → MessageParts → List ℕ → S → Type 0) where
  -- the bytes read are these messages and what is held, none of them ends the connection, and they were answered by out. Without
  -- a message nothing is unflushed, and nothing was read
  pub record Runs (old new : StoreAndClock S) (ms : List WholeMessage) (out : List ℕ) : Type 0 where
    pub more : List ℕ
    pub taken : Consumes old.left new.left more
    pub splits : Splits (old.held ++ more) ms new.held
    pub lasting : All StaysOpen ms
    pub answered : AnswersAll answers old.engine ms out new.engine
    pub written : Appends old.written new.written out
    pub unflushed : new.unflushed ≡ true → 0 < length ms
    pub bounded : length new.held ≤ max_message_len
    pub idle : length ms ≡ 0 → more ≡ []

  -- how a run of k messages ended
  abbrev pub EndsSo : ℕ → ℕ → StoreAndClock S → StoreAndClock S → Result Served ServeFault → Type 0
  EndsSo most k mid new (Ok s) =
      ((k ≡ most) × (s.messages ≡ k) × (new ≡ mid))
      ⊎ ((k < most)
      × (((s.messages ≡ k + 1) × IsTurn answers stops breaks mid new (Ok Closed)) ⊎ ((s.messages ≡ k) × IsTurn answers stops breaks mid new (Ok Waiting))))
  EndsSo most k mid new (Err fault) = (k < most) × IsTurn answers stops breaks mid new (Err fault)

  -- messages that don't end the connection, and then its end
  abbrev pub IsServed : ℕ → StoreAndClock S → StoreAndClock S → Result Served ServeFault → Type 0
  IsServed most old new r =
      (mid : StoreAndClock S) × (ms : List WholeMessage) × (out : List ℕ) × Runs old mid ms out × EndsSo most (length ms) mid new r
