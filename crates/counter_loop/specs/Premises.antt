-- That what is supposed of turns, and of rounds, is met by what it is named for.
use Rattle.std.specs.Prelude.{◌≡◌, ◌++◌, ℕ, All, List, length}
use Rattle.http_messages.specs.Whole.{IsMessage, WholeMessage, print_message}
use Rattle.counter_loop.specs.Boxes.{HoldsWhole}
use Rattle.counter_loop.specs.Turns.{AreUnbroken, Turn}

pub record PremisesAreMet : Type 0 where
  -- Turns are unbroken of which each made a request of its message, if one came whole.
  pub unbroken : (turns : List Turn) → All (λ t. length t.run ≡ length t.messages) turns → AreUnbroken turns
  -- Who sent a message, and whatever bytes after it, holds a whole one.
  pub whole : (m : WholeMessage) (more : List ℕ) → IsMessage m → HoldsWhole (print_message m ++ more)
