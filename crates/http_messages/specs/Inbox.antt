-- The bytes that are held, and what a read adds to them.
use Rattle.std.specs.Prelude.{◌≡◌, ℕ, ◌+◌, List, ◌++◌, Option}
use Rattle.std.specs.Io.KnownBytes.{Consumes}
use Rattle.http_heads.specs.Stream.{max_head_len}
use Rattle.http_heads.specs.Framing.{max_body_len}

-- the longest message
abbrev pub max_message_len : ℕ
max_message_len = max_head_len + max_body_len

-- these bytes were taken off the reader, and appended to those that were held
pub record Takes (old_left new_left : Option (List ℕ)) (old_held new_held more : List ℕ) : Type 0 where
  pub taken : Consumes old_left new_left more
  pub held : new_held ≡ old_held ++ more
