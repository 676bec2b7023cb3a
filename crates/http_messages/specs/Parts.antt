-- The parts of a message that its reply depends on.
use Rattle.std.specs.Prelude.{ℕ, List}
use Rattle.http_heads.specs.Parts.{HeadParts}

-- those of its head, and its body
pub record MessageParts : Type 0 where
  pub head : HeadParts
  pub body : List ℕ
