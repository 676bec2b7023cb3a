-- The parts of a head that the reply to its message depends on.
use Rattle.std.specs.Prelude.{ℕ, List, map}
use Rattle.httparse.specs.Grammar.{RequestHead}
use Rattle.httparse.specs.Spans.{name_and_value}

-- the method, the target, the minor version, and each field's name and value, without the white space around it
pub record HeadParts : Type 0 where
  pub method : List ℕ
  pub target : List ℕ
  pub minor : ℕ
  pub fields : List (List ℕ × List ℕ)

-- those of a head of the grammar
abbrev pub parts_of : RequestHead → HeadParts
parts_of h = record { method = h.method; target = h.target; minor = h.minor; fields = map name_and_value h.fields }
