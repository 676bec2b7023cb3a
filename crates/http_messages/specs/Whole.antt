-- The whole messages of a stream.
use Rattle.std.specs.Prelude.{◌≡◌, ℕ, ◌≤◌, List, ◌++◌, None, length, All, flat_map}
use Rattle.httparse.specs.Grammar.{RequestHead, IsRequestHead, print_request}
use Rattle.http_heads.specs.Stream.{max_head_len}
use Rattle.http_heads.specs.Framing.{head_fault, body_len}
use Rattle.http_heads.specs.Parts.{parts_of}
use Rattle.http_messages.specs.Parts.{MessageParts}

-- a head and its body, as they stand on a stream (RFC 9112, section 2.1)
pub record WholeMessage : Type 0 where
  pub head : RequestHead
  pub body : List ℕ

-- their bytes
abbrev pub print_message : WholeMessage → List ℕ
print_message m = print_request m.head ++ m.body

-- the parts that an engine is handed
abbrev pub message_parts : WholeMessage → MessageParts
message_parts m = record { head = parts_of m.head; body = m.body }

-- a head of the grammar that is not too long and has no fault, and as many bytes of body as it states
pub record IsMessage (m : WholeMessage) : Type 0 where
  pub head : IsRequestHead m.head
  pub short : length (print_request m.head) ≤ max_head_len
  pub sound : head_fault (parts_of m.head) ≡ None
  pub body : length m.body ≡ body_len (parts_of m.head)

-- the bytes are these messages, one after another, and then the rest
pub record Splits (bytes : List ℕ) (ms : List WholeMessage) (rest : List ℕ) : Type 0 where
  pub whole : bytes ≡ flat_map print_message ms ++ rest
  pub each : All IsMessage ms
