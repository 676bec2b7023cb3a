-- What is known of bytes that were judged, and are no head yet.
use Rattle.std.specs.Prelude.{◌≡◌, ◌≢◌, ℕ, ◌<◌, ◌≤◌, Bool, true, false, List, [], ◌++◌, length, take, get_or}
use Rattle.httparse.specs.Ascii.{line_feed}
use Rattle.httparse.specs.Grammar.{LineEnd, print_end, print_blank, RequestHead, ReadsRequest}
use Rattle.http_heads.specs.declared.lines.Seen.{Seen}
use Rattle.http_heads.specs.Stream.{max_head_len}

-- the lines are all of a head but the empty line that ends it
abbrev pub LacksLastLine : List ℕ → Type 0
LacksLastLine lines = (h : RequestHead) × ReadsRequest (lines ++ print_end h.last) h []

-- the first lines of a head that has not ended: its start line is among them, or they are the line ends before it
abbrev pub AreFirstLines : Bool → List ℕ → Type 0
AreFirstLines true lines = LacksLastLine lines
AreFirstLines false lines = (ends : List LineEnd) × (lines ≡ print_blank ends)

-- the bytes from lines to len end no line
abbrev pub EndNoLine : List ℕ → ℕ → ℕ → Type 0
EndNoLine bytes lines len = (k : ℕ) → lines ≤ k → k < len → get_or bytes k 0 ≢ line_feed

-- the first of the bytes were judged: they are the first lines of a head, and then a part of a line
pub record IsSeen (bytes : List ℕ) (seen : Seen) : Type 0 where
  pub order : seen.lines ≤ seen.len
  pub within : seen.len ≤ length bytes
  pub short : seen.len < max_head_len
  pub lines : AreFirstLines seen.started (take seen.lines bytes)
  pub part : EndNoLine bytes seen.lines seen.len
