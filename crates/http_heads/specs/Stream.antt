-- How a stream of bytes begins: with a head, with lines that begin none, or with neither yet.
use Rattle.std.specs.Prelude.{◌≡◌, ℕ, ◌<◌, ◌≤◌, List, [], ◌∷◌, ◌++◌, length}
use Rattle.httparse.specs.Ascii.{line_feed}
use Rattle.httparse.specs.Grammar.{RequestHead, print_request, ReadsRequest, NeverHasRequest}

-- the longest head
abbrev pub max_head_len : ℕ
max_head_len = 8192

-- as many fields as that head can have: one has at least a byte of a name, a colon and a line feed
abbrev pub max_fields : ℕ
max_fields = 2731

-- the last byte is a line feed
abbrev pub EndsLine : List ℕ → Type 0
EndsLine bytes = (line : List ℕ) × (bytes ≡ line ++ line_feed ∷ [])

-- the stream is this head, of at most the longest length, and then the rest
abbrev pub BeginsHead : List ℕ → RequestHead → List ℕ → Type 0
BeginsHead stream h rest = ReadsRequest stream h rest × (length (print_request h) ≤ max_head_len)

-- no head begins the stream
abbrev pub HasNoHead : List ℕ → Type 0
HasNoHead stream = (h : RequestHead) (rest : List ℕ) → ¬ (BeginsHead stream h rest)

-- a front of the stream that ends a line, within the longest head, begins no head
abbrev pub IsMalformed : List ℕ → Type 0
IsMalformed stream =
    (front : List ℕ) × (rest : List ℕ) × (stream ≡ front ++ rest) × EndsLine front
    × (length front ≤ max_head_len) × NeverHasRequest front

-- as many bytes as the longest head has, and neither a head nor lines that begin none
pub record IsTooLong (stream : List ℕ) : Type 0 where
  pub full : max_head_len ≤ length stream
  pub no_head : HasNoHead stream
  pub well_formed : ¬ (IsMalformed stream)

-- fewer bytes, and neither a head nor lines that begin none
pub record IsUndecided (stream : List ℕ) : Type 0 where
  pub short : length stream < max_head_len
  pub no_head : HasNoHead stream
  pub well_formed : ¬ (IsMalformed stream)
