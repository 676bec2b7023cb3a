-- What a judgement of the first bytes of a stream says.
use Rattle.std.specs.Prelude.{◌≡◌, ℕ, ◌≤◌, ◌⊎◌, List, ◌++◌, []}
use Rattle.httparse.specs.declared.spans.HeaderSpan.{HeaderSpan}
use Rattle.httparse.specs.Grammar.{HasNoRequest, NeverHasRequest, RequestHead, ReadsRequest}
use Rattle.httparse.specs.Spans.{IsRequestOf, IsRequestWithin}
use Rattle.http_heads.specs.declared.judging.Judged.{Judged}
use Rattle.http_heads.specs.declared.judging.Judged.TheVariants.{Head, Malformed, TooLong, Waiting}
use Rattle.http_heads.specs.Stream.{EndsLine, max_head_len, IsMalformed, IsTooLong, IsUndecided}

abbrev pub IsJudged : List ℕ → List HeaderSpan → Judged → Type 0
IsJudged bytes headers (Head r) = IsRequestOf bytes headers r × IsRequestWithin bytes headers r × (r.len ≤ max_head_len)
IsJudged bytes headers Malformed = IsMalformed bytes
IsJudged bytes headers TooLong = IsTooLong bytes
IsJudged bytes headers Waiting = IsUndecided bytes

-- some bytes can follow that make these a head
abbrev pub CanBecomeHead : List ℕ → Type 0
CanBecomeHead bytes = (more : List ℕ) × (h : RequestHead) × ReadsRequest (bytes ++ more) h []

-- what whole lines are: a head at their front, lines that begin none, or what can still become one
abbrev pub AreLinesJudged : List ℕ → List HeaderSpan → Judged → Type 0
AreLinesJudged lines headers (Head r) = IsRequestOf lines headers r × IsRequestWithin lines headers r
AreLinesJudged lines headers Malformed = EndsLine lines × NeverHasRequest lines
AreLinesJudged lines headers TooLong = ⊥
AreLinesJudged lines headers Waiting = HasNoRequest lines × ((lines ≡ []) ⊎ CanBecomeHead lines)
