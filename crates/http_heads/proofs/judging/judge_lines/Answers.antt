use Rattle.std.proofs.Common.{◌≡◌, ℕ, ◌≤◌, ◌⊎◌, List, [], ◌++◌, length, sym, ap, ◌∙◌, arith, Err, inl, inr, length-append}
use Rattle.httparse.specs.Grammar.{RequestHead, IsRequestHead, MayBecomeRequest, lf, print_end, print_request}
use Rattle.std.proofs.lemmas.Bool.Decides.{nat_tests}
use Rattle.httparse.specs.Spans.{RequestExceeds}
use Rattle.http_heads.specs.Stream.{max_head_len, EndsLine}
use Rattle.http_heads.specs.Judged.{CanBecomeHead}
use Rattle.http_heads.proofs.LineLemmas.{head_len, not_in_target, nil_of_length}
use Rattle.http_heads.proofs.judging.judge_lines.Goals as goal

-- a head of at most `max_head_len` bytes holds fewer than 2731 fields
fits_room : (room : ℕ) (bytes : List ℕ) → length bytes ≤ max_head_len → 2731 ≤ room → RequestExceeds room bytes → ⊥
fits_room room bytes short enough (front, rest, split, h, reads, over) =
    omega (arith, head_len h reads.0, ap length reads.1, ap length split, length-append front rest, length-append front (print_end lf), length-append (print_request h) [])

-- whole lines that are no head, and end in no target, can become one
becomes : (bytes : List ℕ) → (bytes ≡ []) ⊎ EndsLine bytes → MayBecomeRequest bytes → (bytes ≡ []) ⊎ CanBecomeHead bytes
becomes bytes (inl none) may = inl none
becomes bytes (inr line) (inl some) = inr some
becomes bytes (inr line) (inr inside) = absurd (not_in_target bytes line inside)

nothing_read : (h : RequestHead) (rest : List ℕ) → [] ≡ print_request h ++ rest → IsRequestHead h → ⊥
nothing_read h rest is head = omega (arith, ap length is, length-append (print_request h) rest, head_len h head)

pub returns-then-is_empty : goal.returns-then-is_empty
returns-then-is_empty c =
    let none : c.args.lines.now ≡ [] = nil_of_length c.args.lines.now (grind (arith, nat_tests)) in
    (λ h rest reads. nothing_read h rest (sym none ∙ reads.1) reads.0, inl none)

pub unreachable-requires : goal.unreachable-requires
unreachable-requires c = fits_room _ _ c.requires.short c.requires.room (c.in-Err-TooManyHeaders.ensures.too_many (ap Err c.in-Err-TooManyHeaders.field-0-is))

pub returns-in-Ok-Partial : goal.returns-in-Ok-Partial
returns-in-Ok-Partial c =
    let e = rw c.in-Ok-Partial.field-0-is at c.in-Ok-Partial.ensures in
    (e.partial, becomes _ c.requires.whole e.unfinished)
