-- What a judgement of the lines in a window says of the whole stream.
use Rattle.std.proofs.Common.{◌≡◌, ◌≢◌, ℕ, ◌+◌, ◌-◌, ◌<◌, ◌≤◌, ◌⊎◌, List, [], ◌∷◌, ◌++◌, length, take, drop, get_or, map, refl, sym, ap, ◌∙◌, append_assoc, length-append, arith, All, suc, zero, inl, inr, min}
use Rattle.httparse.specs.Grammar.{RequestHead, print_request, ReadsRequest, HasNoRequest, NeverHasRequest}
use Rattle.std.proofs.lemmas.List.{get_or-take, drop-take, take-append-drop, length-take}
use Rattle.std.proofs.Math.Seq.{take-append-add, drop-append_seam, take-suc}
use Rattle.std.proofs.Math.ListN.{get_or-append}
use Rattle.std.proofs.lemmas.Bool.{cases_lt}
use Rattle.std.proofs.lemmas.List.Elements.{All-head, All-tail}
use Rattle.httparse.specs.declared.spans.Span.{Span}
use Rattle.httparse.specs.declared.spans.HeaderSpan.{HeaderSpan}
use Rattle.httparse.specs.declared.spans.RequestSpans.{RequestSpans}
use Rattle.httparse.specs.Spans.{span_bytes, header_bytes, IsWithin, IsHeaderWithin, IsRequestWithin, IsRequestOf}
use Rattle.http_heads.specs.Stream.{max_head_len, EndsLine, HasNoHead, IsMalformed}
use Rattle.http_heads.specs.Judged.{CanBecomeHead}
use Rattle.http_heads.proofs.LineLemmas.{head_ends, last_of_line}

-- the front of a list up to a line feed ends a line
pub lines_end : (bytes : List ℕ) (m n : ℕ) → n ≤ m → n ≤ length bytes → (0 < n → get_or (take m bytes) (n - 1) 0 ≡ 10)
    → (take n bytes ≡ []) ⊎ EndsLine (take n bytes)
lines_end bytes m zero within fits line = inl refl
lines_end bytes m (suc n) within fits line =
    let before : n ≡ suc n - 1 = omega arith in
    let at : get_or bytes n 0 ≡ 10 = sym (get_or-take m bytes n 0 (omega arith)) ∙ ap (λ k. get_or (take m bytes) k 0) before ∙ line (omega arith) in
    inr (take n bytes, take-suc bytes n 0 (omega arith) ∙ ap (λ b. take n bytes ++ b ∷ []) at)

-- no line feed stands from n on in the first m bytes
abbrev pub NoLineAfter : List ℕ → ℕ → ℕ → Type 0
NoLineAfter bytes m n = (k : ℕ) → n ≤ k → k < length (take m bytes) → get_or (take m bytes) k 0 ≢ 10

-- so a line that ends in them ends by n
pub front_fits : (bytes front rest : List ℕ) (m n : ℕ) → m ≡ min (length bytes) max_head_len → NoLineAfter bytes m n → bytes ≡ front ++ rest → EndsLine front
    → length front ≤ max_head_len → length front ≤ n
front_fits bytes front rest m n is after split line short =
    let some : 0 < length front = omega (arith, ap length line.1, length-append line.0 (10 ∷ [])) in
    let inside : length front ≤ length bytes = omega (arith, ap length split, length-append front rest) in
    let last : get_or (take m bytes) (length front - 1) 0 ≡ 10 =
    get_or-take m bytes (length front - 1) 0 (omega arith) ∙ ap (λ l. get_or l (length front - 1) 0) split ∙ get_or-append front rest 0 (length front - 1) (omega arith) ∙ last_of_line front line in
    elim (cases_lt n (length front)) [
      | inl high ↦ absurd (after (length front - 1) (omega arith) (omega (arith, length-take m bytes)) last)
      | inr low ↦ low
    ]

-- a front of a list that fits its first n begins them
pub front_of_take : (bytes front rest : List ℕ) (n : ℕ) → bytes ≡ front ++ rest → length front ≤ n → take n bytes ≡ front ++ take (n - length front) rest
front_of_take bytes front rest n split fits =
    let parts : n ≡ length front + (n - length front) = omega arith in
    ap (take n) split ∙ ap (λ k. take k (front ++ rest)) parts ∙ take-append-add front rest (n - length front)

-- the lines are no head, so no head begins the stream
pub no_head : (bytes : List ℕ) (m n : ℕ) → m ≡ min (length bytes) max_head_len → NoLineAfter bytes m n → HasNoRequest (take n bytes) → HasNoHead bytes
no_head bytes m n is after none h rest begins =
    let fits = front_fits bytes (print_request h) rest m n is after begins.0.1 (head_ends h) begins.1 in
    none h (take (n - length (print_request h)) rest) (begins.0.0, front_of_take bytes (print_request h) rest n begins.0.1 fits)

-- the lines can become a head, so no front of the stream that ends a line begins none
pub well_formed : (bytes : List ℕ) (m n : ℕ) → m ≡ min (length bytes) max_head_len → NoLineAfter bytes m n
    → (take n bytes ≡ []) ⊎ CanBecomeHead (take n bytes) → ¬ (IsMalformed bytes)
well_formed bytes m n is after (inl none) (front, rest, split, line, short, never) =
    let fits = front_fits bytes front rest m n is after split line short in
    absurd (omega (arith, ap length none, ap length (front_of_take bytes front rest n split fits), length-append front (take (n - length front) rest), ap length line.1, length-append line.0 (10 ∷ [])))
well_formed bytes m n is after (inr (more, h, reads)) (front, rest, split, line, short, never) =
    let fits = front_fits bytes front rest m n is after split line short in
    let x = take (n - length front) rest in
    let whole : take n bytes ++ more ≡ front ++ (x ++ more) =
    ap (λ l. l ++ more) (front_of_take bytes front rest n split fits) ∙ append_assoc front x more in
    never (x ++ more) h [] (reads.0, sym whole ∙ reads.1)

-- the lines begin no head, so the stream is malformed
pub malformed : (bytes : List ℕ) (n : ℕ) → n ≤ max_head_len → EndsLine (take n bytes) → NeverHasRequest (take n bytes) → IsMalformed bytes
malformed bytes n short line never =
    (take n bytes, drop n bytes, sym (take-append-drop n bytes), line, omega (arith, length-take n bytes), never)

pub take_take : (k m : ℕ) (xs : List ℕ) → k ≤ m → take k (take m xs) ≡ take k xs
take_take zero m xs h = refl
take_take (suc k) zero xs h = absurd (omega arith)
take_take (suc k) (suc m) [] h = refl
take_take (suc k) (suc m) (x ∷ xs) h = ap (λ l. x ∷ l) (take_take k m xs (omega arith))

range_same : (bytes : List ℕ) (n s e : ℕ) → s ≤ e → e ≤ n → take (e - s) (drop s (take n bytes)) ≡ take (e - s) (drop s bytes)
range_same bytes n s e order fits =
    let parts : n ≡ s + (n - s) = omega arith in
    ap (λ k. take (e - s) (drop s (take k bytes))) parts ∙ ap (take (e - s)) (drop-take s (n - s) bytes) ∙ take_take (e - s) (n - s) (drop s bytes) (omega arith)

-- what spans cover of the lines they cover of the stream
pub span_same : (bytes : List ℕ) (n : ℕ) (s : Span) → IsWithin n s → span_bytes (take n bytes) s ≡ span_bytes bytes s
span_same bytes n s fits = range_same bytes n s.start s.end fits.0 fits.1

headers_same : (bytes : List ℕ) (n len : ℕ) (hs : List HeaderSpan) → len ≤ n → All (IsHeaderWithin len) hs
    → map (header_bytes (take n bytes)) hs ≡ map (header_bytes bytes) hs
headers_same bytes n len [] fits within = refl
headers_same bytes n len (h ∷ hs) fits within =
    let first = All-head (IsHeaderWithin len) h hs within in
    λ i. (span_same bytes n h.name (first.0.0, omega (arith, first.0.1)) i, span_same bytes n h.value (first.1.0, omega (arith, first.1.1)) i) ∷ headers_same bytes n len hs fits (All-tail (IsHeaderWithin len) h hs within) i

-- a head at the front of the lines is one of the stream
pub reads_more : (bytes : List ℕ) (n len : ℕ) (h : RequestHead) → len ≡ length (print_request h)
    → ReadsRequest (take n bytes) h (drop len (take n bytes)) → ReadsRequest bytes h (drop len bytes)
reads_more bytes n len h is reads =
    let rest = drop len (take n bytes) ++ drop n bytes in
    let whole : bytes ≡ print_request h ++ rest =
    sym (take-append-drop n bytes) ∙ ap (λ l. l ++ drop n bytes) reads.1 ∙ append_assoc (print_request h) (drop len (take n bytes)) (drop n bytes) in
    let after : drop len bytes ≡ rest =
    ap (λ k. drop k bytes) is ∙ ap (drop (length (print_request h))) whole ∙ drop-append_seam (print_request h) rest in
    (reads.0, whole ∙ ap (λ l. print_request h ++ l) (sym after))

pub same_request : (bytes : List ℕ) (n : ℕ) (headers : List HeaderSpan) (r : RequestSpans)
    → IsRequestWithin (take n bytes) headers r → IsRequestOf (take n bytes) headers r → IsRequestOf bytes headers r
same_request bytes n headers r within (h, at) =
    let len : r.len ≤ n = omega (arith, within.section.len_fits, length-take n bytes) in (
      h,
      record {
        reads = reads_more bytes n r.len h at.len at.reads;
        len = at.len;
        method = sym (span_same bytes n r.method (within.method.0, omega (arith, within.method.1))) ∙ at.method;
        path = sym (span_same bytes n r.path (within.path.0, omega (arith, within.path.1))) ∙ at.path;
        version = at.version;
        fields = sym (headers_same bytes n r.len (take r.headers headers) len within.section.headers_fit) ∙ at.fields;
      },
    )

pub same_within : (bytes : List ℕ) (n : ℕ) (headers : List HeaderSpan) (r : RequestSpans)
    → IsRequestWithin (take n bytes) headers r → IsRequestWithin bytes headers r
same_within bytes n headers r within = record {
  method = within.method;
  path = within.path;
  version = within.version;
  section = record {
    len_fits = omega (arith, within.section.len_fits, length-take n bytes);
    count_fits = within.section.count_fits;
    headers_fit = within.section.headers_fit;
  };
}
