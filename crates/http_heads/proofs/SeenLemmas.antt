-- The first lines of a head that has not ended: what they are, and what they become when more came.
use Rattle.std.proofs.Common.{◌≡◌, ℕ, zero, suc, ◌-◌, ◌<◌, ◌≤◌, ◌⊎◌, inl, inr, Bool, true, false, min, List, [], ◌∷◌, ◌++◌, length, take, drop, get_or, refl, sym, ap, ◌∙◌, subst, append_assoc, length-append, arith, All}
use Rattle.std.specs.Prelude.{IsAscii}
use Rattle.std.specs.List.{flat_map}
use Rattle.std.proofs.lemmas.Bool.{cases_lt}
use Rattle.std.proofs.lemmas.Grind.{flat_map-append}
use Rattle.std.proofs.lemmas.List.{append-nil, append_cancel_right, take-append-le, take-append-drop, length-take, get_or-take}
use Rattle.std.proofs.lemmas.List.Elements.{All-append, All-nil}
use Rattle.std.proofs.lemmas.List.Sums.{AllPass-from_list_all}
use Rattle.std.proofs.lemmas.Str.{IsUtf8-from_ascii}
use Rattle.std.proofs.Math.ListN.{get_or-append}
use Rattle.httparse.specs.Ascii.{colon}
use Rattle.httparse.specs.Grammar.{LineEnd, lf, print_end, print_blank, Field, IsField, print_field, RequestHead, IsRequestHead, print_request, ReadsRequest, HasNoRequest, ReadsSection, HasNoSection, MayBecomeSection, is_token_byte, is_uri_byte}
use Rattle.httparse.specs.Spans.{SectionOverflows}
use Rattle.httparse.proofs.GrammarLemmas.{request_prefix_free, section_unique, ReadsSection-append}
use Rattle.http_heads.specs.declared.lines.Seen.{Seen}
use Rattle.http_heads.specs.Judged.{CanBecomeHead}
use Rattle.http_heads.specs.Stream.{max_head_len, max_fields, EndsLine}
use Rattle.http_heads.specs.Seen.{LacksLastLine, AreFirstLines, EndNoLine, IsSeen}
use Rattle.http_heads.proofs.LineLemmas.{nil_of_length, fields_len, end_some, end_ends, ends_after}
use Rattle.http_heads.proofs.BlankLemmas.{IsBlank, fewer}
use Rattle.http_heads.proofs.JudgeLemmas.{NoLineAfter, lines_end}
use Rattle.http_heads.proofs.CutLemmas.{AreWhole, cut_blank, in_blank, in_fields, past_last, start_line, start_is_line, print_lines, cut_fields, cut_head}

-- what waits for more bytes
abbrev pub Waits : List ℕ → Type 0
Waits lines = HasNoRequest lines × ((lines ≡ []) ⊎ CanBecomeHead lines)

-- what some bytes make a head is none yet
waits_for : (lines more : List ℕ) (h : RequestHead) → 0 < length more → ReadsRequest (lines ++ more) h [] → Waits lines
waits_for lines more h some reads = (
  λ k rest front. absurd (omega (arith, some, ap length (request_prefix_free lines more k h rest [] front reads).1, length-append rest more)),
  inr (more, h, reads),
)

-- a least head after line ends
abbrev least_head : List LineEnd → RequestHead
least_head ends = record { blank = ends; method = 65 ∷ []; target = 47 ∷ []; minor = 1; line_end = lf; fields = []; last = lf }

slash_ascii : IsAscii (47 ∷ [])
slash_ascii zero = omega arith
slash_ascii (suc i) = omega arith

least_is_head : (ends : List LineEnd) → IsRequestHead (least_head ends)
unfolding is_token_byte
least_is_head ends = record {
  method = (omega arith, AllPass-from_list_all is_token_byte (65 ∷ []) refl);
  target = (omega arith, AllPass-from_list_all is_uri_byte (47 ∷ []) refl);
  target_text = IsUtf8-from_ascii (47 ∷ []) slash_ascii;
  minor = omega arith;
  fields = All-nil IsField;
}

ends_wait : (lines : List ℕ) → IsBlank lines → Waits lines
ends_wait lines (ends, is) =
    let h = least_head ends in
    let more = start_line h ++ print_end lf in
    let reads : lines ++ more ≡ print_request h ++ [] = ap (λ l. l ++ more) is ∙ sym (print_lines h []) in
    waits_for lines more h (omega arith) (least_is_head ends, reads)

lacking_wait : (lines : List ℕ) → LacksLastLine lines → Waits lines
lacking_wait lines (h, reads) = waits_for lines (print_end h.last) h (end_some h.last) reads

pub first_wait : (started : Bool) (lines : List ℕ) → AreFirstLines started lines → Waits lines
first_wait true lines are = lacking_wait lines are
first_wait false lines are = ends_wait lines are

abbrev with_fields : RequestHead → List Field → RequestHead
with_fields h fields = record { blank = h.blank; method = h.method; target = h.target; minor = h.minor; line_end = h.line_end; fields = fields; last = h.last }

-- line ends, a start line and fields lack a last line
lacks_last : (h : RequestHead) (fields : List Field) (lines : List ℕ) → IsRequestHead h → All IsField fields
    → lines ≡ print_blank h.blank ++ (start_line h ++ flat_map print_field fields) → LacksLastLine lines
lacks_last h fields lines is all are =
    let k = with_fields h fields in
    let whole : lines ++ print_end h.last ≡ print_request k ++ [] =
    ap (λ l. l ++ print_end h.last) are ∙ regroup (print_blank h.blank) (start_line h) (flat_map print_field fields) (print_end h.last) ∙ sym (print_lines k []) in
    (k, (record { method = is.method; target = is.target; target_text = is.target_text; minor = is.minor; fields = all }, whole))
  where
    regroup : (a b c d : List ℕ) → (a ++ (b ++ c)) ++ d ≡ a ++ (b ++ (c ++ (d ++ [])))
    regroup a b c d = simp (append_assoc, append-nil)

-- whole lines that can become a head, and are none yet
first_lines : (lines : List ℕ) → AreWhole lines → Waits lines → IsBlank lines ⊎ LacksLastLine lines
first_lines lines whole (none, inl empty) = inl ([], empty)
first_lines lines whole (none, inr (more, h, reads)) =
    elim (cut_head h lines more reads whole) [
      | in_blank ends ↦ inl ends
      | in_fields front split cut ↦ inr (lacks_last h cut.fields lines reads.0 cut.are (split ∙ ap (λ l. print_blank h.blank ++ (start_line h ++ l)) cut.lines_are))
      | past_last following split ↦ absurd (none h following (reads.0, split))
    ]

-- lines that lack a last line are line ends, a start line and fields
lacking_lines : (lines : List ℕ) (h : RequestHead) → ReadsRequest (lines ++ print_end h.last) h []
    → lines ≡ print_blank h.blank ++ (start_line h ++ flat_map print_field h.fields)
lacking_lines lines h reads =
    append_cancel_right lines _ (print_end h.last) (reads.1 ∙ print_lines h [] ∙ regroup (print_blank h.blank) (start_line h) (flat_map print_field h.fields) (print_end h.last))
  where
    regroup : (a b c d : List ℕ) → a ++ (b ++ (c ++ (d ++ []))) ≡ (a ++ (b ++ c)) ++ d
    regroup a b c d = simp (append_assoc, append-nil)

-- whole lines that can become a section, and are none yet, are fields
are_fields : (lines : List ℕ) → AreWhole lines → HasNoSection lines → MayBecomeSection lines
    → (fields : List Field) × All IsField fields × (lines ≡ flat_map print_field fields)
are_fields lines whole none (more, fields, last, (all, reads)) =
    elim (cut_fields fields last [] lines more all (sym (append_assoc (flat_map print_field fields) (print_end last) []) ∙ sym reads) whole) [
      | inl cut ↦ (cut.fields, cut.are, cut.lines_are)
      | inr end ↦ absurd (none fields last end.0 (all, end.1 ∙ sym (append_assoc (flat_map print_field fields) (print_end last) end.0)))
    ]

whole_append : (a b : List ℕ) → AreWhole a → AreWhole b → AreWhole (a ++ b)
whole_append a b (inl none) whole = subst AreWhole (sym (ap (λ l. l ++ b) none)) whole
whole_append a b (inr e) (inl none) = inr (subst EndsLine (sym (ap (λ l. a ++ l) none ∙ append-nil a)) e)
whole_append a b (inr e) (inr f) = inr (ends_after a b f)

blank_whole : (ends : List LineEnd) → AreWhole (print_blank ends)
blank_whole [] = inl refl
blank_whole (e ∷ ends) = whole_append (print_end e) (print_blank ends) (inr (end_ends e)) (blank_whole ends)

fields_whole : (fields : List Field) → AreWhole (flat_map print_field fields)
fields_whole [] = inl refl
fields_whole (f ∷ fields) =
    whole_append (print_field f) (flat_map print_field fields) (inr (ends_after (f.name ++ colon ∷ f.raw) (print_end f.end) (end_ends f.end))) (fields_whole fields)

-- the first lines of a head are whole lines
first_whole : (started : Bool) (lines : List ℕ) → AreFirstLines started lines → AreWhole lines
first_whole true lines (h, reads) =
    let start = start_is_line h reads.0 in
    subst AreWhole (sym (lacking_lines lines h reads)) (whole_append (print_blank h.blank) (start_line h ++ flat_map print_field h.fields) (blank_whole h.blank)
    (whole_append (start_line h) (flat_map print_field h.fields) (inr (start.0, start.2)) (fields_whole h.fields)))
first_whole false lines (ends, is) = subst AreWhole (sym is) (blank_whole ends)

-- further fields
pub more_fields : (front lines : List ℕ) → LacksLastLine front → AreWhole lines → HasNoSection lines → MayBecomeSection lines → LacksLastLine (front ++ lines)
more_fields front lines (h, (is, reads)) whole none may =
    let new = are_fields lines whole none may in
    let old = lacking_lines front h (is, reads) in
    let all = All-append IsField h.fields new.0 is.fields new.1 in
    lacks_last h (h.fields ++ new.0) (front ++ lines) is all
    ((λ i. old i ++ new.2 i) ∙ regroup (print_blank h.blank) (start_line h) (flat_map print_field h.fields) (flat_map print_field new.0)
    ∙ ap (λ l. print_blank h.blank ++ (start_line h ++ l)) (sym (flat_map-append print_field h.fields new.0)))
  where
    regroup : (a b c d : List ℕ) → (a ++ (b ++ c)) ++ d ≡ a ++ (b ++ (c ++ d))
    regroup a b c d = simp append_assoc

-- further line ends
pub more_ends : (front lines : List ℕ) → IsBlank front → IsBlank lines → IsBlank (front ++ lines)
more_ends front lines (x, is_x) (y, is_y) = (x ++ y, (λ i. is_x i ++ is_y i) ∙ sym (flat_map-append print_end x y))

-- lines that lack a last line are no line ends alone
not_both : (lines : List ℕ) → LacksLastLine lines → IsBlank lines → ⊥
not_both lines (h, reads) ends =
    (ends_wait (lines ++ print_end h.last) (more_ends lines (print_end h.last) ends (h.last ∷ [], sym (append-nil (print_end h.last))))).0 h [] reads

-- what follows lines that lack a last line, in longer ones that lack it too, is a section but for its last line
lacks_after : (front lines : List ℕ) → LacksLastLine front → LacksLastLine (front ++ lines)
    → (fields : List Field) × (last : LineEnd) × ReadsSection (lines ++ print_end last) fields last []
lacks_after front lines lacking (h, reads) =
    let again : ReadsRequest (front ++ (lines ++ print_end h.last)) h [] = (reads.0, sym (append_assoc front lines (print_end h.last)) ∙ reads.1) in
    elim (cut_head h front (lines ++ print_end h.last) again (first_whole true front lacking)) [
      | in_blank ends ↦ absurd (not_both front lacking ends)
      | in_fields fields split cut ↦ (cut.later, h.last, (cut.all, sym cut.follows ∙ sym (append_assoc (flat_map print_field cut.later) (print_end h.last) [])))
      | past_last following split ↦ absurd ((lacking_wait front lacking).0 h following (reads.0, split))
    ]

-- so it has no section
pub no_section : (front lines : List ℕ) (fields : List Field) (last : LineEnd) (rest : List ℕ) → LacksLastLine front → LacksLastLine (front ++ lines)
    → ReadsSection lines fields last rest → ⊥
no_section front lines fields last rest lacking all reads =
    let following = lacks_after front lines lacking all in
    let more = print_end following.1 in
    let same = section_unique (lines ++ more) fields following.0 last following.1 (rest ++ more) [] (ReadsSection-append lines fields last rest more reads) following.2 in
    absurd (omega (arith, ap length same.2, length-append rest more, end_some following.1))

-- and there is room for its fields
pub has_room : (front lines : List ℕ) (room : ℕ) → LacksLastLine front → LacksLastLine (front ++ lines) → length lines ≤ max_head_len
    → max_fields ≤ room → SectionOverflows room lines → ⊥
has_room front lines room lacking all short enough over =
    let following = lacks_after front lines lacking all in
    let more = print_end following.1 in
    let few = fields_len following.0 following.2.0 in
    omega (arith, few, over more following.0 following.1 [] following.2, ap length following.2.1, length-append lines more, length-append (flat_map print_field following.0 ++ more) [], length-append (flat_map print_field following.0) more)

-- what follows line ends, among line ends alone, is line ends
pub ends_following : (front lines : List ℕ) → IsBlank front → IsBlank (front ++ lines) → IsBlank lines
ends_following front lines (ends, is) all = go ends (subst (λ l. IsBlank (l ++ lines)) is all)
  where
    go : (ends : List LineEnd) → IsBlank (print_blank ends ++ lines) → IsBlank lines
    go [] all = all
    go (e ∷ ends) all = go ends (fewer _ (print_blank ends ++ lines) e (append_assoc (print_end e) (print_blank ends) lines) all)

-- those that were seen, or those through a later line feed, are whole lines
pub whole_through : (bytes : List ℕ) (seen : Seen) (m n : ℕ) → IsSeen bytes seen → seen.lines ≤ n → n ≤ m → n ≤ length bytes
    → (seen.lines < n → get_or (take m bytes) (n - 1) 0 ≡ 10) → AreWhole (take n bytes)
whole_through bytes seen m n is following within fits line =
    elim (cases_lt seen.lines n) [
      | inl new ↦ lines_end bytes m n within fits (λ _. line new)
      | inr old ↦
          let same : seen.lines ≡ n = omega arith in
          subst (λ k. AreWhole (take k bytes)) same (first_whole seen.started (take seen.lines bytes) is.lines)
    ]

-- whole lines at the front of line ends are line ends
ends_before : (front rest : List ℕ) → AreWhole front → IsBlank (front ++ rest) → IsBlank front
ends_before front rest whole (ends, is) =
    elim (cut_blank ends [] front rest (append-nil (print_blank ends) ∙ sym is) whole) [
      | inl before ↦ before
      | inr all ↦
          let none : all.0 ≡ [] = nil_of_length all.0 (omega (arith, ap length all.2, length-append all.0 rest)) in
          (ends, all.1 ∙ ap (λ l. print_blank ends ++ l) none ∙ append-nil (print_blank ends))
    ]

-- whole lines that can become a head, and are not as their first ones are: a start line is among them
pub started_now : (was : Bool) (n : ℕ) (lines : List ℕ) → AreFirstLines was (take n lines) → ¬ (AreFirstLines was lines) → AreWhole lines → Waits lines
    → LacksLastLine lines
started_now was n lines first no_more whole waits =
    elim (first_lines lines whole waits) [
      | inl ends ↦ absurd (go was first no_more ends)
      | inr lacking ↦ lacking
    ]
  where
    go : (was : Bool) → AreFirstLines was (take n lines) → ¬ (AreFirstLines was lines) → IsBlank lines → ⊥
    go false first no_more ends = no_more ends
    go true first no_more ends =
        not_both (take n lines) first (ends_before (take n lines) (drop n lines) (first_whole true (take n lines) first) (subst IsBlank (sym (take-append-drop n lines)) ends))

-- no line ends after the last line feed of all the bytes
pub part_of : (bytes : List ℕ) (m n : ℕ) → m ≡ min (length bytes) max_head_len → length bytes < max_head_len → NoLineAfter bytes m n
    → EndNoLine bytes n (length bytes)
part_of bytes m n is short after k from to feed =
    after k from (omega (arith, length-take m bytes)) (get_or-take m bytes k 0 (omega arith) ∙ feed)

-- what was seen stands when more bytes came
pub seen_more : (bytes more : List ℕ) (seen : Seen) → IsSeen bytes seen → IsSeen (bytes ++ more) seen
seen_more bytes more seen is = record {
  order = is.order;
  within = omega (arith, is.within, length-append bytes more);
  short = is.short;
  lines = subst (AreFirstLines seen.started) (sym (take-append-le seen.lines bytes more (omega (arith, is.order, is.within)))) is.lines;
  part = λ k from to feed. is.part k from to (sym (get_or-append bytes more 0 k (omega (arith, is.within))) ∙ feed);
}
