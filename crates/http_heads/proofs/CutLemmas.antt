-- Whole lines at the front of a head end where one of its lines ends.
use Rattle.std.proofs.Common.{◌≡◌, ◌≢◌, ℕ, zero, suc, Bool, ◌+◌, ◌-◌, ◌<◌, ◌≤◌, ◌⊎◌, inl, inr, List, [], ◌∷◌, ◌++◌, length, take, drop, get_or, true, false, IsTrue, refl, sym, ap, ◌∙◌, subst, append_assoc, length-append, arith, All}
use Rattle.std.specs.List.{flat_map}
use Rattle.std.proofs.lemmas.Bool.{cases_lt}
use Rattle.std.proofs.lemmas.List.{append-nil, take-append-le, drop-append-le, take-append-drop}
use Rattle.std.proofs.lemmas.List.Sums.{AllPass-from_list_all}
use Rattle.std.proofs.lemmas.List.Elements.{All-head, All-tail, All-append, All-nil, All-cons}
use Rattle.std.proofs.Math.Seq.{take-append_seam, drop-append_seam}
use Rattle.std.proofs.Math.ListN.{get_or-append}
use Rattle.httparse.specs.Ascii.{space, colon}
use Rattle.httparse.specs.Grammar.{LineEnd, crlf, lf, print_end, print_blank, print_version, Field, IsField, print_field, RequestHead, IsRequestHead, print_request, ReadsRequest, AllPass, is_token_byte, is_uri_byte, is_value_byte}
use Rattle.httparse.proofs.GrammarLemmas.{print_request-append, cons-append}
use Rattle.http_heads.proofs.BlankLemmas.{IsBlank}
use Rattle.http_heads.specs.Stream.{EndsLine}
use Rattle.http_heads.proofs.LineLemmas.{last_of_line}

-- no byte ends a line
abbrev pub HasNoFeed : List ℕ → Type 0
HasNoFeed text = All (λ b. b ≢ 10) text

-- one line
abbrev pub IsLine : List ℕ → Type 0
IsLine line = (text : List ℕ) × HasNoFeed text × (line ≡ text ++ 10 ∷ [])

-- whole lines
abbrev pub AreWhole : List ℕ → Type 0
AreWhole lines = (lines ≡ []) ⊎ EndsLine lines

-- what follows the first bytes of whole lines
abbrev pub Following : List ℕ → List ℕ → List ℕ → List ℕ → Type 0
Following front lines rest more = (following : List ℕ) × (lines ≡ front ++ following) × (rest ≡ following ++ more) × AreWhole following

whole_after : (x b : List ℕ) → EndsLine (x ++ b) → AreWhole b
whole_after x [] e = inl refl
whole_after x (c ∷ cs) e =
    let within : length x ≤ length e.0 = omega (arith, ap length e.1, length-append x (c ∷ cs), length-append e.0 (10 ∷ [])) in
    inr (drop (length x) e.0, sym (drop-append_seam x (c ∷ cs)) ∙ ap (drop (length x)) e.1 ∙ drop-append-le (length x) e.0 (10 ∷ []) within)

-- whole lines at the front of a line and what follows it are none, or begin with that line
pub cut_line : (line rest lines more : List ℕ) → IsLine line → line ++ rest ≡ lines ++ more → AreWhole lines
    → (lines ≡ []) ⊎ Following line lines rest more
cut_line line rest lines more one is (inl none) = inl none
cut_line line rest lines more one is (inr e) =
    let some : 0 < length lines = omega (arith, ap length e.1, length-append e.0 (10 ∷ [])) in
    let len : length line ≡ length one.0 + 1 = omega (arith, ap length one.2, length-append one.0 (10 ∷ [])) in
    elim (cases_lt (length lines) (length line)) [
      | inl short ↦
          let k = length lines - 1 in
          let feed : get_or (lines ++ more) k 0 ≡ 10 = get_or-append lines more 0 k (omega arith) ∙ last_of_line lines e in
          let text : get_or (line ++ rest) k 0 ≡ get_or one.0 k 0 =
          get_or-append line rest 0 k (omega arith) ∙ ap (λ l. get_or l k 0) one.2 ∙ get_or-append one.0 (10 ∷ []) 0 k (omega arith) in
          absurd (one.1 k 0 (omega arith) (sym text ∙ ap (λ l. get_or l k 0) is ∙ feed))
      | inr long ↦
          let n = length line in
          let front : take n lines ≡ line = sym (take-append-le n lines more long) ∙ ap (take n) (sym is) ∙ take-append_seam line rest in
          let split : lines ≡ line ++ drop n lines = sym (take-append-drop n lines) ∙ ap (λ l. l ++ drop n lines) front in
          inr (
            drop n lines,
            split,
            sym (drop-append_seam line rest) ∙ ap (drop n) is ∙ drop-append-le n lines more long,
            whole_after line (drop n lines) (subst EndsLine split e),
          )
    ]

line_after : (text line : List ℕ) → HasNoFeed text → IsLine line → IsLine (text ++ line)
line_after text line none one = (
  text ++ one.0,
  All-append (λ (b : ℕ). b ≢ 10) text one.0 none one.1,
  ap (λ l. text ++ l) one.2 ∙ sym (append_assoc text one.0 (10 ∷ [])),
)

end_line : (e : LineEnd) → IsLine (print_end e)
end_line crlf = (13 ∷ [], All-cons (λ (b : ℕ). b ≢ 10) 13 [] (λ e. omega arith) (All-nil (λ (b : ℕ). b ≢ 10)), refl)
end_line lf = ([], All-nil (λ (b : ℕ). b ≢ 10), refl)

-- a test that a line feed fails
passes_no_feed : (test : ℕ → Bool) (text : List ℕ) → test 10 ≡ false → AllPass test text → HasNoFeed text
passes_no_feed test text fails all k d inside is =
    let passes : test 10 ≡ true = subst (λ b. IsTrue (test b)) is (all k d inside) in
    let no : false ≡ true = sym fails ∙ passes in
    cc

token_no_feed : is_token_byte 10 ≡ false
unfolding is_token_byte
token_no_feed = refl

field_line : (f : Field) → IsField f → IsLine (print_field f)
field_line f is =
    let name = passes_no_feed is_token_byte f.name token_no_feed is.name.1 in
    let raw = passes_no_feed is_value_byte f.raw refl is.raw in
    let mark : HasNoFeed (colon ∷ []) = passes_no_feed is_uri_byte (colon ∷ []) refl (AllPass-from_list_all is_uri_byte (colon ∷ []) refl) in
    let parts : f.name ++ ((colon ∷ []) ++ (f.raw ++ print_end f.end)) ≡ print_field f = simp (append_assoc, cons-append) in
    subst IsLine parts (line_after f.name _ name (line_after (colon ∷ []) _ mark (line_after f.raw _ raw (end_line f.end))))

-- the start line of a head
abbrev pub start_line : RequestHead → List ℕ
start_line h = h.method ++ (space ∷ (h.target ++ (space ∷ (print_version h.minor ++ print_end h.line_end))))

version_no_feed : (minor : ℕ) → minor ≤ 1 → HasNoFeed (print_version minor)
version_no_feed zero few = passes_no_feed is_uri_byte (print_version 0) refl (AllPass-from_list_all is_uri_byte (print_version 0) refl)
version_no_feed (suc zero) few = passes_no_feed is_uri_byte (print_version 1) refl (AllPass-from_list_all is_uri_byte (print_version 1) refl)
version_no_feed (suc (suc n)) few = absurd (omega arith)

pub start_is_line : (h : RequestHead) → IsRequestHead h → IsLine (start_line h)
start_is_line h is =
    let method = passes_no_feed is_token_byte h.method token_no_feed is.method.1 in
    let target = passes_no_feed is_uri_byte h.target refl is.target.1 in
    let mark : HasNoFeed (space ∷ []) = All-cons (λ (b : ℕ). b ≢ 10) space [] (λ e. omega arith) (All-nil (λ (b : ℕ). b ≢ 10)) in
    line_after h.method _ method (line_after (space ∷ []) _ mark (line_after h.target _ target (line_after (space ∷ []) _ mark
    (line_after (print_version h.minor) _ (version_no_feed h.minor is.minor) (end_line h.line_end)))))

-- a head is the line ends before it, its start line, its fields and its last line
pub print_lines : (h : RequestHead) (rest : List ℕ) → print_request h ++ rest
    ≡ print_blank h.blank ++ (start_line h ++ (flat_map print_field h.fields ++ (print_end h.last ++ rest)))
print_lines h rest =
    print_request-append h rest ∙ ap (λ l. print_blank h.blank ++ l)
    (regroup h.method h.target (print_version h.minor) (print_end h.line_end) (flat_map print_field h.fields) (print_end h.last) rest)
  where
    regroup : (b c d e f g r : List ℕ)
        → b ++ 32 ∷ (c ++ 32 ∷ (d ++ (e ++ ((f ++ g) ++ r)))) ≡ (b ++ (32 ∷ (c ++ (32 ∷ (d ++ e))))) ++ (f ++ (g ++ r))
    regroup b c d e f g r = simp append_assoc

-- whole lines at the front of line ends and what follows them
pub cut_blank : (ends : List LineEnd) (rest lines more : List ℕ) → print_blank ends ++ rest ≡ lines ++ more → AreWhole lines
    → IsBlank lines ⊎ Following (print_blank ends) lines rest more
cut_blank [] rest lines more is whole = inr (lines, refl, is, whole)
cut_blank (e ∷ ends) rest lines more is whole =
    elim (cut_line (print_end e) (print_blank ends ++ rest) lines more (end_line e) (sym (append_assoc (print_end e) (print_blank ends) rest) ∙ is) whole) [
      | inl none ↦ inl ([], none)
      | inr first ↦ elim (cut_blank ends rest first.0 more first.2 first.3) [
        | inl blank ↦ inl (e ∷ blank.0, first.1 ∙ ap (λ l. print_end e ++ l) blank.1)
        | inr later ↦ inr (later.0, first.1 ∙ ap (λ l. print_end e ++ l) later.1 ∙ sym (append_assoc (print_end e) (print_blank ends) later.0), later.2, later.3)
      ]
    ]

-- the lines are fields, and the rest of a section follows them
pub record FieldsCut (last : LineEnd) (rest lines more : List ℕ) : Type 0 where
  pub fields : List Field
  pub later : List Field
  pub are : All IsField fields
  pub all : All IsField later
  pub lines_are : lines ≡ flat_map print_field fields
  pub follows : flat_map print_field later ++ (print_end last ++ rest) ≡ more

cut_before : (fields : List Field) (last : LineEnd) (rest lines more : List ℕ) → All IsField fields
    → flat_map print_field fields ++ (print_end last ++ rest) ≡ lines ++ more → lines ≡ [] → FieldsCut last rest lines more
cut_before fields last rest lines more all is none = record {
  fields = [];
  later = fields;
  are = All-nil IsField;
  all = all;
  lines_are = none;
  follows = is ∙ ap (λ l. l ++ more) none;
}

cut_after : (f : Field) (last : LineEnd) (rest lines following more : List ℕ) → IsField f → lines ≡ print_field f ++ following
    → FieldsCut last rest following more → FieldsCut last rest lines more
cut_after f last rest lines following more is split cut = record {
  fields = f ∷ cut.fields;
  later = cut.later;
  are = All-cons IsField f cut.fields is cut.are;
  all = cut.all;
  lines_are = split ∙ ap (λ l. print_field f ++ l) cut.lines_are;
  follows = cut.follows;
}

-- whole lines at the front of a section are fields, or have its last line
pub cut_fields : (fields : List Field) (last : LineEnd) (rest lines more : List ℕ) → All IsField fields
    → flat_map print_field fields ++ (print_end last ++ rest) ≡ lines ++ more → AreWhole lines
    → FieldsCut last rest lines more ⊎ ((following : List ℕ) × (lines ≡ flat_map print_field fields ++ (print_end last ++ following)))
cut_fields [] last rest lines more all is whole =
    elim (cut_line (print_end last) rest lines more (end_line last) is whole) [
      | inl none ↦ inl (cut_before [] last rest lines more all is none)
      | inr first ↦ inr (first.0, first.1)
    ]
cut_fields (f ∷ fields) last rest lines more all is whole =
    elim (cut_line (print_field f) (flat_map print_field fields ++ (print_end last ++ rest)) lines more (field_line f (All-head IsField f fields all))
    (sym (append_assoc (print_field f) (flat_map print_field fields) (print_end last ++ rest)) ∙ is) whole) [
      | inl none ↦ inl (cut_before (f ∷ fields) last rest lines more all is none)
      | inr first ↦ elim (cut_fields fields last rest first.0 more (All-tail IsField f fields all) first.2 first.3) [
        | inl cut ↦ inl (cut_after f last rest lines first.0 more (All-head IsField f fields all) first.1 cut)
        | inr end ↦ inr (end.0, first.1 ∙ ap (λ l. print_field f ++ l) end.1 ∙ sym (append_assoc (print_field f) (flat_map print_field fields) (print_end last ++ end.0)))
      ]
    ]

-- whole lines at the front of a head: line ends; then its start line and fields; or all of it
pub data HeadCut (h : RequestHead) (lines more : List ℕ) : Type 0 where
  in_blank : IsBlank lines → HeadCut h lines more
  in_fields : (front : List ℕ) → lines ≡ print_blank h.blank ++ (start_line h ++ front) → FieldsCut h.last [] front more → HeadCut h lines more
  past_last : (following : List ℕ) → lines ≡ print_request h ++ following → HeadCut h lines more

pub cut_head : (h : RequestHead) (lines more : List ℕ) → ReadsRequest (lines ++ more) h [] → AreWhole lines → HeadCut h lines more
cut_head h lines more (is, reads) whole =
    elim (cut_blank h.blank _ lines more (sym (print_lines h []) ∙ sym reads) whole) [
      | inl ends ↦ in_blank ends
      | inr start ↦ elim (cut_line (start_line h) _ start.0 more (start_is_line h is) start.2 start.3) [
        | inl none ↦ in_blank (h.blank, start.1 ∙ ap (λ l. print_blank h.blank ++ l) none ∙ append-nil (print_blank h.blank))
        | inr fields ↦
            let split : lines ≡ print_blank h.blank ++ (start_line h ++ fields.0) = start.1 ∙ ap (λ l. print_blank h.blank ++ l) fields.1 in
            elim (cut_fields h.fields h.last [] fields.0 more is.fields fields.2 fields.3) [
              | inl cut ↦ in_fields fields.0 split cut
              | inr end ↦ past_last end.0 (split ∙ ap (λ l. print_blank h.blank ++ (start_line h ++ l)) end.1 ∙ sym (print_lines h end.0))
            ]
      ]
    ]
