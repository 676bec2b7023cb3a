-- Lists that end a line, and the heads of httparse's grammar among them.
use Rattle.std.proofs.Common.{◌≡◌, ℕ, ◌+◌, ◌-◌, ◌*◌, ◌<◌, ◌≤◌, List, [], ◌∷◌, ◌++◌, length, get_or, refl, sym, ap, ◌∙◌, subst, append_assoc, length-append, arith, All, IsTrue, true, false}
use Rattle.httparse.specs.Ascii.{line_feed, space, colon}
use Rattle.httparse.specs.Grammar.{LineEnd, crlf, lf, print_end, print_blank, Field, IsField, print_field, RequestHead, print_request, IsRequestHead, AllPass, is_uri_byte, EndsInTarget}
use Rattle.std.specs.List.{flat_map}
use Rattle.std.proofs.lemmas.List.{get_or-append-add}
use Rattle.std.proofs.lemmas.List.Elements.{All-head, All-tail}
use Rattle.std.proofs.Math.Seq.{get_or-append_seam}
use Rattle.http_heads.specs.Stream.{EndsLine}

-- the last byte, or 0
abbrev pub last_byte : List ℕ → ℕ
last_byte bytes = get_or bytes (length bytes - 1) 0

pub ends_after : (a b : List ℕ) → EndsLine b → EndsLine (a ++ b)
ends_after a b e = (a ++ e.0, ap (λ l. a ++ l) e.1 ∙ sym (append_assoc a e.0 (line_feed ∷ [])))

pub end_ends : (e : LineEnd) → EndsLine (print_end e)
end_ends crlf = (13 ∷ [], refl)
end_ends lf = ([], refl)

-- a head ends a line
pub head_ends : (h : RequestHead) → EndsLine (print_request h)
unfolding print_request
head_ends h = ends_after _ _ (ends_after (flat_map print_field h.fields) _ (end_ends h.last))

pub end_some : (e : LineEnd) → 0 < length (print_end e)
end_some crlf = omega arith
end_some lf = omega arith

pub field_len : (f : Field) → IsField f → 3 ≤ length (print_field f)
field_len f i = omega (arith, length-append f.name ((colon ∷ f.raw) ++ print_end f.end), length-append (f.name ++ colon ∷ f.raw) (print_end f.end), length-append f.name (colon ∷ f.raw), end_some f.end, i.name.0)

pub fields_len : (fs : List Field) → All IsField fs → 3 * length fs ≤ length (flat_map print_field fs)
fields_len [] a = omega arith
fields_len (f ∷ fs) a = omega (arith, fields_len fs (All-tail IsField f fs a), field_len f (All-head IsField f fs a), length-append (print_field f) (flat_map print_field fs))

-- so a head has at most a third as many fields as bytes
pub head_len : (h : RequestHead) → IsRequestHead h → 3 * length h.fields < length (print_request h)
unfolding print_request
head_len h i =
    let front = print_blank h.blank ++ h.method in
    omega (arith, fields_len h.fields i.fields, end_some h.last, length-append (flat_map print_field h.fields) (print_end h.last), length-append {A = ℕ})

pub last_of_line : (bytes : List ℕ) → EndsLine bytes → last_byte bytes ≡ 10
last_of_line bytes e =
    let len : length bytes - 1 ≡ length e.0 = omega (arith, ap length e.1, length-append e.0 (line_feed ∷ [])) in
    ap (λ n. get_or bytes n 0) len ∙ ap (λ l. get_or l (length e.0) 0) e.1 ∙ get_or-append_seam e.0 10 [] 0

uri_end : (target : List ℕ) → AllPass is_uri_byte target → get_or (space ∷ target) (length target) 0 ≡ 10 → ⊥
uri_end [] p e = omega arith
uri_end (t ∷ ts) p e =
    let visible : IsTrue (is_uri_byte (get_or (t ∷ ts) (length ts) 0)) = p (length ts) 0 (omega arith) in
    let no : false ≡ true = subst (λ b. IsTrue (is_uri_byte b)) e visible in
    cc

-- lines do not end inside a target
pub not_in_target : (bytes : List ℕ) → EndsLine bytes → EndsInTarget bytes → ⊥
not_in_target bytes e (blank, method, target, token, pass, is) =
    let front = print_blank blank ++ method in
    let len : length bytes - 1 ≡ length front + length target = omega (arith, ap length is, length-append front (space ∷ target)) in
    let last : get_or bytes (length bytes - 1) 0 ≡ get_or (space ∷ target) (length target) 0 =
    ap (λ n. get_or bytes n 0) len ∙ ap (λ l. get_or l (length front + length target) 0) is ∙ get_or-append-add front (space ∷ target) (length target) 0 in
    uri_end target pass (sym last ∙ last_of_line bytes e)

pub nil_of_length : (xs : List ℕ) → length xs ≡ 0 → xs ≡ []
nil_of_length [] h = refl
nil_of_length (x ∷ xs) h = absurd (omega arith)
