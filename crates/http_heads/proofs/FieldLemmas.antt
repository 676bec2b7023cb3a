-- The values of the fields of a name, one field at a time.
use Rattle.std.proofs.Common.{◌≡◌, ℕ, ◌+◌, ◌<◌, Bool, cond, List, [], ◌∷◌, ◌++◌, length, map, take, get_or, sym, ap, ◌∙◌, append-nil}
use Rattle.std.proofs.lemmas.List.{take_more, map-append}
use Rattle.std.proofs.lemmas.List.Concat.{flat_map-append}
use Rattle.httparse.specs.declared.spans.HeaderSpan.{HeaderSpan}
use Rattle.httparse.specs.Spans.{header_bytes, span_bytes}
use Rattle.http_heads.specs.Fields.{eq_ignore_case, values_named}

values_more : (name bytes : List ℕ) (hs : List HeaderSpan) (i : ℕ) (d : HeaderSpan) → i < length hs
    → values_named name (map (header_bytes bytes) (take (i + 1) hs))
    ≡ values_named name (map (header_bytes bytes) (take i hs)) ++ values_named name (header_bytes bytes (get_or hs i d) ∷ [])
values_more name bytes hs i d within =
    ap (λ l. values_named name (map (header_bytes bytes) l)) (take_more hs i d within)
    ∙ ap (values_named name) (map-append (header_bytes bytes) (take i hs) (get_or hs i d ∷ []))
    ∙ flat_map-append (λ (f : List ℕ × List ℕ). cond (eq_ignore_case f.0 name) (f.1 ∷ []) []) (map (header_bytes bytes) (take i hs)) (header_bytes bytes (get_or hs i d) ∷ [])

-- one more field, whose name is n and whose value is v
pub one_more : (name bytes : List ℕ) (hs : List HeaderSpan) (i : ℕ) (d : HeaderSpan) (r : Bool) (n v : List ℕ) → i < length hs
    → r ≡ eq_ignore_case n name → n ≡ span_bytes bytes (get_or hs i d).name → v ≡ span_bytes bytes (get_or hs i d).value
    → values_named name (map (header_bytes bytes) (take i hs)) ++ cond r (v ∷ []) [] ≡ values_named name (map (header_bytes bytes) (take (i + 1) hs))
one_more name bytes hs i d r n v within is n-is v-is =
    let test : r ≡ eq_ignore_case (span_bytes bytes (get_or hs i d).name) name = is ∙ ap (λ x. eq_ignore_case x name) n-is in
    let one : cond r (v ∷ []) [] ≡ cond (eq_ignore_case (span_bytes bytes (get_or hs i d).name) name) (span_bytes bytes (get_or hs i d).value ∷ []) [] =
    (λ k. cond (test k) (v-is k ∷ []) []) in
    ap (λ l. values_named name (map (header_bytes bytes) (take i hs)) ++ l) (one ∙ sym (append-nil _)) ∙ sym (values_more name bytes hs i d within)
