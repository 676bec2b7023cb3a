-- A stream has one reading.
use Rattle.std.proofs.Common.{◌≡◌, ℕ, List, [], ◌∷◌, ◌++◌, length, take, drop, refl, sym, ap, ◌∙◌, arith, append_assoc, All, flat_map}
use Rattle.std.proofs.lemmas.List.Elements.{All-head, All-tail}
use Rattle.std.proofs.Math.Seq.{drop-append_seam, take-append_seam}
use Rattle.httparse.specs.Grammar.{print_request, ReadsRequest}
use Rattle.httparse.proofs.GrammarLemmas.{request_unique}
use Rattle.http_heads.specs.Framing.{body_len}
use Rattle.http_heads.specs.Parts.{parts_of}
use Rattle.http_messages.specs.Whole.{WholeMessage, print_message, IsMessage, Splits}

-- two lists of one length begin the same list
same_front : (a b x y : List ℕ) → length a ≡ length b → a ++ x ≡ b ++ y → (a ≡ b) × (x ≡ y)
same_front a b x y len is = (
  sym (take-append_seam a x) ∙ ap (take (length a)) is ∙ ap (λ n. take n (b ++ y)) len ∙ take-append_seam b y,
  sym (drop-append_seam a x) ∙ ap (drop (length a)) is ∙ ap (λ n. drop n (b ++ y)) len ∙ drop-append_seam b y,
)

pub first_head : (bytes : List ℕ) (m : WholeMessage) (ms : List WholeMessage) (rest : List ℕ) → IsMessage m → bytes ≡ flat_map print_message (m ∷ ms) ++ rest
    → ReadsRequest bytes m.head (m.body ++ (flat_map print_message ms ++ rest))
first_head bytes m ms rest is whole =
    (is.head, whole ∙ append_assoc (print_message m) (flat_map print_message ms) rest ∙ append_assoc (print_request m.head) m.body (flat_map print_message ms ++ rest))

-- the first messages of two readings are the same, and so is what follows them
pub same_first : (bytes : List ℕ) (m n : WholeMessage) (ms ns : List WholeMessage) (r q : List ℕ) → IsMessage m → IsMessage n
    → bytes ≡ flat_map print_message (m ∷ ms) ++ r → bytes ≡ flat_map print_message (n ∷ ns) ++ q
    → (m ≡ n) × (flat_map print_message ms ++ r ≡ flat_map print_message ns ++ q)
same_first bytes m n ms ns r q is-m is-n x y =
    let head = request_unique bytes m.head n.head _ _ (first_head bytes m ms r is-m x) (first_head bytes n ns q is-n y) in
    let following = same_front m.body n.body _ _ (is-m.body ∙ ap (λ h. body_len (parts_of h)) head.0 ∙ sym is-n.body) head.1 in
    ((λ i. record { head = head.0 i; body = following.0 i }), following.1)

same_messages : (bytes : List ℕ) (ms ns : List WholeMessage) (r q : List ℕ) → length ms ≡ length ns
    → All IsMessage ms → All IsMessage ns → bytes ≡ flat_map print_message ms ++ r → bytes ≡ flat_map print_message ns ++ q → (ms ≡ ns) × (r ≡ q)
same_messages bytes [] [] r q len a b x y = (refl, sym x ∙ y)
same_messages bytes [] (n ∷ ns) r q len a b x y = absurd (omega arith)
same_messages bytes (m ∷ ms) [] r q len a b x y = absurd (omega arith)
same_messages bytes (m ∷ ms) (n ∷ ns) r q len a b x y =
    let first = same_first bytes m n ms ns r q (All-head IsMessage m ms a) (All-head IsMessage n ns b) x y in
    let later = same_messages (flat_map print_message ms ++ r) ms ns r q (omega arith) (All-tail IsMessage m ms a) (All-tail IsMessage n ns b) refl first.1 in
    ((λ i. first.0 i ∷ later.0 i), later.1)

pub one_reading : (bytes : List ℕ) (ms ns : List WholeMessage) (rest other : List ℕ) → Splits bytes ms rest → Splits bytes ns other → length ms ≡ length ns → (ms ≡ ns) × (rest ≡ other)
one_reading bytes ms ns rest other x y len = same_messages bytes ms ns rest other len x.each y.each x.whole y.whole
