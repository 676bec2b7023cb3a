-- Where a reading of a stream ends.
use Rattle.std.proofs.Common.{◌≡◌, ℕ, ◌≤◌, List, [], ◌∷◌, ◌++◌, length, length-append, Bool, None, Some, refl, sym, ap, ◌∙◌, arith, inl, inr, All, flat_map}
use Rattle.std.proofs.lemmas.List.Elements.{All-head, All-tail}
use Rattle.httparse.specs.Grammar.{RequestHead}
use Rattle.httparse.proofs.GrammarLemmas.{request_unique}
use Rattle.http_heads.specs.declared.fault.MessageFault.{MessageFault}
use Rattle.http_heads.specs.declared.fault.MessageFault.TheVariants as Fault
use Rattle.http_heads.specs.Framing.{head_fault, body_len, asks_head}
use Rattle.http_heads.specs.Parts.{parts_of}
use Rattle.http_heads.specs.Stream.{BeginsHead, IsMalformed}
use Rattle.http_messages.specs.Next.{IsPartial, HasFault}
use Rattle.http_messages.specs.Refusal.{refusal_bytes, IsRefused, IsRefusal, HoldsNoMessage}
use Rattle.http_messages.specs.Whole.{WholeMessage, print_message, IsMessage, Splits}
use Rattle.http_messages.proofs.ReadingLemmas.{first_head, same_first, one_reading}

-- the head of a message begins its bytes
begins_head : (bytes : List ℕ) (m : WholeMessage) (ms : List WholeMessage) (rest : List ℕ) → IsMessage m → bytes ≡ flat_map print_message (m ∷ ms) ++ rest
    → BeginsHead bytes m.head (m.body ++ (flat_map print_message ms ++ rest))
begins_head bytes m ms rest is whole = (first_head bytes m ms rest is whole, is.short)

-- lines that begin no head are no beginning of a head
malformed_no_head : (bytes : List ℕ) (h : RequestHead) (rest : List ℕ) → IsMalformed bytes → BeginsHead bytes h rest → ⊥
malformed_no_head bytes h rest (front, later, whole, ends, within, never) begins = never later h rest (begins.0.0, sym whole ∙ begins.0.1)

fault_no_head : (bytes : List ℕ) (fault : MessageFault) (h : RequestHead) (rest : List ℕ) → HasFault bytes fault → BeginsHead bytes h rest → ⊥
fault_no_head bytes Fault.BadHead h rest has begins = malformed_no_head bytes h rest has begins
fault_no_head bytes Fault.HeadTooLong h rest has begins = has.no_head h rest begins
fault_no_head bytes Fault.BodyTooLong h rest has begins = has
fault_no_head bytes Fault.TransferEncoding h rest has begins = has
fault_no_head bytes Fault.NoSuchRoute h rest has begins = has
fault_no_head bytes Fault.BadContent h rest has begins = has

one_fault : (bytes : List ℕ) (fault other : MessageFault) → HasFault bytes fault → HasFault bytes other → fault ≡ other
one_fault bytes Fault.BadHead Fault.BadHead x y = refl
one_fault bytes Fault.BadHead Fault.HeadTooLong x y = absurd (y.well_formed x)
one_fault bytes Fault.HeadTooLong Fault.BadHead x y = absurd (x.well_formed y)
one_fault bytes Fault.HeadTooLong Fault.HeadTooLong x y = refl
one_fault bytes Fault.BadHead Fault.BodyTooLong x y = absurd y
one_fault bytes Fault.BadHead Fault.TransferEncoding x y = absurd y
one_fault bytes Fault.BadHead Fault.NoSuchRoute x y = absurd y
one_fault bytes Fault.BadHead Fault.BadContent x y = absurd y
one_fault bytes Fault.HeadTooLong Fault.BodyTooLong x y = absurd y
one_fault bytes Fault.HeadTooLong Fault.TransferEncoding x y = absurd y
one_fault bytes Fault.HeadTooLong Fault.NoSuchRoute x y = absurd y
one_fault bytes Fault.HeadTooLong Fault.BadContent x y = absurd y
one_fault bytes Fault.BodyTooLong other x y = absurd x
one_fault bytes Fault.TransferEncoding other x y = absurd x
one_fault bytes Fault.NoSuchRoute other x y = absurd x
one_fault bytes Fault.BadContent other x y = absurd x

same_head : (bytes : List ℕ) (h k : RequestHead) (r q : List ℕ) → BeginsHead bytes h r → BeginsHead bytes k q → (h ≡ k) × (r ≡ q)
same_head bytes h k r q x y = request_unique bytes h k r q x.0 y.0

partial_no_message : (bytes : List ℕ) (m : WholeMessage) (rest : List ℕ) → IsPartial bytes → IsMessage m → BeginsHead bytes m.head (m.body ++ rest) → ⊥
partial_no_message bytes m rest (inl undecided) is begins = undecided.no_head m.head (m.body ++ rest) begins
partial_no_message bytes m rest (inr part) is begins =
    let same = same_head bytes part.head m.head part.rest (m.body ++ rest) part.begins begins in
    let len : body_len (parts_of part.head) ≡ body_len (parts_of m.head) = ap (λ h. body_len (parts_of h)) same.0 in
    omega (arith, part.part, ap length same.1, length-append m.body rest, is.body, len)

refused_no_message : (bytes : List ℕ) (fault : MessageFault) (h : RequestHead) (later : List ℕ) (m : WholeMessage) (rest : List ℕ) → BeginsHead bytes h later
    → head_fault (parts_of h) ≡ Some fault → IsMessage m → BeginsHead bytes m.head rest → ⊥
refused_no_message bytes fault h later m rest has faulty is begins =
    let same = same_head bytes h m.head later rest has begins in
    let none : head_fault (parts_of h) ≡ None = ap (λ k. head_fault (parts_of k)) same.0 ∙ is.sound in
    let clash = sym none ∙ faulty in cc

holds_no_message : (bytes : List ℕ) (m : WholeMessage) (rest : List ℕ) → HoldsNoMessage bytes → IsMessage m → BeginsHead bytes m.head (m.body ++ rest) → ⊥
holds_no_message bytes m rest (inl part) is begins = partial_no_message bytes m rest part is begins
holds_no_message bytes m rest (inr (reply, (fault, head_only, inl (has, _), _))) is begins = fault_no_head bytes fault m.head (m.body ++ rest) has begins
holds_no_message bytes m rest (inr (reply, (fault, head_only, inr (h, later, has, faulty, _), _))) is begins =
    refused_no_message bytes fault h later m (m.body ++ rest) has faulty is begins

most_messages : (bytes : List ℕ) (ms ns : List WholeMessage) (r q : List ℕ) → All IsMessage ms → All IsMessage ns
    → bytes ≡ flat_map print_message ms ++ r → bytes ≡ flat_map print_message ns ++ q → HoldsNoMessage r → length ns ≤ length ms
most_messages bytes ms [] r q a b x y none = omega arith
most_messages bytes [] (n ∷ ns) r q a b x y none =
    absurd (holds_no_message r n (flat_map print_message ns ++ q) none (All-head IsMessage n ns b) (begins_head r n ns q (All-head IsMessage n ns b) (sym x ∙ y)))
most_messages bytes (m ∷ ms) (n ∷ ns) r q a b x y none =
    let following = (same_first bytes m n ms ns r q (All-head IsMessage m ms a) (All-head IsMessage n ns b) x y).1 in
    let later = most_messages (flat_map print_message ms ++ r) ms ns r q (All-tail IsMessage m ms a) (All-tail IsMessage n ns b) refl following none in
    omega (arith, later)

pub one_end : (bytes : List ℕ) (ms ns : List WholeMessage) (rest other : List ℕ) → Splits bytes ms rest → Splits bytes ns other → HoldsNoMessage rest → length ns ≤ length ms
one_end bytes ms ns rest other x y none = most_messages bytes ms ns rest other x.each y.each x.whole y.whole none

pub one_whole_reading : (bytes : List ℕ) (ms ns : List WholeMessage) (rest other : List ℕ) → Splits bytes ms rest → Splits bytes ns other
    → HoldsNoMessage rest → HoldsNoMessage other → (ms ≡ ns) × (rest ≡ other)
one_whole_reading bytes ms ns rest other x y none none_either =
    one_reading bytes ms ns rest other x y
    (omega (arith, one_end bytes ms ns rest other x y none, one_end bytes ns ms other rest y x none_either))

same_refused : (bytes : List ℕ) (fault other : MessageFault) (first second : Bool) → IsRefused bytes fault first → IsRefused bytes other second → (fault ≡ other) × (first ≡ second)
same_refused bytes fault other first second (inl (x, a)) (inl (y, b)) = (one_fault bytes fault other x y, a ∙ sym b)
same_refused bytes fault other first second (inl (x, a)) (inr (k, q, y, b, c)) = absurd (fault_no_head bytes fault k q x y)
same_refused bytes fault other first second (inr (h, r, x, a, c)) (inl (y, b)) = absurd (fault_no_head bytes other h r y x)
same_refused bytes fault other first second (inr (h, r, x, faulty, asks)) (inr (k, q, y, faulty_too, asks_too)) =
    let same = (same_head bytes h k r q x y).0 in
    let both : Some fault ≡ Some other = sym faulty ∙ ap (λ l. head_fault (parts_of l)) same ∙ faulty_too in
    (cc, asks ∙ ap (λ l. asks_head (parts_of l)) same ∙ sym asks_too)

pub one_refusal : (bytes first second : List ℕ) → IsRefusal bytes first → IsRefusal bytes second → first ≡ second
one_refusal bytes first second (fault, head_only, x, a) (other, head_only_too, y, b) =
    let same = same_refused bytes fault other head_only head_only_too x y in
    a ∙ (λ i. refusal_bytes (same.0 i) (same.1 i)) ∙ sym b

partial_no_fault : (bytes : List ℕ) (fault : MessageFault) → IsPartial bytes → HasFault bytes fault → ⊥
partial_no_fault bytes fault (inr part) has = fault_no_head bytes fault part.head part.rest has part.begins
partial_no_fault bytes Fault.BadHead (inl undecided) has = undecided.well_formed has
partial_no_fault bytes Fault.HeadTooLong (inl undecided) has = omega (arith, undecided.short, has.full)
partial_no_fault bytes Fault.BodyTooLong (inl undecided) has = has
partial_no_fault bytes Fault.TransferEncoding (inl undecided) has = has
partial_no_fault bytes Fault.NoSuchRoute (inl undecided) has = has
partial_no_fault bytes Fault.BadContent (inl undecided) has = has

pub partial_not_refused : (bytes reply : List ℕ) → IsPartial bytes → ¬ (IsRefusal bytes reply)
partial_not_refused bytes reply part (fault, head_only, inl (has, _), _) = partial_no_fault bytes fault part has
partial_not_refused bytes reply (inl undecided) (fault, head_only, inr (h, rest, has, _, _), _) = undecided.no_head h rest has
partial_not_refused bytes reply (inr part) (fault, head_only, inr (h, rest, has, faulty, _), _) =
    let same = same_head bytes part.head h part.rest rest part.begins has in
    let none : head_fault (parts_of h) ≡ None = sym (ap (λ k. head_fault (parts_of k)) same.0) ∙ part.sound in
    let clash = sym none ∙ faulty in cc
