-- The reply of a report is its head, which is known before the text, and the text after it.
use Rattle.std.proofs.Common.{◌≡◌, ℕ, Bool, true, false, inl, inr, arith, List, [], ◌∷◌, ◌++◌, length, take, take-append-drop, drop, codes, decimal, None, append-nil, append_assoc, refl, sym, ap, ◌∙◌, subst}
use Rattle.std.specs.List.{concat}
use Rattle.http.specs.StatusCode.{code_digits}
use Rattle.money.specs.Counted.{CountsFailure}
use Rattle.http_heads.specs.Framing.{asks_head, closes}
use Rattle.http_messages.specs.Parts.{MessageParts}
use Rattle.http_messages.specs.Reply.{connection_field, head_bytes, phrase_of, reply_bytes}
use Rattle.store_rows.specs.Status.{Keeps, RoseBy, Status}
use Rattle.reports.specs.Report.{BeginsWith}
use Rattle.reports.proofs.StatusLemmas.{keeps_still}
use Rattle.counter_api.specs.Sent.{report_head, report_reply}

all_of : (a b c d e f g h i j k : List ℕ) → concat (a ∷ b ∷ c ∷ d ∷ e ∷ f ∷ g ∷ h ∷ i ∷ j ∷ k ∷ []) ≡ concat (a ∷ b ∷ c ∷ d ∷ e ∷ f ∷ g ∷ h ∷ i ∷ j ∷ [] ∷ []) ++ k
all_of a b c d e f g h i j k = simp (append_assoc, append-nil)

head_and_body : (status : ℕ) (content_type body : List ℕ) (close : Bool) → reply_bytes status content_type body close false ≡ head_bytes status content_type (length body) close ++ body
unfolding reply_bytes head_bytes
head_and_body status content_type body close =
    all_of (codes "HTTP/1.1 ") (code_digits status) (codes " ") (phrase_of status) (codes "\r\nContent-Type: ") content_type (codes "\r\nContent-Length: ") (decimal (length body)) (connection_field close)
    (codes "\r\n\r\n") body

head_alone : (status : ℕ) (content_type body : List ℕ) (close : Bool) → reply_bytes status content_type body close true ≡ head_bytes status content_type (length body) close
unfolding reply_bytes head_bytes
head_alone status content_type body close = refl

-- the store is as it was
pub keeps_same : (a b : Status) → a ≡ b → Keeps a b None
keeps_same a b is = subst (λ (s : Status). Keeps a s None) is (keeps_still a)

pub with_body : (m : MessageParts) (text : List ℕ) (len : ℕ) → len ≡ length text → asks_head m.head ≡ false → report_reply m text ≡ report_head m len ++ text
with_body m text len is asks =
    ap (reply_bytes 200 (codes "text/plain") text (closes m.head)) asks ∙ head_and_body 200 (codes "text/plain") text (closes m.head) ∙ ap (λ n. report_head m n ++ text) (sym is)

pub without_body : (m : MessageParts) (text : List ℕ) (len : ℕ) → len ≡ length text → asks_head m.head ≡ true → report_reply m text ≡ report_head m len
without_body m text len is asks =
    ap (reply_bytes 200 (codes "text/plain") text (closes m.head)) asks ∙ head_alone 200 (codes "text/plain") text (closes m.head) ∙ ap (report_head m) (sym is)

front_of : (whole head rest : List ℕ) (n : ℕ) → whole ≡ head ++ rest → BeginsWith whole (take n head)
front_of whole head rest n is = (drop n head ++ rest, is ∙ ap (λ l. l ++ rest) (sym (take-append-drop n head)) ∙ append_assoc (take n head) (drop n head) rest)

pub head_begun : (m : MessageParts) (text : List ℕ) (len n : ℕ) → len ≡ length text → BeginsWith (report_reply m text) (take n (report_head m len))
head_begun m text len n is = go (asks_head m.head) refl
  where
    go : (b : Bool) → asks_head m.head ≡ b → BeginsWith (report_reply m text) (take n (report_head m len))
    go true asks = front_of (report_reply m text) (report_head m len) [] n (without_body m text len is asks ∙ sym (append-nil (report_head m len)))
    go false asks = front_of (report_reply m text) (report_head m len) text n (with_body m text len is asks)

-- the head went out, and a beginning of the text
pub body_begun : (m : MessageParts) (text sent : List ℕ) (len : ℕ) → len ≡ length text → asks_head m.head ≡ false → BeginsWith text sent → BeginsWith (report_reply m text) (report_head m len ++ sent)
body_begun m text sent len is asks (rest, whole) =
    (rest, with_body m text len is asks ∙ ap (λ l. report_head m len ++ l) whole ∙ sym (append_assoc (report_head m len) sent rest))

-- a failure that was counted is one more
pub rose_by_one : (a b : ℕ) → CountsFailure a b → RoseBy 1 a b
rose_by_one a b (inl more) = inl (omega (arith, more))
rose_by_one a b (inr full) = inr (omega (arith, full))
