-- What was found of a message that came in part stands when more bytes came.
use Rattle.std.proofs.Common.{◌≡◌, ℕ, List, ◌++◌, length, take, drop, sym, ap, ◌∙◌, subst, arith, append_assoc, Option}
use Rattle.std.proofs.lemmas.List.{take-append-le, take_all}
use Rattle.std.proofs.KnownBytes.{Consumes-trans}
use Rattle.httparse.specs.declared.spans.HeaderSpan.{HeaderSpan}
use Rattle.httparse.specs.declared.spans.RequestSpans.{RequestSpans}
use Rattle.httparse.specs.Spans.{IsRequestAt, IsRequestWithin}
use Rattle.httparse.proofs.GrammarLemmas.{request_unique}
use Rattle.http_heads.specs.Framing.{head_fault, body_len}
use Rattle.http_heads.specs.Parts.{parts_of}
use Rattle.http_heads.proofs.JudgeLemmas.{reads_more, same_request, same_within}
use Rattle.http_heads.proofs.SeenLemmas.{seen_more}
use Rattle.http_messages.specs.declared.looking.Awaited.{Awaited}
use Rattle.http_messages.specs.declared.looking.Awaited.TheVariants.{Head, Body}
use Rattle.http_messages.specs.Next.{BeginsSound, IsAwaited}
use Rattle.http_messages.specs.Inbox.{Takes}

front_same : (bytes more : List ℕ) → take (length bytes) (bytes ++ more) ≡ bytes
front_same bytes more = take-append-le (length bytes) bytes more (omega arith) ∙ take_all (length bytes) bytes (omega arith)

-- a head that was found is that of the longer bytes
sound_more : (bytes more : List ℕ) (headers : List HeaderSpan) (r : RequestSpans) (n : ℕ) → BeginsSound bytes headers r n → BeginsSound (bytes ++ more) headers r n
sound_more bytes more headers r n b =
    let same = front_same bytes more in
    let within = subst (λ l. IsRequestWithin l headers r) (sym same) b.begins.within in
    let at = subst (λ l. IsRequestAt l headers r b.head) (sym same) b.begins.covers in
    let found = same_request (bytes ++ more) (length bytes) headers r within (b.head, at) in
    let reads = reads_more (bytes ++ more) (length bytes) r.len b.head at.len at.reads in
    let is : found.0 ≡ b.head = (request_unique (bytes ++ more) found.0 b.head (drop r.len (bytes ++ more)) (drop r.len (bytes ++ more)) found.1.reads reads).0 in
    record {
      head = found.0;
      begins = record {
        covers = found.1;
        within = same_within (bytes ++ more) (length bytes) headers r within;
        short = b.begins.short;
      };
      sound = ap (λ h. head_fault (parts_of h)) is ∙ b.sound;
      body = b.body ∙ ap (λ h. body_len (parts_of h)) (sym is);
      fits = b.fits;
    }

pub awaited_more : (bytes more : List ℕ) (a : Awaited) → IsAwaited bytes a → IsAwaited (bytes ++ more) a
awaited_more bytes more (Head seen) is = seen_more bytes more seen is
awaited_more bytes more (Body whole) b = record {
  headers = b.headers;
  spans = b.spans;
  body = b.body;
  sound = sound_more bytes more b.headers b.spans b.body b.sound;
  is = b.is;
}

-- two reads, one after the other, are one
pub takes_more : (a b c : Option (List ℕ)) (old mid new first more : List ℕ) → Takes a b old mid first → Takes b c mid new more
    → (all : List ℕ) × Takes a c old new all
takes_more a b c old mid new first more x y = (
  first ++ more,
  record {
    taken = Consumes-trans a b c first more x.taken y.taken;
    held = y.held ∙ ap (λ l. l ++ more) x.held ∙ append_assoc old first more;
  },
)
