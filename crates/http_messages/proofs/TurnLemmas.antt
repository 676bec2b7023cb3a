-- What a turn of the loop says, from the reads and the step after them.
use borrow.Author.Tests.{ltb-false}
use Rattle.std.proofs.Common.{◌≡◌, ℕ, ◌≤◌, false, nat_lt, List, [], ◌∷◌, ◌++◌, length, take, Option, None, Some, Ok, Err, refl, sym, ap, arith, ◌∙◌, subst, inl, inr}
use Rattle.std.proofs.KnownBytes.{Consumes-kept, Keeps-trans}
use Rattle.std.specs.Io.KnownBytes.{Appends, Keeps}
use Rattle.money.specs.Counted.{AppendsBeginning}
use Rattle.http_messages.proofs.AwaitedLemmas.{takes_more}
use Rattle.http_messages.specs.declared.engine.AnswerFault.{AnswerFault}
use Rattle.http_messages.specs.declared.engine.AnswerFault.TheVariants.{Write, Report}
use Rattle.http_messages.specs.declared.step.Step.TheVariants.{Answered, Closed, Waiting}
use Rattle.http_messages.specs.Inbox.{Takes, max_message_len}
use Rattle.http_messages.specs.Parts.{MessageParts}
use Rattle.http_messages.specs.Step.{HandsNone, HandsOn, IsStep, Side}
use Rattle.http_messages.specs.Whole.{message_parts}
use Rattle.http_messages.specs.Turn.{StoreAndClock, Handles, IsTurn, OnlyReads, fault_of}

pub kept_Appends : (a b c : Option (List ℕ)) (bs : List ℕ) → Keeps a b → Appends b c bs → Appends a c bs
kept_Appends None b c bs p q = tt
kept_Appends (Some x) None c bs p q = absurd p
kept_Appends (Some x) (Some y) None bs p q = absurd q
kept_Appends (Some x) (Some y) (Some z) bs p q = q ∙ ap (λ l. l ++ bs) p

kept_beginning : (a b c : Option (List ℕ)) (bs : List ℕ) → Keeps a b → AppendsBeginning b c bs → AppendsBeginning a c bs
kept_beginning a b c bs p (n, fits, some) = (n, fits, kept_Appends a b c (take n bs) p some)

-- what was read, and what was held and written when the last step began
pub record Before {S : Type 0} (old : StoreAndClock S) (left : Option (List ℕ)) (mid : Side S) : Type 0 where
  pub more : List ℕ
  pub takes : Takes old.left left old.held mid.held more
  pub engine : mid.engine ≡ old.engine
  pub kept : Keeps old.written mid.written

module _ {S : Type 0} where
  abbrev pub side : StoreAndClock S → Side S
  side a = record { held = a.held; written = a.written; engine = a.engine }

  only : (old new : StoreAndClock S) (mid : Side S) → Before old new.left mid → HandsNone mid (side new) → length new.held ≤ max_message_len → OnlyReads old new
  only old new mid b x within =
      record { more = b.more; taken = b.takes.taken; held = x.held ∙ b.takes.held; engine = x.engine ∙ b.engine; bounded = within }

  handles : (way : S → MessageParts → List ℕ → S → Type 0) (old new : StoreAndClock S) (mid : Side S) (rest reply : List ℕ) → Before old new.left mid
      → (h : HandsOn way mid (side new) rest reply) → Handles way old new rest reply
  handles way old new mid rest reply b h = record {
    more = b.more;
    message = h.message;
    taken = b.takes.taken;
    split = sym b.takes.held ∙ h.split;
    is = h.is;
    answered = subst (λ e. way e (message_parts h.message) reply new.engine) b.engine h.answered;
    bounded = h.bounded;
  }

  -- what was written before was flushed
  pub flushed : (old : StoreAndClock S) (left : Option (List ℕ)) (mid : Side S) (written : Option (List ℕ)) → Before old left mid → Keeps mid.written written
      → Before old left (record { held = mid.held; written = written; engine = mid.engine })
  flushed old left mid written b keeps =
      record { more = b.more; takes = b.takes; engine = b.engine; kept = Keeps-trans old.written mid.written written b.kept keeps }

  -- bytes came
  pub read_on : (old : StoreAndClock S) (left next : Option (List ℕ)) (mid : Side S) (held more : List ℕ) → Before old left mid → Takes left next mid.held held more
      → Before old next (record { held = held; written = mid.written; engine = mid.engine })
  read_on old left next mid held more b came =
      let all = takes_more old.left left next old.held mid.held held b.more more b.takes came in
      record { more = all.0; takes = all.1; engine = b.engine; kept = b.kept }

  -- a read failed
  pub read_none : (old : StoreAndClock S) (left next : Option (List ℕ)) (mid : Side S) (held : List ℕ) → Before old left mid → Keeps left next → held ≡ mid.held
      → Before old next (record { held = held; written = mid.written; engine = mid.engine })
  read_none old left next mid held b keeps same = record {
    more = b.more;
    takes = record { taken = Consumes-kept old.left left next b.more b.takes.taken keeps; held = same ∙ b.takes.held };
    engine = b.engine;
    kept = b.kept;
  }

pub none_came : (xs : List ℕ) → nat_lt 0 (length xs) ≡ false → xs ≡ []
none_came [] is = refl
none_came (x ∷ xs) is = absurd (omega (arith, ltb-false 0 (length (x ∷ xs)) is))

module _ {S : Type 0} (answers stops breaks : S → MessageParts → List ℕ → S → Type 0) where
  -- a step waited
  pub waited : (old : StoreAndClock S) (left : Option (List ℕ)) (mid new : Side S) → Before old left mid → IsStep answers stops breaks mid new (Ok Waiting) → Before old left new
  waited old left mid new b (x, part, fits, same) = record {
    more = b.more;
    takes = record { taken = b.takes.taken; held = x.held ∙ b.takes.held };
    engine = x.engine ∙ b.engine;
    kept = subst (λ w. Keeps old.written w) (sym same) b.kept;
  }

  pub turn_answered : (old new : StoreAndClock S) (mid : Side S) → Before old new.left mid → IsStep answers stops breaks mid (side new) (Ok Answered) → IsTurn answers stops breaks old new (Ok Answered)
  unfolding handles
  turn_answered old new mid b (reply, h, closing, wrote) = (reply, handles answers old new mid new.held reply b h, closing, kept_Appends old.written mid.written new.written reply b.kept wrote)

  pub turn_closed : (old new : StoreAndClock S) (mid : Side S) → Before old new.left mid → length new.held ≤ max_message_len → IsStep answers stops breaks mid (side new) (Ok Closed) → IsTurn answers stops breaks old new (Ok Closed)
  unfolding handles
  turn_closed old new mid b within (inl (reply, h, closing, wrote)) = inl (reply, handles answers old new mid new.held reply b h, closing, kept_Appends old.written mid.written new.written reply b.kept wrote)
  turn_closed old new mid b within (inr (x, reply, refusal, wrote)) = inr (only old new mid b x within, reply, refusal, kept_Appends old.written mid.written new.written reply b.kept wrote)

  pub turn_stopped : (old new : StoreAndClock S) (mid : Side S) (f : AnswerFault) → Before old new.left mid → length new.held ≤ max_message_len → IsStep answers stops breaks mid (side new) (Err f)
      → IsTurn answers stops breaks old new (Err (fault_of f))
  turn_stopped old new mid Write b within (reply, some, inl (rest, h)) =
      inr (reply, kept_beginning old.written mid.written new.written reply b.kept some, inl (rest, handles stops old new mid rest reply b h))
  turn_stopped old new mid Write b within (reply, some, inr (x, refusal)) =
      inr (reply, kept_beginning old.written mid.written new.written reply b.kept some, inr (only old new mid b x within, refusal))
  turn_stopped old new mid Report b within (begun, wrote, rest, h) =
      (begun, kept_Appends old.written mid.written new.written begun b.kept wrote, rest, handles breaks old new mid rest begun b h)
