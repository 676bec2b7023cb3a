-- A connection over a reader and a writer: what the writer has, and then what is to go out.
use Rattle.std.proofs.Common.{◌≡◌, ◌∙◌, ℕ, ◌≤◌, ◌++◌, List, [], ◌∷◌, false, true, length, take, Option, Some, Result, Ok, Err, refl, sym, ap, subst, inl, inr, append-nil, arith}
use Rattle.std.proofs.KnownBytes.{Consumes-nil, Keeps-refl, append_known-grown, append_known-moved}
use Rattle.std.specs.Io.KnownBytes.{Appends, Consumes, Keeps, append_known}
use Rattle.http_messages.specs.Parts.{MessageParts}
use Rattle.http_messages.specs.Step.{IsStep, Side}
use Rattle.http_messages.specs.Inbox.{max_message_len}
use Rattle.http_messages.specs.Turn.{StoreAndClock, OnlyReads}
use Rattle.http_messages.specs.Run.{Runs}
use Rattle.http_messages.proofs.RunLemmas.{run_none}
use Rattle.http_messages.proofs.TurnLemmas.{Before, flushed, read_on, waited}
use Rattle.http_messages.specs.declared.engine.AnswerFault.{AnswerFault}
use Rattle.http_messages.specs.declared.engine.AnswerFault.TheVariants as fault
use Rattle.http_messages.specs.declared.step.Step.{Step}
use Rattle.http_messages.specs.declared.step.Step.TheVariants as step
use Rattle.http_connection.specs.Connection.{side_of}
use Rattle.http_connection.specs.History.{with_unsent}
use Rattle.http_connection.specs.Parts.{ConnectionParts, after_received, opened}
use Rattle.http_connection.specs.Serving.{at, is_some_left}
use Rattle.http_connection.proofs.ServedLemmas.{some_same}

pub none_left : (bytes : List ℕ) → is_some_left bytes ≡ false → bytes ≡ []
none_left [] is = refl
none_left (byte ∷ bytes) is = let x : true ≡ false = is in absurd cc

pub nothing_left : (bytes : List ℕ) → bytes ≡ [] → is_some_left bytes ≡ false
nothing_left bytes is = ap is_some_left is

-- something is left of more
left_of_more : (out rest : List ℕ) → is_some_left rest ≡ true → is_some_left (out ++ rest) ≡ true
left_of_more [] rest is = is
left_of_more (byte ∷ out) rest is = refl

pub left_before : (c d : ConnectionParts) (u v : Option (List ℕ)) → (out : List ℕ) × (c.unsent ≡ out ++ d.unsent) × (d ≡ with_unsent d.unsent c) × Appends u v out → is_some_left d.unsent ≡ true → is_some_left c.unsent ≡ true
left_before c d u v (out, split, same, wrote) is = ap is_some_left split ∙ left_of_more out d.unsent is

-- what was to go out went out in part, and stays gathered otherwise
pub still_there : (c d : ConnectionParts) (u v : Option (List ℕ)) → (out : List ℕ) × (c.unsent ≡ out ++ d.unsent) × (d ≡ with_unsent d.unsent c) × Appends u v out
    → Keeps (append_known u c.unsent) (append_known v d.unsent)
still_there c d u v (out, is, same, wrote) = append_known-moved u v out d.unsent c.unsent wrote is

grown : (w : Option (List ℕ)) (u v reply : List ℕ) → Appends (Some u) (Some v) reply → Appends (append_known w u) (append_known w v) reply
grown w u v reply is = append_known-grown (append_known w u) w u v reply (Keeps-refl (append_known w u)) is

module _ {S : Type 0} (answers stops breaks : S → MessageParts → List ℕ → S → Type 0) where
  abbrev over : Option (List ℕ) → ConnectionParts → S → Side S
  over written c engine = record { held = c.held; written = append_known written c.unsent; engine = engine }

  -- a step of the connection, over its writer
  pub step_over : (w : Option (List ℕ)) (c d : ConnectionParts) (e f : S) (r : Result Step AnswerFault) → IsStep answers stops breaks (side_of c e) (side_of d f) r → IsStep answers stops breaks (over w c e) (over w d f) r
  step_over w c d e f (Ok step.Answered) (reply, h, ends, wrote) =
      (reply, record { message = h.message; split = h.split; is = h.is; answered = h.answered; bounded = h.bounded }, ends, grown w c.unsent d.unsent reply wrote)
  step_over w c d e f (Ok step.Waiting) (none, part, less, kept) =
      (record { held = none.held; engine = none.engine }, part, less, ap (append_known w) (some_same d.unsent c.unsent kept))
  step_over w c d e f (Ok step.Closed) (inl (reply, h, ends, wrote)) =
      inl (reply, record { message = h.message; split = h.split; is = h.is; answered = h.answered; bounded = h.bounded }, ends, grown w c.unsent d.unsent reply wrote)
  step_over w c d e f (Ok step.Closed) (inr (none, reply, refusal, wrote)) =
      inr (record { held = none.held; engine = none.engine }, reply, refusal, grown w c.unsent d.unsent reply wrote)
  step_over w c d e f (Err fault.Write) (reply, (n, fits, wrote), inl (rest, h)) =
      (reply, (n, fits, grown w c.unsent d.unsent (take n reply) wrote), inl (rest, record { message = h.message; split = h.split; is = h.is; answered = h.answered; bounded = h.bounded }))
  step_over w c d e f (Err fault.Write) (reply, (n, fits, wrote), inr (none, refusal)) =
      (reply, (n, fits, grown w c.unsent d.unsent (take n reply) wrote), inr (record { held = none.held; engine = none.engine }, refusal))
  step_over w c d e f (Err fault.Report) (begun, wrote, rest, h) =
      (begun, grown w c.unsent d.unsent begun wrote, rest, record { message = h.message; split = h.split; is = h.is; answered = h.answered; bounded = h.bounded })

  -- ---- what was read, and what was held and written, from one call to the next

  -- a step waited
  pub before_waits : (w : Option (List ℕ)) (old : StoreAndClock S) (left : Option (List ℕ)) (c d : ConnectionParts) (e f : S) → Before old left (over w c e) → IsStep answers stops breaks (side_of c e) (side_of d f) (Ok step.Waiting)
      → Before old left (over w d f)
  before_waits w old left c d e f b took = waited answers stops breaks old left (over w c e) (over w d f) b (step_over w c d e f (Ok step.Waiting) took)

  -- it left what is to go out
  pub waits_left : (c d : ConnectionParts) (e f : S) → IsStep answers stops breaks (side_of c e) (side_of d f) (Ok step.Waiting) → is_some_left d.unsent ≡ true → is_some_left c.unsent ≡ true
  waits_left c d e f (none, part, less, kept) is = ap is_some_left (sym (some_same d.unsent c.unsent kept)) ∙ is

module _ {S : Type 0} where
  abbrev beside : Option (List ℕ) → ConnectionParts → S → Side S
  beside written c engine = record { held = c.held; written = append_known written c.unsent; engine = engine }

  -- nothing was read yet
  pub before_none : (left : Option (List ℕ)) (c : ConnectionParts) (w : Option (List ℕ)) (e : S) → Before (at left c w e) left (beside w c e)
  before_none left c w e =
      record { more = []; takes = record { taken = Consumes-nil left; held = sym (append-nil c.held) }; engine = refl; kept = Keeps-refl (append_known w c.unsent) }

  -- some of what was to go out went out
  pub before_sent : (old : StoreAndClock S) (left : Option (List ℕ)) (c d : ConnectionParts) (u v : Option (List ℕ)) (e : S) → Before old left (beside u c e)
      → (out : List ℕ) × (c.unsent ≡ out ++ d.unsent) × (d ≡ with_unsent d.unsent c) × Appends u v out → Before old left (beside v d e)
  before_sent old left c d u v e b went =
      let f = flushed old left (beside u c e) (append_known v d.unsent) b (still_there c d u v went) in
      record { more = f.more; takes = record { taken = f.takes.taken; held = ap (λ (x : ConnectionParts). x.held) went.2 ∙ f.takes.held }; engine = f.engine; kept = f.kept }

  -- some bytes came
  pub before_read : (old : StoreAndClock S) (left next : Option (List ℕ)) (c d : ConnectionParts) (w : Option (List ℕ)) (e : S) → Before old left (beside w c e)
      → (bytes : List ℕ) × (d ≡ after_received bytes c) × Consumes left next bytes → Before old next (beside w d e)
  before_read old left next c d w e b (bytes, is, read) =
      let r = read_on old left next (beside w c e) d.held bytes b (record { taken = read; held = ap (λ (x : ConnectionParts). x.held) is }) in
      record { more = r.more; takes = r.takes; engine = r.engine; kept = subst (λ u. Keeps old.written (append_known w u)) (sym (ap (λ (x : ConnectionParts). x.unsent) is)) r.kept }

  -- nothing else was done
  pub only_read : (old : StoreAndClock S) (left : Option (List ℕ)) (c : ConnectionParts) (w : Option (List ℕ)) (e : S) → Before old left (beside w c e) → length c.held ≤ max_message_len → OnlyReads old (at left c w e)
  only_read old left c w e b within = record { more = b.more; taken = b.takes.taken; held = b.takes.held; engine = b.engine; bounded = within }

-- what was sent, and what came, left what was held before
pub sent_held : (c d : ConnectionParts) (bytes : List ℕ) → d ≡ with_unsent bytes c → d.held ≡ c.held
sent_held c d bytes is = ap (λ (x : ConnectionParts). x.held) is

-- a connection that begins has run no message
pub run_opened : {S : Type 0} (answers stops breaks : S → MessageParts → List ℕ → S → Type 0) (left : Option (List ℕ)) (c : ConnectionParts) (w : Option (List ℕ)) (e : S) → c ≡ opened
    → Runs answers stops breaks (at left c w e) (at left c w e) [] []
run_opened answers stops breaks left c w e is =
    run_none answers stops breaks (at left c w e) (omega (arith, ap (λ (x : ConnectionParts). length x.held) is)) (nothing_left c.unsent (ap (λ (x : ConnectionParts). x.unsent) is))
