-- Since when connections are waited for, from visit to visit and from round to round.
use Rattle.std.proofs.Common.{◌≡◌, ◌≢◌, ◌⊎◌, ◌<◌, ℕ, Bool, true, false, List, [], ◌∷◌, ◌++◌, length, inl, inr, Option, Some, None, refl, sym, ap, subst, ◌∙◌, arith, append-nil, append_assoc}
use Rattle.std.specs.Prelude.{IsSome}
use Rattle.std.specs.declared.time.Instant.{Instant}
use Rattle.std.proofs.lemmas.List.Elements.{All-append, All-cons, All-nil}
use Rattle.reports.specs.Report.{BeginsWith}
use Rattle.counter_loop.specs.Boxes.{IsBoxed, IsCause, IsLetGo, IsStuck, Suits, called}
use Rattle.counter_loop.specs.Ends.{AreTimed, HasPassed, IsTimed, KeepsTime, batch_since, max_wait}
use Rattle.counter_loop.specs.Round.{HoldsFrom, IsAt, IsLate, LastsSince, Round}
use Rattle.counter_loop.specs.Rounds.{IsWaitedFor}
use Rattle.counter_loop.specs.Turns.{Box, Boxes, IsThere}
use Rattle.counter_door.specs.Ways.{Ways}
use Rattle.counter_loop.specs.declared.client.Client.{Client}
use Rattle.counter_loop.specs.declared.clients.Clients.{Clients}
use Rattle.counter_loop.specs.declared.times.Times.{Times}

no_front : {A : Type 0} (front rest : List A) → front ++ rest ≡ [] → front ≡ []
no_front [] rest none = refl
no_front (x ∷ front) rest none = let e : x ∷ (front ++ rest) ≡ [] = none in absurd cc

begins_same : (l : List ℕ) → BeginsWith l l
begins_same l = ([], sym (append-nil l))

pub begins_then : (a b c : List ℕ) → BeginsWith b a → BeginsWith c b → BeginsWith c a
begins_then a b c (more, here) (rest, later) = (more ++ rest, later ∙ ap (λ l. l ++ rest) here ∙ append_assoc a more rest)

some_begun : (a b : List ℕ) → a ≢ [] → BeginsWith b a → b ≢ []
some_begun a b some (more, is) none = some (no_front a more (sym is ∙ none))

-- ---- one visit

-- so much was sent, and nothing else of its times changed
pub record IsSentBy {T : Type 0} (now : Instant) (c d : Client T) : Type 0 where
  pub message : d.times.message ≡ c.times.message
  pub batch : (since : Instant) → batch_since d.times ≡ Some since → (batch_since c.times ≡ Some since) ⊎ (since ≡ now)
  pub timed : AreTimed d

module _ {T : Type 0} (now : Instant) where
  pub keeps_none : (c : Client T) → c.connection.is_closing ≡ false → KeepsTime now c c
  keeps_none c open_still = record { open_still = open_still; part = λ since is. inl (is, begins_same c.connection.held); batch = λ since is. inl is }

  pub keeps_then : (c d e : Client T) → KeepsTime now c d → KeepsTime now d e → KeepsTime now c e
  keeps_then c d e here later = record {
    open_still = here.open_still;
    part = λ since is. elim (later.part since is) [
      | inl kept ↦ elim (here.part since kept.0) [
        | inl was ↦ inl (was.0, begins_then c.connection.held d.connection.held e.connection.held was.1 kept.1)
        | inr begun ↦ inr (begun.0, some_begun d.connection.held e.connection.held begun.1 kept.1)
      ]
      | inr begun ↦ inr begun
    ];
    batch = λ since is. elim (later.batch since is) [ inl kept ↦ here.batch since kept | inr begun ↦ inr begun ];
  }

  pub keeps_sent : (c d : Client T) → c.connection.is_closing ≡ false → d.connection.held ≡ c.connection.held → IsSentBy now c d → KeepsTime now c d
  keeps_sent c d open_still inbox sent = record {
    open_still = open_still;
    part = λ since is. inl (sym sent.message ∙ is, subst (λ l. BeginsWith l c.connection.held) (sym inbox) (begins_same c.connection.held));
    batch = sent.batch;
  }

  -- a turn, and what was noted of it
  pub keeps_turned : (d e f : Client T) (has_moved holds : Bool) → d.connection.is_closing ≡ false → e.times ≡ d.times → f.connection.held ≡ e.connection.held → batch_since f.times ≡ batch_since e.times → (holds ≡ true → e.connection.held ≢ [])
      → (has_moved ≡ false → BeginsWith e.connection.held d.connection.held)
      → ((since : Instant) → f.times.message ≡ Some since → (holds ≡ true) × (((has_moved ≡ false) × (e.times.message ≡ Some since)) ⊎ (since ≡ now))) → KeepsTime now d f
  keeps_turned d e f has_moved holds open_still times inbox batch some more noted = record {
    open_still = open_still;
    part = λ since is.
        let so = noted since is in
        elim so.1 [
          | inl kept ↦ inl (ap (λ (x : Times). x.message) (sym times) ∙ kept.1, subst (λ l. BeginsWith l d.connection.held) (sym inbox) (more kept.0))
          | inr begun ↦ inr (begun, λ none. some so.0 (sym inbox ∙ none))
        ];
    batch = λ since is. inl (ap (λ (x : Times). batch_since x) (sym times) ∙ sym batch ∙ is);
  }

  -- what is said of its times, its inbox and its outbox
  pub timed_same : (c d e : Client T) → KeepsTime now c d → AreTimed d → e.connection.held ≡ d.connection.held → e.connection.unsent ≡ d.connection.unsent → e.times ≡ d.times → IsTimed now c e
  timed_same c d e keeps waits inbox outbox times = record {
    keeps = record {
      open_still = keeps.open_still;
      part = λ since is. elim (keeps.part since (ap (λ (x : Times). x.message) (sym times) ∙ is)) [
        | inl kept ↦ inl (kept.0, subst (λ l. BeginsWith l c.connection.held) (sym inbox) kept.1)
        | inr begun ↦ inr (begun.0, λ none. begun.1 (sym inbox ∙ none))
      ];
      batch = λ since is. keeps.batch since (ap (λ (x : Times). batch_since x) (sym times) ∙ is);
    };
    waits = elim waits [
      | inl none ↦ inl (outbox ∙ none.0, ap (λ (x : Times). batch_since x) times ∙ none.1)
      | inr some ↦ inr ((λ none. some.0 (sym outbox ∙ none)), subst (λ (x : Times). IsSome (batch_since x)) (sym times) some.1)
    ];
  }

  -- that it waits for a visit changes none of this
  pub timed_uncalled : (c d : Client T) → IsTimed now (called c) d → IsTimed now c d
  timed_uncalled c d timed = record { keeps = record { open_still = timed.keeps.open_still; part = timed.keeps.part; batch = timed.keeps.batch }; waits = timed.waits }

-- by how much waits
pub timed_by : (items : List ℕ) (waiting : ℕ) (batch : Option Instant) → waiting ≡ length items → (waiting ≡ 0 → batch ≡ None) → (0 < waiting → IsSome batch) → ((items ≡ []) × (batch ≡ None)) ⊎ ((items ≢ []) × IsSome batch)
timed_by [] waiting batch is none some = inl (refl, none is)
timed_by (x ∷ items) waiting batch is none some = inr ((λ empty. let e : x ∷ items ≡ [] = empty in absurd cc), some (omega (arith, is)))

-- ---- round after round

pub lasts_begun : (rounds : List Round) (r : Round) (since : Instant) (holds : Boxes → Type 0) → since ≡ r.now → holds r.after → LastsSince (rounds ++ r ∷ []) since holds
lasts_begun rounds r since holds at here = record {
  before = rounds;
  first = r;
  later = [];
  is = refl;
  at = sym at;
  all = All-cons (λ (x : Round). holds x.after) r [] here (All-nil (λ (x : Round). holds x.after));
}

pub lasts_more : (rounds : List Round) (r : Round) (since : Instant) (holds : Boxes → Type 0) → LastsSince rounds since holds → holds r.after → LastsSince (rounds ++ r ∷ []) since holds
lasts_more rounds r since holds lasts here = record {
  before = lasts.before;
  first = lasts.first;
  later = lasts.later ++ r ∷ [];
  is = ap (λ (l : List Round). l ++ r ∷ []) lasts.is ∙ append_assoc lasts.before (lasts.first ∷ lasts.later) (r ∷ []);
  at = lasts.at;
  all = All-append (λ (x : Round). holds x.after) (lasts.first ∷ lasts.later) (r ∷ []) lasts.all (All-cons (λ (x : Round). holds x.after) r [] here (All-nil (λ (x : Round). holds x.after)));
}

pub late_now : (rounds : List Round) (since now : Instant) (holds : Boxes → Type 0) → LastsSince rounds since holds → IsAt rounds now → HasPassed max_wait since now → IsLate rounds holds
late_now rounds since now holds lasts at passed = record { some = rounds; more = []; is = sym (append-nil rounds); since = since; now = now; lasts = lasts; at = at; passed = passed }

late_more : (rounds : List Round) (r : Round) (holds : Boxes → Type 0) → IsLate rounds holds → IsLate (rounds ++ r ∷ []) holds
late_more rounds r holds late = record {
  some = late.some;
  more = late.more ++ r ∷ [];
  is = ap (λ (l : List Round). l ++ r ∷ []) late.is ∙ append_assoc late.some late.more (r ∷ []);
  since = late.since;
  now = late.now;
  lasts = late.lasts;
  at = late.at;
  passed = late.passed;
}

module _ {T : Type 0} (begins : Option Ways → Bool) (ways : T → Option Ways) (full failed : T → Type 0) where
  cause_more : (rounds : List Round) (r : Round) (k : ℕ) (box : Box) (stream : T) (rest : List ℕ) → IsCause ways full failed rounds k box stream rest → IsCause ways full failed (rounds ++ r ∷ []) k box stream rest
  cause_more rounds r k box stream rest (inl over) = inl over
  cause_more rounds r k box stream rest (inr (inl (some, inl broken))) = inr (inl (some, inl broken))
  cause_more rounds r k box stream rest (inr (inl (some, inr (no_more, late)))) = inr (inl (some, inr (no_more, late_more rounds r (λ boxes. IsStuck ways full failed boxes k) late)))
  cause_more rounds r k box stream rest (inr (inr (none, inl idle))) = inr (inr (none, inl idle))
  cause_more rounds r k box stream rest (inr (inr (none, inr (unwhole, (part, some, begun, late))))) = inr (inr (none, inr (unwhole, (part, some, begun, late_more rounds r (HoldsFrom part k) late))))

  let_go_more : (rounds : List Round) (r : Round) (k : ℕ) (box : Box) → IsLetGo ways full failed rounds k box → IsLetGo ways full failed (rounds ++ r ∷ []) k box
  let_go_more rounds r k box gone = record { stream = gone.stream; rest = gone.rest; since = gone.since; why = cause_more rounds r k box gone.stream gone.rest gone.why }

  -- whoever was let go by the rounds so far was so by one more
  pub suits_more : (rounds : List Round) (r : Round) (clients : Clients T) (boxes : Boxes) → Suits begins ways full failed rounds clients boxes → Suits begins ways full failed (rounds ++ r ∷ []) clients boxes
  suits_more rounds r clients boxes suits = record {
    boxed = suits.boxed;
    given = suits.given;
    apart = suits.apart;
    fresh = suits.fresh;
    ended = λ n box is. elim (suits.ended n box is) [ inl held ↦ inl held | inr gone ↦ inr (let_go_more rounds r n box gone) ];
    parted = suits.parted;
  }

  holds_at : (boxes : Boxes) (n : ℕ) (o : Option Box) (b : Box) (part inbox : List ℕ) → boxes n ≡ o → IsThere begins o b → b.held ≡ inbox → BeginsWith inbox part → part ≢ [] → HoldsFrom part n boxes
  holds_at boxes n None b part inbox is there held begun some = absurd (some (no_front part begun.0 (sym begun.1 ∙ sym held ∙ there.1)))
  holds_at boxes n (Some x) b part inbox is there held begun some = (b, is ∙ ap Some (sym there), subst (λ l. BeginsWith l part) (sym held) begun)

  pub holds_of : (boxes : Boxes) (c : Client T) (part : List ℕ) → IsBoxed begins ways boxes c → c.connection.is_closing ≡ false → BeginsWith c.connection.held part → part ≢ [] → HoldsFrom part c.serial boxes
  holds_of boxes c part b open_still begun some = holds_at boxes c.serial (boxes c.serial) b.box part c.connection.held refl b.there (b.held (b.over ∙ open_still)) begun some

  -- one of which nothing but its stream changed
  pub waited_same : (rounds : List Round) (c d : Client T) → d.serial ≡ c.serial → d.connection.held ≡ c.connection.held → d.connection.unsent ≡ c.connection.unsent → d.times ≡ c.times → IsWaitedFor begins ways full failed rounds c → IsWaitedFor begins ways full failed rounds d
  waited_same rounds c d serial inbox outbox times waited = record {
    waits = elim waited.waits [
      | inl none ↦ inl (outbox ∙ none.0, ap (λ (x : Times). batch_since x) times ∙ none.1)
      | inr some ↦ inr ((λ none. some.0 (sym outbox ∙ none)), subst (λ (x : Times). IsSome (batch_since x)) (sym times) some.1)
    ];
    part = λ since is.
        let its = waited.part since (ap (λ (x : Times). x.message) (sym times) ∙ is) in
        (its.0, its.1, subst (λ l. BeginsWith l its.0) (sym inbox) its.2, subst (λ n. LastsSince rounds since (HoldsFrom its.0 n)) (sym serial) its.3);
    batch = λ since is.
        subst (λ n. LastsSince rounds since (λ boxes. IsStuck ways full failed boxes n)) (sym serial) (waited.batch since (ap (λ (x : Times). batch_since x) (sym times) ∙ is));
  }
