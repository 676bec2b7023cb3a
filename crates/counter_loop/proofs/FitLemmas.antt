-- Connections that are let in and let go, so that nobody who is there is forgotten.
use Rattle.std.proofs.Common.{◌≡◌, ◌≢◌, ◌⊎◌, ◌+◌, ◌≤◌, ℕ, Bool, true, false, List, [], ◌∷◌, ◌++◌, inl, inr, Option, Some, None, sym, ap, subst, ◌∙◌, arith}
use Rattle.std.proofs.lemmas.Bool.{cases_eq}
use Rattle.std.specs.Prelude.{IsSome, slice_index_or}
use Rattle.std.specs.declared.time.Instant.{Instant}
use Rattle.slab.specs.Slab.{Updates, get, with_value}
use Rattle.reports.specs.Report.{BeginsWith}
use Rattle.http_connection.specs.Parts.{ConnectionParts, opened}
use Rattle.counter_loop.specs.Boxes.{AreParted, Drains, HoldsWhole, IsBoxed, IsCause, IsOut, IsPartedAfter, IsStuck, MayGo, Suits}
use Rattle.counter_loop.specs.Ends.{HasPassed, IsTooLate, batch_since, max_wait}
use Rattle.counter_loop.specs.Round.{HoldsFrom, IsAt, Round}
use Rattle.counter_loop.specs.Rounds.{Fits, IsMinded, IsWaitedFor, StaysFit, StaysFitAt}
use Rattle.counter_loop.specs.Turns.{Box, Boxes, nothing_yet}
use Rattle.counter_door.specs.Ways.{Ways}
use Rattle.counter_loop.specs.declared.client.Client.{Client}
use Rattle.counter_loop.specs.declared.client.WaitsFor.TheVariants as For
use Rattle.counter_loop.specs.declared.clients.Clients.{Clients}
use Rattle.counter_loop.proofs.BoxLemmas.{some_same}
use Rattle.counter_loop.proofs.EndLemmas.{late_now, waited_same}
use Rattle.counter_loop.proofs.PartedLemmas.{parted_removed}
use Rattle.counter_loop.proofs.SuitLemmas.{begun, boxed_by, drained_there, fewer, fewer_by, left_after, left_or_out, nobody, not_taken, true_or_false, written}

module _ {T : Type 0} (begins : Option Ways → Bool) (ways : T → Option Ways) (full failed : T → Type 0) where
  -- one that began holds nothing
  minded_new : (c : Client T) → c.connection ≡ opened → IsMinded begins ways full failed c
  minded_new c is_new closing = (λ whole. absurd (whole.0 (ap (λ (x : ConnectionParts). x.held) is_new)), λ some. absurd (some (ap (λ (x : ConnectionParts). x.unsent) is_new)))

  -- and is waited for in nothing
  waited_new : (rounds : List Round) (c : Client T) → c.connection ≡ opened → c.times.message ≡ None → batch_since c.times ≡ None → IsWaitedFor begins ways full failed rounds c
  waited_new rounds c is_new message batch = record {
    waits = inl (ap (λ (x : ConnectionParts). x.unsent) is_new, batch);
    part = λ since is. let e : None ≡ Some since = sym message ∙ is in absurd cc;
    batch = λ since is. let e : None ≡ Some since = sym batch ∙ is in absurd cc;
  }

  -- ---- one that is late

  -- bytes wait, of which its stream took no more since
  late_bytes : (rounds : List Round) (now : Instant) (c : Client T) (box : Box) → IsAt rounds now → IsMinded begins ways full failed c → IsWaitedFor begins ways full failed rounds c → c.connection.is_closing ≡ false
      → ((since : Instant) × (batch_since c.times ≡ Some since) × HasPassed max_wait since now) → IsCause ways full failed rounds c.serial box c.stream c.connection.unsent
  late_bytes rounds now c box at minds waited open_still (since, is, passed) = elim waited.waits [
    | inl none ↦ let e : None ≡ Some since = sym none.1 ∙ is in absurd cc
    | inr some ↦ inr (inl (some.0, inr ((minds open_still).1 some.0, late_now rounds since now (λ boxes. IsStuck ways full failed boxes c.serial) (waited.batch since is) at passed)))
  ]

  -- a message is held in part, as it was since
  late_part : (rounds : List Round) (now : Instant) (c : Client T) (box : Box) → IsAt rounds now → IsMinded begins ways full failed c → IsWaitedFor begins ways full failed rounds c → c.connection.is_closing ≡ false → c.waits_for ≢ For.Visit
      → box.held ≡ c.connection.held → batch_since c.times ≡ None → ((since : Instant) × (c.times.message ≡ Some since) × HasPassed max_wait since now) → IsCause ways full failed rounds c.serial box c.stream c.connection.unsent
  late_part rounds now c box at minds waited open_still other held no_lot (since, is, passed) = elim waited.waits [
    | inl none ↦
        let its = waited.part since is in
        inr (inr (
          none.0,
          inr (
            λ whole. elim ((minds open_still).0 (subst HoldsWhole held whole)) [ inl waits ↦ other waits | inr some ↦ some none.0 ],
            (its.0, its.1, subst (λ l. BeginsWith l its.0) (sym held) its.2, late_now rounds since now (HoldsFrom its.0 c.serial) its.3 at passed),
          ),
        ))
    | inr some ↦ let e : false ≡ true = subst IsSome no_lot some.1 in absurd cc
  ]

  open_cause : (rounds : List Round) (now : Instant) (boxes : Boxes) (c : Client T) → IsAt rounds now → (b : IsBoxed begins ways boxes c) → IsMinded begins ways full failed c → IsWaitedFor begins ways full failed rounds c
      → c.connection.is_closing ≡ false → c.waits_for ≢ For.Visit → IsTooLate now c.times → IsCause ways full failed rounds c.serial b.box c.stream c.connection.unsent
  open_cause rounds now boxes c at b minds waited open_still other (inl bytes) = late_bytes rounds now c b.box at minds waited open_still bytes
  open_cause rounds now boxes c at b minds waited open_still other (inr (no_lot, part)) = late_part rounds now c b.box at minds waited open_still other (b.held (b.over ∙ open_still)) no_lot part

  late_cause : (rounds : List Round) (now : Instant) (boxes : Boxes) (c : Client T) → IsAt rounds now → (b : IsBoxed begins ways boxes c) → IsMinded begins ways full failed c
      → (c.connection.is_closing ≡ false → IsWaitedFor begins ways full failed rounds c) → (c.connection.is_closing ≡ true) ⊎ ((c.waits_for ≢ For.Visit) × IsTooLate now c.times) → IsCause ways full failed rounds c.serial b.box c.stream c.connection.unsent
  late_cause rounds now boxes c at b minds waited (inl closing) = inl (b.over ∙ closing)
  late_cause rounds now boxes c at b minds waited (inr (other, late)) = elim (true_or_false c.connection.is_closing) [
    | inl closing ↦ inl (b.over ∙ closing)
    | inr open_still ↦ open_cause rounds now boxes c at b minds (waited open_still) open_still other late
  ]

  pub fit_late : (now : Instant) (old new : Clients T) (key : ℕ) → new.next ≡ old.next → Updates old.slab new.slab key None → IsPartedAfter old.parted.log.items new.parted.log.items (get old.slab key)
      → ((c : Client T) → get old.slab key ≡ Some c → (c.connection.is_closing ≡ true) ⊎ ((c.waits_for ≢ For.Visit) × IsTooLate now c.times)) → StaysFitAt begins ways full failed now old new
  fit_late now old new key next updates items late rounds boxes at fits =
      let left = left_after begins ways full failed old.slab new.slab key updates in
      record {
        suits = fewer_by begins ways full failed rounds boxes old new (omega (arith, next)) (parted_removed begins ways old new boxes key updates next items (boxed_by begins ways full failed rounds old boxes fits.suits)) left (λ k c got. elim (cases_eq k key) [
          | inl same ↦ inr (λ b. late_cause rounds now boxes c at b (fits.minded k c got) (fits.timed k c got) (late c (ap (get old.slab) (sym same) ∙ got)))
          | inr differs ↦ inl (updates.others k differs ∙ got)
        ]) fits.suits;
        minded = λ k c got. fits.minded k c (left k c got);
        timed = λ k c got. fits.timed k c (left k c got);
      }

  -- one on which nothing is under way may be let go
  pub idle_out : (c : Client T) → (c.connection.held ≡ []) × (c.connection.unsent ≡ []) → IsOut failed c
  idle_out c none = inr none

  -- those that are left are as they were, and the others were let go
  fit_fewer : (old new : Clients T) → old.next ≤ new.next → ((rounds : List Round) (boxes : Boxes) → Suits begins ways full failed rounds old boxes → AreParted begins ways new boxes)
      → ((key : ℕ) (c : Client T) → get new.slab key ≡ Some c → get old.slab key ≡ Some c)
      → ((key : ℕ) (c : Client T) → get old.slab key ≡ Some c → (get new.slab key ≡ Some c) ⊎ IsOut failed c) → StaysFit begins ways full failed old new
  fit_fewer old new next parted left either rounds boxes fits = record {
    suits = fewer begins ways full failed old new next parted left either rounds boxes fits.suits;
    minded = λ key c got. fits.minded key c (left key c got);
    timed = λ key c got. fits.timed key c (left key c got);
  }

  pub fit_removed : (old new : Clients T) (key : ℕ) → new.next ≡ old.next → Updates old.slab new.slab key None → IsPartedAfter old.parted.log.items new.parted.log.items (get old.slab key) → MayGo failed old key
      → StaysFit begins ways full failed old new
  fit_removed old new key next updates items out =
      fit_fewer old new (omega (arith, next)) (λ rounds boxes suits. parted_removed begins ways old new boxes key updates next items (boxed_by begins ways full failed rounds old boxes suits))
      (left_after begins ways full failed old.slab new.slab key updates) (left_or_out begins ways full failed old.slab new.slab key updates out)

  -- one that was not taken in
  pub fit_refused : (old new : Clients T) (stream : T) → ((key : ℕ) → get new.slab key ≡ get old.slab key) → new.next ≡ old.next + 1 → new.parted.log.items ≡ old.parted.log.items ++ stream ∷ [] → begins (ways stream) ≡ true
      → StaysFit begins ways full failed old new
  fit_refused old new stream slab next items begun_so =
      fit_fewer old new (omega (arith, next)) (not_taken begins ways full failed old new stream slab next items begun_so) (λ key c got. sym (slab key) ∙ got) (λ key c got. inl (slab key ∙ got))

  pub fit_nobody : (rounds : List Round) (clients : Clients T) → clients.slab.slots ≡ [] → clients.next ≡ 0 → clients.parted.log.items ≡ [] → Fits begins ways full failed rounds clients nothing_yet
  fit_nobody rounds clients none next items =
      let nowhere : (key : ℕ) (c : Client T) → get clients.slab key ≡ Some c → ⊥ = λ key c got. (let e : None ≡ Some c = sym (ap (λ l. slice_index_or l key None) none) ∙ got in absurd cc) in
      record {
        suits = nobody begins ways full failed rounds clients none next items;
        minded = λ key c got. absurd (nowhere key c got);
        timed = λ key c got. absurd (nowhere key c got);
      }

  -- one began, under the next number
  pub fit_begun : (old new : Clients T) (key : ℕ) (c : Client T) → get old.slab key ≡ None → Updates old.slab new.slab key (Some c) → new.next ≡ old.next + 1 → new.parted ≡ old.parted → c.serial ≡ old.next → c.connection ≡ opened
      → (c.times.message ≡ None) × (batch_since c.times ≡ None) → begins (ways c.stream) ≡ true → StaysFit begins ways full failed old new
  fit_begun old new key c vacant updates next parted serial is_new times begun_so rounds boxes fits =
      let its : (at : ℕ) (d : Client T) → get new.slab at ≡ Some d → (c ≡ d) ⊎ (get old.slab at ≡ Some d) = λ at d got. elim (cases_eq at key) [
        | inl same ↦ inl (some_same c d c (sym updates.changed ∙ ap (get new.slab) (sym same) ∙ got))
        | inr differs ↦ inr (sym (updates.others at differs) ∙ got)
      ] in
      record {
        suits = begun begins ways full failed old new key c vacant updates next parted serial is_new begun_so rounds boxes fits.suits;
        minded = λ at d got. elim (its at d got) [
          | inl is ↦ subst (λ (x : Client T). IsMinded begins ways full failed x) is (minded_new c is_new)
          | inr was ↦ fits.minded at d was
        ];
        timed = λ at d got open_still. elim (its at d got) [
          | inl is ↦ subst (λ (x : Client T). IsWaitedFor begins ways full failed rounds x) is (waited_new rounds c is_new times.0 times.1)
          | inr was ↦ fits.timed at d was open_still
        ];
      }

  -- one was asked to be reported
  pub fit_registered : (old new : Clients T) (key : ℕ) (c d : Client T) → get old.slab key ≡ Some c → new.slab ≡ with_value old.slab key d → new.next ≡ old.next → new.parted ≡ old.parted → Drains ways c d
      → d.waits_for ≡ c.waits_for → d.connection.unsent ≡ c.connection.unsent → d.times ≡ c.times → (full c.stream → full d.stream) → StaysFit begins ways full failed old new
  fit_registered old new key c d was is next parted drains waits outbox times still rounds boxes fits =
      let updates = written begins ways full failed old new key c d was is in
      let its : (at : ℕ) (e : Client T) → get new.slab at ≡ Some e → ((at ≡ key) × (d ≡ e)) ⊎ (get old.slab at ≡ Some e) = λ at e got. elim (cases_eq at key) [
        | inl same ↦ inl (same, some_same d e d (sym updates.changed ∙ ap (get new.slab) (sym same) ∙ got))
        | inr differs ↦ inr (sym (updates.others at differs) ∙ got)
      ] in
      let mine : IsMinded begins ways full failed d = λ closing.
      let minds = fits.minded key c was (sym drains.closing ∙ closing) in (
        λ whole. elim (minds.0 (subst HoldsWhole drains.held whole)) [
          | inl visit ↦ inl (waits ∙ visit)
          | inr some ↦ inr (λ none. some (sym outbox ∙ none))
        ],
        λ some. still (minds.1 (λ none. some (outbox ∙ none))),
      ) in
      record {
        suits = drained_there begins ways full failed old new key c d was is next parted drains rounds boxes fits.suits;
        minded = λ at e got. elim (its at e got) [
          | inl here ↦ subst (λ (x : Client T). IsMinded begins ways full failed x) here.1 mine
          | inr there ↦ fits.minded at e there
        ];
        timed = λ at e got open_still. elim (its at e got) [
          | inl here ↦ subst (λ (x : Client T). IsWaitedFor begins ways full failed rounds x) here.1
              (waited_same begins ways full failed rounds c d drains.serial drains.held outbox times (fits.timed key c was (sym drains.closing ∙ ap (λ (x : Client T). x.connection.is_closing) here.1 ∙ open_still)))
          | inr there ↦ fits.timed at e there open_still
        ];
      }
