-- Connections that are visited one after another.
use Rattle.std.proofs.Common.{◌≡◌, ◌⊎◌, ◌+◌, ◌<◌, ◌≤◌, ℕ, Bool, List, [], ◌∷◌, ◌++◌, inl, inr, Option, Some, None, refl, sym, ap, subst, ◌∙◌, arith, Contains, append-nil, get_or, length, take}
use Rattle.std.specs.Prelude.{⊤, IsSome}
use Rattle.std.proofs.lemmas.Bool.{cases_eq}
use Rattle.std.proofs.lemmas.List.Elements.{Contains-push_cases}
use Rattle.std.proofs.lemmas.List.{take_all, take_more}
use Rattle.std.specs.declared.time.Instant.{Instant}
use Rattle.slab.specs.Slab.{Updates, get, with_value}
use Rattle.slab.proofs.SlabLemmas.{Updates-with_value}
use Rattle.store_rows.specs.Status.{Status}
use Rattle.counter_loop.specs.Boxes.{Drains, called}
use Rattle.counter_door.specs.Readiness.{IsReadAt, Reports, with_reports}
use Rattle.counter_loop.specs.Rounds.{GoOn, IsCalled, IsDue, IsRound, RoundsOn}
use Rattle.counter_loop.specs.Served.{EachIsServed, IsThereAfter}
use Rattle.counter_door.specs.Ways.{Ways}
use Rattle.counter_loop.specs.declared.client.Client.{Client}
use Rattle.counter_loop.specs.declared.client.WaitsFor.{WaitsFor}
use Rattle.counter_loop.specs.declared.client.WaitsFor.TheVariants as For
use Rattle.counter_loop.specs.declared.clients.Clients.{Clients}
use Rattle.counter_door.specs.declared.readiness.Ready.{Ready}
use Rattle.counter_door.specs.declared.readiness.Ready.TheVariants.{Connection, Door, End}
use Rattle.counter_loop.proofs.BoxLemmas.{some_same}
use Rattle.counter_loop.proofs.EndLemmas.{timed_uncalled}
use Rattle.counter_loop.proofs.ReportLemmas.{Shows, reports_by, with_more, with_none, with_then}
use Rattle.counter_loop.proofs.SuitLemmas.{apart_called, same_serial, suits_called, was_called}

pub waits_or_not : (w : WaitsFor) → (w ≡ For.Visit) ⊎ (w ≡ For.Visit → ⊥)
waits_or_not For.Client = inr (λ is. let e : For.Client ≡ For.Visit = is in absurd cc)
waits_or_not For.Visit = inl refl
waits_or_not For.Nothing = inr (λ is. let e : For.Nothing ≡ For.Visit = is in absurd cc)

pub contains_none : {X : Type 0} (x : X) → Contains [] x → ⊥
contains_none x (k, small, is) = omega (arith, small)

module _ {T E : Type 0} (begins : Option Ways → Bool) (ways : T → Option Ways) (used_up full failed : T → Type 0) (now : Instant) (status : E → Status) (users : E → List ℕ → Option ℕ) (may_give : E → ℕ → E → Type 0) where
  abbrev Round : (ℕ → Client T → Type 0) → Clients T → Clients T → E → E → Type 0
  Round = IsRound begins ways used_up full failed now status users may_give

  -- those that were there before a round are those of which there may be turns
  pub held_before : (is_due : ℕ → Client T → Type 0) (from to : Clients T) (old new : E) (n key : ℕ) (d : Client T) (o : Option (Client T)) → Round is_due from to old new → get to.slab key ≡ Some d → d.serial ≡ n
      → get from.slab key ≡ o → (c : Client T) × (get from.slab key ≡ Some c) × (c.serial ≡ n)
  held_before is_due from to old new n key d None round got serial was = let e : None ≡ Some d = sym (round.none key was) ∙ got in absurd cc
  held_before is_due from to old new n key d (Some c) round got serial was = (
    c,
    was,
    elim (round.either key c was) [
      | inl same ↦ ap (λ (x : Client T). x.serial) (some_same c d c (sym same ∙ got)) ∙ serial
      | inr is ↦ let there : IsThereAfter ways used_up full failed now (Contains round.by c.serial) c (Some d) = subst (λ o. IsThereAfter ways used_up full failed now (Contains round.by c.serial) c o) got is in sym there.0 ∙ serial
    ],
  )

  -- each of some kind was visited
  pub round_of_each : (is : Client T → Type 0) (from to : Clients T) (old new : E) → ((c : Client T) → is c ⊎ (is c → ⊥)) → EachIsServed begins ways used_up full failed now status users may_give is from to old new
      → Round (λ k c. is c) from to old new
  round_of_each is from to old new whether served = record {
    by = served.by;
    visited = served.visited;
    each = served.each;
    either = λ key c got. elim (whether c) [
      | inl so ↦ inr (served.each key c got so)
      | inr not ↦ inl (served.others key c got not)
    ];
    none = served.none;
    alone = λ n has. let held = served.alone n has in (held.0, held.1, held.2, held.4);
    few = served.few;
    next = served.next;
  }

  -- it waits for a visit, which is no more than that
  drains_uncalled : (c d : Client T) → Drains ways (called c) d → Drains ways c d
  drains_uncalled c d drains = record {
    serial = drains.serial;
    held = drains.held;
    closing = drains.closing;
    out = drains.out;
    unsent = drains.unsent;
    read_since = drains.read_since;
    none_received = drains.none_received;
    moved = drains.moved;
  }

  uncalled : (are_turns : Type 0) (c : Client T) (o : Option (Client T)) → IsThereAfter ways used_up full failed now are_turns (called c) o → IsThereAfter ways used_up full failed now are_turns c o
  uncalled are_turns c None (inl turned) = inl turned
  uncalled are_turns c None (inr (d, drains, done, tried)) = inr (d, drains_uncalled c d drains, done, tried)
  uncalled are_turns c (Some d) there = (there.0, there.1, there.2, λ open_still. timed_uncalled now c d (there.3 open_still))

  -- of those who wait for a visit after the reports: they were reported, or waited before
  its_visit : (ready : List Ready) (from mid to : Clients T) (old new : E) → IsCalled (λ key. Contains ready (Connection key)) from mid
      → EachIsServed begins ways used_up full failed now status users may_give (λ c. c.waits_for ≡ For.Visit) mid to old new
      → (by : List ℕ) (key : ℕ) (c : Client T) → get from.slab key ≡ Some c → IsDue ready key c
      → ((e : Client T) → get mid.slab key ≡ Some e → e.waits_for ≡ For.Visit → IsThereAfter ways used_up full failed now (Contains by e.serial) e (get to.slab key)) → IsThereAfter ways used_up full failed now (Contains by c.serial) c (get to.slab key)
  its_visit ready from mid to old new calls served by key c got (inl has) each = uncalled (Contains by c.serial) c (get to.slab key) (each (called c) (calls.each key c got has) refl)
  its_visit ready from mid to old new calls served by key c got (inr waits) each = elim (calls.either key c got) [
    | inl same ↦ each c same waits
    | inr now ↦ uncalled (Contains by c.serial) c (get to.slab key) (each (called c) now refl)
  ]

  pub round_called : (ready : List Ready) (from mid to : Clients T) (old new : E) → IsCalled (λ key. Contains ready (Connection key)) from mid
      → EachIsServed begins ways used_up full failed now status users may_give (λ c. c.waits_for ≡ For.Visit) mid to old new → Round (IsDue ready) from to old new
  round_called ready from mid to old new calls served = record {
    by = served.by;
    visited = λ rounds boxes suits. served.visited rounds boxes (suits_called begins ways full failed _ from mid calls rounds boxes suits);
    each = λ key c got due. its_visit ready from mid to old new calls served served.by key c got due (λ e now waits. served.each key e now waits);
    either = λ key c got. elim (calls.either key c got) [
      | inl same ↦ elim (waits_or_not c.waits_for) [
        | inl waits ↦ inr (served.each key c same waits)
        | inr not ↦ inl (served.others key c same not)
      ]
      | inr now ↦ inr (uncalled (Contains served.by c.serial) c (get to.slab key) (served.each key (called c) now refl))
    ];
    none = λ key none. served.none key (calls.none key none);
    alone = λ n has.
        let held = served.alone n has in
        let was = was_called begins ways full failed _ from mid calls held.0 (get from.slab held.0) held.1 refl held.2 in
        (held.0, was.0, was.1, same_serial begins ways full failed was.0 held.1 was.2 ∙ held.4);
    few = λ apart. served.few (apart_called begins ways full failed _ from mid calls apart);
    next = served.next ∙ calls.next;
  }

  pub round_fewer : (one is_due : ℕ → Client T → Type 0) (from to : Clients T) (old new : E) → ((key : ℕ) (c : Client T) → is_due key c → one key c) → Round one from to old new → Round is_due from to old new
  round_fewer one is_due from to old new more round = record {
    by = round.by;
    visited = round.visited;
    each = λ key c got due. round.each key c got (more key c due);
    either = round.either;
    none = round.none;
    alone = round.alone;
    few = round.few;
    next = round.next;
  }

  -- of the same reports
  pub round_by : (seen ready : List Ready) (from to : Clients T) (old new : E) → seen ≡ ready → Round (IsDue seen) from to old new → Round (IsDue ready) from to old new
  round_by seen ready from to old new is round = subst (λ l. Round (IsDue l) from to old new) is round

module _ {T E : Type 0} (begins : Option Ways → Bool) (ways : T → Option Ways) (used_up full failed : T → Type 0) (shows : Shows) (status : E → Status) (users : E → List ℕ → Option ℕ) (may_give : E → ℕ → E → Type 0) where
  abbrev RoundAt : Instant → List Ready → Clients T → Clients T → E → E → Type 0
  RoundAt now ready = IsRound begins ways used_up full failed now status users may_give (IsDue ready)

  rounds_more : (kept : Option (List (List Ready))) (readies : List (List Ready)) (ready : List Ready) (now : Instant) (from mid to : Clients T) (old at new : E)
      → RoundsOn begins ways used_up full failed shows status users may_give kept readies from mid old at → IsReadAt shows (with_reports kept readies) ready now → RoundAt now ready mid to at new
      → RoundsOn begins ways used_up full failed shows status users may_give kept (readies ++ ready ∷ []) from to old new
  rounds_more kept [] ready now from mid to old at new (is, same) shown round = (
    now,
    subst (λ o. IsReadAt shows o ready now) (with_none kept) shown,
    to,
    new,
    subst (λ (c : Clients T). RoundAt now ready c to old new) is (subst (λ (e : E). RoundAt now ready mid to e new) same round),
    (refl, refl),
  )
  rounds_more kept (first ∷ readies) ready now from mid to old at new (then, was_shown, between, begun, one, rest) shown round = (
    then,
    was_shown,
    between,
    begun,
    one,
    rounds_more (with_reports kept (first ∷ [])) readies ready now between mid to begun at new rest (subst (λ o. IsReadAt shows o ready now) (sym (with_then kept (first ∷ []) readies)) shown) round,
  )

  -- a first round, in which each was due, and others since, each by the reports of a wait
  pub record Goes (now : Instant) (from to : Clients T) (old new : E) (a b : Option (List (List Ready))) : Type 0 where
    pub mid : Clients T
    pub at : E
    pub begun : IsRound begins ways used_up full failed now status users may_give (λ _ _. ⊤) from mid old at
    pub later : List (List Ready)
    pub rounds : RoundsOn begins ways used_up full failed shows status users may_give a later mid to at new
    pub reported : b ≡ with_reports a later

  pub goes_first : (now : Instant) (from to : Clients T) (old new : E) (a : Option (List (List Ready))) → IsRound begins ways used_up full failed now status users may_give (λ _ _. ⊤) from to old new
      → Goes now from to old new a a
  goes_first now from to old new a round = record {
    mid = to;
    at = new;
    begun = round;
    later = [];
    rounds = (refl, refl);
    reported = sym (with_none a);
  }

  pub goes_more : (now next : Instant) (ready : List Ready) (from mid to : Clients T) (old at new : E) (a b c : Option (List (List Ready))) → Goes now from mid old at a b → c ≡ with_reports b (ready ∷ [])
      → IsReadAt shows b ready next → RoundAt next ready mid to at new → Goes now from to old new a c
  goes_more now next ready from mid to old at new a b c goes reported shown round = record {
    mid = goes.mid;
    at = goes.at;
    begun = goes.begun;
    later = goes.later ++ ready ∷ [];
    rounds = rounds_more a goes.later ready next goes.mid mid to goes.at at new goes.rounds (subst (λ o. IsReadAt shows o ready next) goes.reported shown) round;
    reported = with_more a b c goes.later ready goes.reported reported;
  }

  pub go_on : (now : Instant) (from to : Clients T) (old new : E) (a b : Option (List (List Ready))) → Goes now from to old new a b
      → GoOn begins ways used_up full failed shows status users may_give now from to old new a b
  go_on now from to old new a b goes = record {
    mid = goes.mid;
    at = goes.at;
    begun = goes.begun;
    later = goes.later;
    rounds = goes.rounds;
    last = [];
    one = omega arith;
    reported = subst (Reports a b) (sym (append-nil goes.later)) (reports_by a b goes.later goes.reported);
  }

  -- and then a wait that failed
  pub go_failed : (now : Instant) (ready : List Ready) (from to : Clients T) (old new : E) (a b c : Option (List (List Ready))) → Goes now from to old new a b → c ≡ with_reports b (ready ∷ [])
      → GoOn begins ways used_up full failed shows status users may_give now from to old new a c
  go_failed now ready from to old new a b c goes reported = record {
    mid = goes.mid;
    at = goes.at;
    begun = goes.begun;
    later = goes.later;
    rounds = goes.rounds;
    last = ready ∷ [];
    one = omega arith;
    reported = reports_by a c (goes.later ++ ready ∷ []) (with_more a b c goes.later ready goes.reported reported);
  }

-- by the same clock
module _ {T E : Type 0} (begins : Option Ways → Bool) (ways : T → Option Ways) (used_up full failed : T → Type 0) (before shows : Shows) (status : E → Status) (users : E → List ℕ → Option ℕ) (may_give : E → ℕ → E → Type 0) where
  pub rounds_same : (kept : Option (List (List Ready))) (readies : List (List Ready)) (from to : Clients T) (old new : E) → shows ≡ before → RoundsOn begins ways used_up full failed shows status users may_give kept readies from to old new
      → RoundsOn begins ways used_up full failed before status users may_give kept readies from to old new
  rounds_same kept readies from to old new same rounds = subst (λ (f : Shows). RoundsOn begins ways used_up full failed f status users may_give kept readies from to old new) same rounds

  abbrev pub go_on_same : (now : Instant) (from to : Clients T) (old new : E) (a b : Option (List (List Ready))) → shows ≡ before → GoOn begins ways used_up full failed shows status users may_give now from to old new a b
      → GoOn begins ways used_up full failed before status users may_give now from to old new a b
  go_on_same now from to old new a b same goes = record {
    mid = goes.mid;
    at = goes.at;
    begun = goes.begun;
    later = goes.later;
    rounds = rounds_same a goes.later goes.mid to goes.at new same goes.rounds;
    last = goes.last;
    one = goes.one;
    reported = goes.reported;
  }

-- ---- who waits for a visit

module _ {T : Type 0} where
  pub called_none : (is : ℕ → Type 0) (clients : Clients T) → ((key : ℕ) → is key → ⊥) → IsCalled is clients clients
  called_none is clients nobody = record { next = refl; parted = refl; each = λ key c got so. absurd (nobody key so); either = λ key c got. inl got; none = λ key none. none }

  pub called_absent : (key : ℕ) (clients : Clients T) → get clients.slab key ≡ None → IsCalled (λ k. k ≡ key) clients clients
  called_absent key clients none = record {
    next = refl;
    parted = refl;
    each = λ k c got same. let x : None ≡ Some c = sym none ∙ ap (get clients.slab) (sym same) ∙ got in absurd cc;
    either = λ k c got. inl got;
    none = λ k none. none;
  }

  pub called_fewer : (one is : ℕ → Type 0) (from to : Clients T) → ((key : ℕ) → is key → one key) → IsCalled one from to → IsCalled is from to
  called_fewer one is from to more calls = record { next = calls.next; parted = calls.parted; each = λ key c got so. calls.each key c got (more key so); either = calls.either; none = calls.none }

  still_called : (is : ℕ → Type 0) (from to : Clients T) (key : ℕ) (c : Client T) → IsCalled is from to → get from.slab key ≡ Some (called c) → get to.slab key ≡ Some (called c)
  still_called is from to key c calls got = elim (calls.either key (called c) got) [ inl same ↦ same | inr now ↦ now ]

  pub called_then : (one two is : ℕ → Type 0) (from mid to : Clients T) → ((key : ℕ) → is key → one key ⊎ two key) → IsCalled one from mid → IsCalled two mid to → IsCalled is from to
  called_then one two is from mid to split here later = record {
    next = later.next ∙ here.next;
    parted = later.parted ∙ here.parted;
    each = λ key c got so. elim (split key so) [
      | inl first ↦ still_called two mid to key c later (here.each key c got first)
      | inr second ↦ elim (here.either key c got) [
        | inl same ↦ later.each key c same second
        | inr now ↦ still_called two mid to key c later now
      ]
    ];
    either = λ key c got. elim (here.either key c got) [
      | inl same ↦ later.either key c same
      | inr now ↦ inr (still_called two mid to key c later now)
    ];
    none = λ key none. later.none key (here.none key none);
  }

  pub called_one : (key : ℕ) (from to : Clients T) (c d : Client T) → get from.slab key ≡ Some c → to.slab ≡ with_value from.slab key d → to.next ≡ from.next → to.parted ≡ from.parted → d ≡ called c → IsCalled (λ k. k ≡ key) from to
  called_one key from to c d was written next parted is =
      let updates : Updates from.slab to.slab key (Some d) = subst (λ s. Updates from.slab s key (Some d)) (sym written) (Updates-with_value from.slab key d (subst IsSome (sym was) refl)) in
      let here : (k : ℕ) (e : Client T) → get from.slab k ≡ Some e → k ≡ key → get to.slab k ≡ Some (called e) =
      λ k e got same. ap (get to.slab) same ∙ updates.changed ∙ ap Some is ∙ ap (λ (x : Client T). Some (called x)) (some_same c e c (sym was ∙ ap (get from.slab) (sym same) ∙ got)) in
      record {
        next = next;
        parted = parted;
        each = here;
        either = λ k e got. elim (cases_eq k key) [ inl same ↦ inr (here k e got same) | inr differs ↦ inl (updates.others k differs ∙ got) ];
        none = λ k none. elim (cases_eq k key) [
          | inl same ↦ let x : None ≡ Some c = sym none ∙ ap (get from.slab) same ∙ was in absurd cc
          | inr differs ↦ updates.others k differs ∙ none
        ];
      }

abbrev pub key_of : Ready → ℕ
key_of (Connection key) = key
key_of Door = 0
key_of End = 0

-- of those that were reported up to one more
pub one_reported : (ready : List Ready) (n key : ℕ) (d : Ready) → n < length ready → Contains (take (n + 1) ready) (Connection key) → Contains (take n ready) (Connection key) ⊎ (get_or ready n d ≡ Connection key)
one_reported ready n key d within has =
    Contains-push_cases (take n ready) (get_or ready n d) (Connection key) (subst (λ l. Contains l (Connection key)) (take_more ready n d within) has)

-- all of them
pub all_reported : (ready : List Ready) (n key : ℕ) → length ready ≤ n → Contains ready (Connection key) → Contains (take n ready) (Connection key)
all_reported ready n key past has = subst (λ l. Contains l (Connection key)) (sym (take_all n ready past)) has
