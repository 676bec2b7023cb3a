-- From round to round, so that nobody is left out.
use Rattle.std.proofs.Common.{◌≡◌, ◌≢◌, ◌⊎◌, ◌+◌, ◌<◌, ◌≤◌, ℕ, Bool, true, false, List, [], ◌∷◌, ◌++◌, length, inl, inr, Option, Some, None, refl, sym, ap, subst, ◌∙◌, Contains, append-nil, append_assoc, arith, map}
use Rattle.std.proofs.lemmas.Bool.{cases_lt}
use Rattle.std.specs.Prelude.{⊤}
use Rattle.std.specs.declared.time.Instant.{Instant}
use Rattle.slab.specs.Slab.{get}
use Rattle.reports.specs.Report.{BeginsWith}
use Rattle.store_rows.specs.Status.{Status}
use Rattle.counter_loop.specs.Attended.{AreOfDoor, EndAs}
use Rattle.counter_loop.specs.Boxes.{AreAllParted, AreServed, HoldsWhole, IsBoxed, IsCause, IsHeld, IsLetGo, IsOver, IsRefused, IsStuck, Suits, WasLetGo}
use Rattle.counter_loop.specs.Ends.{AreTimed, IsTimed, batch_since}
use Rattle.counter_door.specs.Readiness.{IsReadAt, Reports, with_reports}
use Rattle.counter_loop.specs.Round.{AreRead, HoldsFrom, LastsSince, Round, Standing, joined, reports_of}
use Rattle.counter_loop.specs.Rounds.{AreAttendedInRounds, AreRounds, AreServedAtDoor, AreServedInRounds, Fits, GoOn, IsDue, IsFair, IsMinded, IsRound, IsWaitedFor, RoundsOn, StaysFitAt}
use Rattle.counter_loop.specs.Served.{IsLeft, IsThereAfter, most_turns, turns_of}
use Rattle.counter_loop.specs.Turns.{AreTurns, StoreAndClock, Box, Boxes, IsThere, Turn, as_store_and_clock, nothing_yet, with_box}
use Rattle.counter_door.specs.Ways.{Ways}
use Rattle.counter_loop.specs.declared.client.Client.{Client}
use Rattle.counter_loop.specs.declared.client.WaitsFor.TheVariants as For
use Rattle.counter_loop.specs.declared.clients.Clients.{Clients}
use Rattle.counter_door.specs.declared.readiness.Ready.{Ready}
use Rattle.counter_door.specs.declared.parted.Parted.{Parted}
use Rattle.counter_loop.proofs.AttendedLemmas.{attended, attended_none, none_attended}
use Rattle.counter_loop.proofs.BoxLemmas.{boxed_drains, gone_of, over_of, refused_of, some_same, still_over, still_refused, stuck_of, turn_or_same}
use Rattle.counter_loop.proofs.EndLemmas.{begins_then, holds_of, lasts_begun, lasts_more, suits_more}
use Rattle.counter_loop.proofs.HandedLemmas.{each_end, no_turn}
use Rattle.counter_loop.proofs.ReportLemmas.{Shows, read_more, reports_none, with_then}
use Rattle.counter_loop.proofs.RoundLemmas.{round_fewer}
use Rattle.counter_loop.proofs.SuitLemmas.{all_ended, true_or_false}

no_box : {A : Type 0} (o : Option A) (x : A) → o ≡ None → o ≡ Some x → ⊥
no_box o x none some = let e : None ≡ Some x = sym none ∙ some in absurd cc

-- ---- turns

module _ {S C : Type 0} (begins : Option Ways → Bool) (status : S → Status) (users : List ℕ → Option ℕ) (may_give : C → ℕ → C → Type 0) where
  joined_turns : (boxes between after : Boxes) (a b c : StoreAndClock S C) (ts us : List Turn) → AreTurns begins status users may_give boxes a ts between b → AreTurns begins status users may_give between b us after c
      → AreTurns begins status users may_give boxes a (ts ++ us) after c
  joined_turns boxes between after a b c [] us here later =
      subst (λ x. AreTurns begins status users may_give x a us after c) here.0 (subst (λ s. AreTurns begins status users may_give between s us after c) here.1 later)
  joined_turns boxes between after a b c (t ∷ ts) us (before, there, next, mid, turn, rest) later =
      (before, there, next, mid, turn, joined_turns (with_box boxes t.who next) between after mid b c ts us rest later)

-- ---- who stands under a key

module _ {T : Type 0} (ways : T → Option Ways) where
  abbrev pub standing : Client T → Standing
  standing c = record { who = c.serial; ways = ways c.stream }

  abbrev pub standing_of : Option (Client T) → Option Standing
  standing_of None = None
  standing_of (Some c) = Some (standing c)

  stands : (o : Option (Client T)) (s : Standing) → standing_of o ≡ Some s → (c : Client T) × (o ≡ Some c) × (standing c ≡ s)
  stands None s is = let e : None ≡ Some s = is in absurd cc
  stands (Some c) s is = (c, refl, some_same (standing c) s s is)

module _ {T E : Type 0} (begins : Option Ways → Bool) (ways : T → Option Ways) (used_up full failed : T → Type 0) (status : E → Status) (users : E → List ℕ → Option ℕ) (may_give : E → ℕ → E → Type 0) where
  -- as a round says of one that was visited, and of one of which a whole message is held
  abbrev pub SaysSince : Option Ways → Boxes → List ℕ → ℕ → Type 0
  SaysSince before after by n = Contains by n ⊎ (IsOver after n ⊎ IsRefused ways full failed before after n)

  abbrev pub Says : Boxes → List ℕ → ℕ → Type 0
  Says after by n = Contains by n ⊎ (IsOver after n ⊎ IsStuck ways full failed after n)

  says_so : (before : Option Ways) (after : Boxes) (by : List ℕ) (n : ℕ) → SaysSince before after by n → Says after by n
  says_so before after by n (inl are_turns) = inl are_turns
  says_so before after by n (inr (inl over)) = inr (inl over)
  says_so before after by n (inr (inr refused)) = inr (inr refused.stuck)

  left_so : (before : Option Ways) (after : Boxes) (by : List ℕ) (d : Client T) (n : ℕ) → d.serial ≡ n → IsBoxed begins ways after d → d.waits_for ≢ For.Nothing
      → IsLeft ways used_up full failed (Contains by n) before d → SaysSince before after by n
  left_so before after by d n serial b waits left = elim (true_or_false d.connection.is_closing) [
    | inl closing ↦ inr (inl (over_of begins ways full failed after d n serial b closing))
    | inr goes ↦
        let out = left waits goes in
        elim out.turned [
          | inl are_turns ↦ inl are_turns
          | inr some ↦ inr (inr (refused_of begins ways full failed after d n before serial b some.0 (inl (out.written some.0)) some.1))
        ]
  ]

  -- ---- one round

  pub record IsOneRound (rounds : List Round) (boxes : Boxes) (old : E) (r : Round) (new : E) : Type 0 where
    pub are_turns : AreTurns begins status (users old) may_give boxes (as_store_and_clock old) r.turns r.after (as_store_and_clock new)
    pub same : users new ≡ users old
    pub fair : IsFair (IsRefused ways full failed) (IsStuck ways full failed) (WasLetGo ways full failed rounds) boxes r

  module _ (now : Instant) (ready : List Ready) (from visited : Clients T) (rounds : List Round) (boxes : Boxes) (old new : E) (round : IsRound begins ways used_up full failed now status users may_give (IsDue ready) from visited old new)
      (fits : Fits begins ways full failed rounds from boxes) where
    abbrev pub served_by : AreServed begins ways full failed status users may_give round.by rounds boxes visited old new
    served_by = round.visited rounds boxes fits.suits

    abbrev pub There : Client T → Option (Client T) → Type 0
    There c o = IsThereAfter ways used_up full failed now (Contains round.by c.serial) c o

    -- one that is there after it was visited, or stays as it was
    visited_or_same : (key : ℕ) (c d : Client T) → get from.slab key ≡ Some c → get visited.slab key ≡ Some d → (c ≡ d) ⊎ There c (Some d)
    visited_or_same key c d was got = elim (round.either key c was) [
      | inl same ↦ inl (some_same c d c (sym same ∙ got))
      | inr is ↦ inr (subst (λ o. There c o) got is)
    ]

    minded_visited : (key : ℕ) (d : Client T) (o : Option (Client T)) → get visited.slab key ≡ Some d → get from.slab key ≡ o → IsMinded begins ways full failed d
    minded_visited key d None got was = absurd (no_box (get visited.slab key) d (round.none key was) got)
    minded_visited key d (Some c) got was = elim (visited_or_same key c d was got) [
      | inl same ↦ subst (λ (x : Client T). IsMinded begins ways full failed x) same (fits.minded key c was)
      | inr there ↦ (λ closing. let out = there.2 there.1 closing in (λ whole. out.owed whole.1, out.written))
    ]

    abbrev pub its_round : Round
    its_round = record { ready = ready; now = now; there = λ key. standing_of ways (get from.slab key); turns = served_by.turns; after = served_by.after }

    -- ---- what is waited for

    stuck_still : (d : Client T) (since : Instant) → IsBoxed begins ways served_by.after d → (d.connection.unsent ≢ [] → full d.stream) → AreTimed d → batch_since d.times ≡ Some since → IsStuck ways full failed served_by.after d.serial
    stuck_still d since b written (inl none) is = let e : None ≡ Some since = sym none.1 ∙ is in absurd cc
    stuck_still d since b written (inr some) is = stuck_of begins ways full failed served_by.after d d.serial refl b some.0 (inl (written some.0))

    -- one that was not visited
    waited_still : (c : Client T) → IsBoxed begins ways served_by.after c → c.connection.is_closing ≡ false → IsMinded begins ways full failed c → IsWaitedFor begins ways full failed rounds c
        → IsWaitedFor begins ways full failed (rounds ++ its_round ∷ []) c
    waited_still c b open_still minds waited = record {
      waits = waited.waits;
      part = λ since is.
          let its = waited.part since is in
          (its.0, its.1, its.2, lasts_more rounds its_round since (HoldsFrom its.0 c.serial) its.3 (holds_of begins ways full failed served_by.after c its.0 b open_still its.2 its.1));
      batch = λ since is. lasts_more rounds its_round since (λ boxes. IsStuck ways full failed boxes c.serial) (waited.batch since is) (stuck_still c since b (minds open_still).1 waited.waits is);
    }

    -- one that was visited
    waited_visited : (c d : Client T) → d.serial ≡ c.serial → IsBoxed begins ways served_by.after d → d.connection.is_closing ≡ false → (d.connection.unsent ≢ [] → full d.stream) → IsTimed now c d → IsWaitedFor begins ways full failed rounds c
        → IsWaitedFor begins ways full failed (rounds ++ its_round ∷ []) d
    waited_visited c d serial b open_still written timed waited = record {
      waits = timed.waits;
      part = λ since is. elim (timed.keeps.part since is) [
        | inl kept ↦
            let its = waited.part since kept.0 in
            let begun : BeginsWith d.connection.held its.0 = begins_then its.0 c.connection.held d.connection.held its.2 kept.1 in (
              its.0,
              its.1,
              begun,
              lasts_more rounds its_round since (HoldsFrom its.0 d.serial) (subst (λ n. LastsSince rounds since (HoldsFrom its.0 n)) (sym serial) its.3)
                  (holds_of begins ways full failed served_by.after d its.0 b open_still begun its.1),
            )
        | inr begun ↦
            let whole : BeginsWith d.connection.held d.connection.held = ([], sym (append-nil d.connection.held)) in
            (d.connection.held, begun.1, whole, lasts_begun rounds its_round since (HoldsFrom d.connection.held d.serial) begun.0 (holds_of begins ways full failed served_by.after d d.connection.held b open_still whole begun.1))
      ];
      batch = λ since is.
          let here = stuck_still d since b written timed.waits is in
          elim (timed.keeps.batch since is) [
            | inl kept ↦
                lasts_more rounds its_round since (λ boxes. IsStuck ways full failed boxes d.serial)
                (subst (λ n. LastsSince rounds since (λ boxes. IsStuck ways full failed boxes n)) (sym serial) (waited.batch since kept)) here
            | inr begun ↦ lasts_begun rounds its_round since (λ boxes. IsStuck ways full failed boxes d.serial) begun here
          ];
    }

    timed_visited : (key : ℕ) (d : Client T) (o : Option (Client T)) → get visited.slab key ≡ Some d → get from.slab key ≡ o → d.connection.is_closing ≡ false → IsWaitedFor begins ways full failed (rounds ++ its_round ∷ []) d
    timed_visited key d None got was open_still = absurd (no_box (get visited.slab key) d (round.none key was) got)
    timed_visited key d (Some c) got was open_still = elim (visited_or_same key c d was got) [
      | inl same ↦
          let its : IsWaitedFor begins ways full failed rounds d = subst (λ (x : Client T). IsWaitedFor begins ways full failed rounds x) same
          (fits.timed key c was (ap (λ (x : Client T). x.connection.is_closing) same ∙ open_still)) in
          waited_still d (served_by.suits.boxed key d got) open_still (subst (λ (x : Client T). IsMinded begins ways full failed x) same (fits.minded key c was)) its
      | inr there ↦
          let out = there.2 there.1 open_still in
          let timed = there.3 open_still in
          waited_visited c d there.0 (served_by.suits.boxed key d got) open_still out.written timed (fits.timed key c was timed.keeps.open_still)
    ]

    pub fit : Fits begins ways full failed (rounds ++ its_round ∷ []) visited served_by.after
    fit = record {
      suits = suits_more begins ways full failed rounds its_round visited served_by.after served_by.suits;
      minded = λ key d got. minded_visited key d (get from.slab key) got refl;
      timed = λ key d got. timed_visited key d (get from.slab key) got refl;
    }

    -- ---- who is left out

    -- one that was visited
    visited_so : (n key : ℕ) (c : Client T) (o : Option (Client T)) → get from.slab key ≡ Some c → c.serial ≡ n → get visited.slab key ≡ o → There c o → SaysSince (ways c.stream) served_by.after round.by n
    visited_so n key c None got serial now_there (inl are_turns) = inl (subst (Contains round.by) serial are_turns)
    visited_so n key c None got serial now_there (inr (d, drains, done, tried)) = elim (turn_or_same begins status (users old) may_give boxes served_by.after (as_store_and_clock old) (as_store_and_clock new) served_by.turns n served_by.are_turns) [
      | inl turned ↦ inl (subst (λ l. Contains l n) served_by.by turned)
      | inr same ↦
          elim (gone_of begins ways full failed boxes d n (ways c.stream) (drains.serial ∙ serial) (boxed_drains begins ways boxes c d drains (fits.suits.boxed key c got)) done tried) [
            | inl over ↦ inr (inl (still_over begins ways full failed boxes served_by.after n same over))
            | inr refused ↦ inr (inr (still_refused begins ways full failed boxes served_by.after n (ways c.stream) same refused))
          ]
    ]
    visited_so n key c (Some d) got serial now_there there =
        left_so (ways c.stream) served_by.after round.by d n (there.0 ∙ serial) (served_by.suits.boxed key d now_there) there.1
        (subst (λ m. IsLeft ways used_up full failed (Contains round.by m) (ways c.stream) d) serial there.2)

    -- one of which a whole message is held
    held_so : (n key : ℕ) (c : Client T) (box : Box) → get from.slab key ≡ Some c → c.serial ≡ n → boxes n ≡ Some box → box.is_over ≡ false → HoldsWhole box.held → Says served_by.after round.by n
    held_so n key c box got serial was open_still whole =
        let b = fits.suits.boxed key c got in
        let same : b.box ≡ box = subst (λ o. IsThere begins o b.box) (ap boxes serial ∙ was) b.there in
        let open_box : b.box.is_over ≡ false = ap (λ (x : Box). x.is_over) same ∙ open_still in
        let minds = fits.minded key c got (sym b.over ∙ open_box) in
        let whole_of : HoldsWhole c.connection.held = subst HoldsWhole (ap (λ (x : Box). x.held) (sym same) ∙ b.held open_box) whole in
        elim (minds.0 whole_of) [
          | inl waits ↦ says_so (ways c.stream) served_by.after round.by n (visited_so n key c (get visited.slab key) got serial refl (round.each key c got (inr waits)))
          | inr some ↦ elim (round.either key c got) [
            | inl still ↦ inr (inr (stuck_of begins ways full failed served_by.after c n serial (served_by.suits.boxed key c still) some (inl (minds.1 some))))
            | inr there ↦ says_so (ways c.stream) served_by.after round.by n (visited_so n key c (get visited.slab key) got serial refl there)
          ]
        ]

    -- one that was let go while bytes waited
    gone_stuck : (n : ℕ) (box : Box) → boxes n ≡ Some box → (gone : IsLetGo ways full failed rounds n box) → gone.rest ≢ [] → full gone.stream ⊎ failed gone.stream → Says served_by.after round.by n
    gone_stuck n box was gone some refused = elim (turn_or_same begins status (users old) may_give boxes served_by.after (as_store_and_clock old) (as_store_and_clock new) served_by.turns n served_by.are_turns) [
      | inl turned ↦ inl (subst (λ l. Contains l n) served_by.by turned)
      | inr same ↦ inr (inr (record { box = box; there = same ∙ was; stream = gone.stream; rest = gone.rest; since = gone.since; some = some; refused = refused }))
    ]

    gone_so : (n : ℕ) (box : Box) → boxes n ≡ Some box → box.is_over ≡ false → HoldsWhole box.held → (gone : IsLetGo ways full failed rounds n box) → IsCause ways full failed rounds n box gone.stream gone.rest → Says served_by.after round.by n
    gone_so n box was open_still whole gone (inl over) = let e : true ≡ false = sym over ∙ open_still in absurd cc
    gone_so n box was open_still whole gone (inr (inl (some, inl broken))) = gone_stuck n box was gone some (inr broken)
    gone_so n box was open_still whole gone (inr (inl (some, inr (no_more, late)))) = gone_stuck n box was gone some (inl no_more)
    gone_so n box was open_still whole gone (inr (inr (none, inl idle))) = absurd (whole.0 idle)
    gone_so n box was open_still whole gone (inr (inr (none, inr (unwhole, part)))) = absurd (unwhole whole)

    -- whoever had a turn before
    whole_so : (n : ℕ) (box : Box) → boxes n ≡ Some box → box.is_over ≡ false → HoldsWhole box.held → Says served_by.after round.by n
    whole_so n box was open_still whole = elim (fits.suits.ended n box was) [
      | inl held ↦ held_so n held.0 held.1 box held.2 held.3 was open_still whole
      | inr gone ↦ gone_so n box was open_still whole gone gone.why
    ]

    pub one_round : IsOneRound rounds boxes old its_round new
    one_round = record {
      are_turns = served_by.are_turns;
      same = served_by.same;
      fair = record {
        held = λ k box is. elim (fits.suits.ended k box is) [
          | inl held ↦ inl (held.0, standing ways held.1, ap (standing_of ways) held.2, held.3)
          | inr gone ↦ inr (box, is, gone)
        ];
        reported = λ key s there has.
            let its = stands ways (get from.slab key) s there in
            subst (λ l. SaysSince s.ways served_by.after l s.who) (sym served_by.by)
            (subst (λ (x : Standing). SaysSince x.ways served_by.after round.by x.who) its.2 (visited_so its.0.serial key its.0 (get visited.slab key) its.1 refl refl (round.each key its.0 its.1 (inl has))));
        whole = λ k box is open_still holds. subst (λ l. Says served_by.after l k) (sym served_by.by) (whole_so k box is open_still holds);
        alone = λ k has.
            let held : IsHeld begins ways from k = round.alone k (subst (λ l. Contains l k) served_by.by has) in
            (held.0, standing ways held.1, ap (standing_of ways) held.2, held.3);
        few = λ k. subst (λ l. turns_of k l ≤ most_turns) (sym served_by.by) (round.few fits.suits.apart k);
      };
    }

  -- ---- round after round

  abbrev pub Chain : List Round → Boxes → E → List Round → Boxes → E → Type 0
  Chain before boxes old [] after new = (after ≡ boxes) × (new ≡ old)
  Chain before boxes old (r ∷ rounds) after new = (at : E) × IsOneRound before boxes old r at × Chain (before ++ r ∷ []) r.after at rounds after new

  one_more : (before : List Round) (boxes between : Boxes) (old at new : E) (rounds : List Round) (r : Round) → Chain before boxes old rounds between at → IsOneRound (before ++ rounds) between at r new
      → Chain before boxes old (rounds ++ r ∷ []) r.after new
  one_more before boxes between old at new [] r (is_between, is_at) one = (
    new,
    subst (λ (l : List Round). IsOneRound l boxes old r new) (append-nil before)
        (subst (λ (b : Boxes). IsOneRound (before ++ []) b old r new) is_between (subst (λ (e : E). IsOneRound (before ++ []) between e r new) is_at one)),
    (refl, refl),
  )
  one_more before boxes between old at new (q ∷ rounds) r (begun, here, rest) one =
      (begun, here, one_more (before ++ q ∷ []) q.after between begun at new rounds r rest (subst (λ (l : List Round). IsOneRound l between at r new) (sym (append_assoc before (q ∷ []) rounds)) one))

  pub chain_rounds : (before : List Round) (boxes after : Boxes) (old new : E) (rounds : List Round) → Chain before boxes old rounds after new
      → AreRounds begins (IsRefused ways full failed) (IsStuck ways full failed) (WasLetGo ways full failed) status (users old) may_give before boxes (as_store_and_clock old) rounds after (as_store_and_clock new)
  chain_rounds before boxes after old new [] (is, same) = (is, ap as_store_and_clock same)
  chain_rounds before boxes after old new (r ∷ rounds) (at, one, rest) = (
    as_store_and_clock at,
    one.are_turns,
    one.fair,
    subst (λ u. AreRounds begins (IsRefused ways full failed) (IsStuck ways full failed) (WasLetGo ways full failed) status u may_give (before ++ r ∷ []) r.after (as_store_and_clock at) rounds after (as_store_and_clock new)) one.same
        (chain_rounds (before ++ r ∷ []) r.after after at new rounds rest),
  )

  pub chain_turns : (before : List Round) (boxes after : Boxes) (old new : E) (rounds : List Round) → Chain before boxes old rounds after new → AreTurns begins status (users old) may_give boxes (as_store_and_clock old) (joined rounds) after (as_store_and_clock new)
  chain_turns before boxes after old new [] (is, same) = (is, ap as_store_and_clock same)
  chain_turns before boxes after old new (r ∷ rounds) (at, one, rest) =
      joined_turns begins status (users old) may_give boxes r.after after (as_store_and_clock old) (as_store_and_clock at) (as_store_and_clock new) r.turns (joined rounds) one.are_turns
      (subst (λ u. AreTurns begins status u may_give r.after (as_store_and_clock at) (joined rounds) after (as_store_and_clock new)) one.same (chain_turns (before ++ r ∷ []) r.after after at new rounds rest))

  reports_more : (rounds : List Round) (r : Round) → reports_of (rounds ++ r ∷ []) ≡ reports_of rounds ++ r.ready ∷ []
  reports_more [] r = refl
  reports_more (q ∷ rounds) r = ap (λ l. q.ready ∷ l) (reports_more rounds r)

  -- the rounds so far, by these reports, each at a reading of the clock, from no connection on
  pub record AreGoing (shows : Shows) (kept : Option (List (List Ready))) (readies : List (List Ready)) (clients : Clients T) (old new : E) : Type 0 where
    pub rounds : List Round
    pub by : reports_of rounds ≡ readies
    pub read : AreRead shows kept rounds
    pub after : Boxes
    pub chain : Chain [] nothing_yet old rounds after new
    pub fits : Fits begins ways full failed rounds clients after

  pub going_none : (shows : Shows) (kept : Option (List (List Ready))) (clients : Clients T) (s : E) → Fits begins ways full failed [] clients nothing_yet → AreGoing shows kept [] clients s s
  going_none shows kept clients s fits = record { rounds = []; by = refl; read = tt; after = nothing_yet; chain = (refl, refl); fits = fits }

  pub going_on : (shows : Shows) (now : Instant) (kept : Option (List (List Ready))) (readies : List (List Ready)) (ready : List Ready) (from visited to : Clients T) (old at new : E) → AreGoing shows kept readies from old at
      → IsReadAt shows (with_reports kept readies) ready now
      → IsRound begins ways used_up full failed now status users may_give (IsDue ready) from visited at new → StaysFitAt begins ways full failed now visited to → AreGoing shows kept (readies ++ ready ∷ []) to old new
  going_on shows now kept readies ready from visited to old at new going shown round stays =
      let r = its_round now ready from visited going.rounds going.after at new round going.fits in
      record {
        rounds = going.rounds ++ r ∷ [];
        by = reports_more going.rounds r ∙ ap (λ l. l ++ ready ∷ []) going.by;
        read = read_more shows kept going.rounds r going.read (subst (λ l. IsReadAt shows (with_reports kept l) ready now) (sym going.by) shown);
        after = r.after;
        chain = one_more [] nothing_yet going.after old at new going.rounds r going.chain (one_round now ready from visited going.rounds going.after at new round going.fits);
        fits = stays (going.rounds ++ r ∷ []) r.after (going.rounds, r, refl, refl) (fit now ready from visited going.rounds going.after at new round going.fits);
      }

  pub going_all : (shows : Shows) (kept : Option (List (List Ready))) (readies more : List (List Ready)) (from to : Clients T) (old at new : E) → AreGoing shows kept readies from old at
      → RoundsOn begins ways used_up full failed shows status users may_give (with_reports kept readies) more from to at new → AreGoing shows kept (readies ++ more) to old new
  going_all shows kept readies [] from to old at new going (is, same) =
      subst (λ l. AreGoing shows kept l to old new) (sym (append-nil readies)) (subst (λ (c : Clients T). AreGoing shows kept readies c old new) (sym is) (subst (λ (e : E). AreGoing shows kept readies from old e) (sym same) going))
  going_all shows kept readies (ready ∷ more) from to old at new going (now, shown, mid, between, round, rest) =
      subst (λ l. AreGoing shows kept l to old new) (append_assoc readies (ready ∷ []) more)
      (going_all shows kept (readies ++ ready ∷ []) more mid to old between new (going_on shows now kept readies ready from mid mid old at between going shown round (λ rounds boxes at fits. fits))
      (subst (λ o. RoundsOn begins ways used_up full failed shows status users may_give o more mid to between new) (with_then kept readies (ready ∷ [])) rest))

  -- the rounds by which the serving ends
  pub going_to_end : (shows : Shows) (now : Instant) (kept : Option (List (List Ready))) (readies : List (List Ready)) (ready : List Ready) (from to : Clients T) (old at new : E) (a b : Option (List (List Ready)))
      → AreGoing shows kept readies from old at → a ≡ with_reports kept (readies ++ ready ∷ []) → IsReadAt shows (with_reports kept readies) ready now
      → (goes : GoOn begins ways used_up full failed shows status users may_give now from to at new a b) → AreGoing shows kept (readies ++ ready ∷ goes.later) to old new
  going_to_end shows now kept readies ready from to old at new a b going stated shown goes =
      subst (λ l. AreGoing shows kept l to old new) (append_assoc readies (ready ∷ []) goes.later)
      (going_all shows kept (readies ++ ready ∷ []) goes.later goes.mid to old goes.at new (going_on shows now kept readies ready from goes.mid goes.mid old at goes.at going shown
      (round_fewer begins ways used_up full failed now status users may_give (λ _ _. ⊤) (IsDue ready) from goes.mid at goes.at (λ key x due. tt) goes.begun) (λ rounds boxes at fits. fits))
      (subst (λ o. RoundsOn begins ways used_up full failed shows status users may_give o goes.later goes.mid to goes.at new) stated goes.rounds))

  abbrev pub attended_so : (shows : Shows) (readies last : List (List Ready)) (clients : Clients T) (old new : E) (a b : Option (List (List Ready))) → AreGoing shows a readies clients old new → length last ≤ 1 → Reports a b (readies ++ last)
      → AreAttendedInRounds begins (IsRefused ways full failed) (IsStuck ways full failed) (WasLetGo ways full failed) status (users old) may_give shows a b (as_store_and_clock old) (as_store_and_clock new)
  attended_so shows readies last clients old new a b going one reported = record {
    attended = attended begins status (users old) may_give (as_store_and_clock old) (as_store_and_clock new) (joined going.rounds) going.after
        (chain_turns [] nothing_yet going.after old new going.rounds going.chain) (all_ended begins ways full failed going.rounds clients going.after going.fits.suits);
    rounds = going.rounds;
    all = refl;
    are_turns = chain_rounds [] nothing_yet going.after old new going.rounds going.chain;
    read = going.read;
    last = last;
    one = one;
    reported = subst (λ l. Reports a b (l ++ last)) (sym going.by) reported;
  }

  -- and those that are held then
  pub served_so : (shows : Shows) (readies last : List (List Ready)) (clients : Clients T) (old new : E) (a b : Option (List (List Ready))) → AreGoing shows a readies clients old new → length last ≤ 1 → Reports a b (readies ++ last)
      → AreServedInRounds begins ways full failed status (users old) may_give shows a b clients old new
  served_so shows readies last clients old new a b going one reported = record { is = attended_so shows readies last clients old new a b going one reported; suits = going.fits.suits }

  pub served_now : (shows : Shows) (readies : List (List Ready)) (clients : Clients T) (old new : E) (a b : Option (List (List Ready))) → AreGoing shows a readies clients old new → Reports a b readies
      → AreServedInRounds begins ways full failed status (users old) may_give shows a b clients old new
  served_now shows readies clients old new a b going reported = served_so shows readies [] clients old new a b going (omega arith) (subst (Reports a b) (sym (append-nil readies)) reported)

  -- the rounds from one to another give nobody a number
  next_on : (shows : Shows) (kept : Option (List (List Ready))) (readies : List (List Ready)) (from to : Clients T) (old new : E) → RoundsOn begins ways used_up full failed shows status users may_give kept readies from to old new → to.next ≡ from.next
  next_on shows kept [] from to old new (is, same) = ap (λ (c : Clients T). c.next) is
  next_on shows kept (ready ∷ readies) from to old new (now, shown, mid, at, round, rest) = next_on shows (with_reports kept (ready ∷ [])) readies mid to at new rest ∙ round.next

  pub next_to_end : (shows : Shows) (now : Instant) (from to : Clients T) (old new : E) (a b : Option (List (List Ready))) → GoOn begins ways used_up full failed shows status users may_give now from to old new a b → to.next ≡ from.next
  next_to_end shows now from to old new a b goes = next_on shows a goes.later goes.mid to goes.at new goes.rounds ∙ goes.begun.next

  pub served_none : (shows : Shows) (clients : Clients T) (s : E) (a : Option (List (List Ready))) → Fits begins ways full failed [] clients nothing_yet
      → AreServedInRounds begins ways full failed status (users s) may_give shows a a clients s s
  served_none shows clients s a fits = served_now shows [] clients s s a a (going_none shows a clients s fits) (reports_none a)

module _ {T E : Type 0} (begins : Option Ways → Bool) (ways : T → Option Ways) (full failed : T → Type 0) (status : E → Status) (users : List ℕ → Option ℕ) (may_give : E → ℕ → E → Type 0) where
  -- those that the door gave, as all of them were let go
  of_door : (given_old given_new : ℕ) (rounds : List Round) (held none : Clients T) (after : Boxes) (old new : StoreAndClock E E) (ts : List Turn) → given_new ≡ given_old + held.next → Suits begins ways full failed rounds held after
      → AreAllParted begins ways full failed held none → AreTurns begins status users may_give nothing_yet old ts after new → AreOfDoor begins given_old given_new (map ways none.parted.log.items) ts
  of_door given_old given_new rounds held none after old new ts given suits all turns =
      let p = all.parted rounds after suits in
      let next = all.next in
      let there : (k : ℕ) → k < none.next → Contains p.who k = λ k small. elim (p.all k small) [
        | inl still ↦ absurd (all.none still.0 still.1 still.2)
        | inr has ↦ has
      ] in
      record {
        who = p.who;
        distinct = p.distinct;
        all = λ k small. there k (omega (arith, next, given, small));
        given = λ k has. let small = (p.gone k has).0 in omega (arith, next, given, small);
        known = λ k has. elim (cases_lt k none.next) [
          | inl small ↦ there k small
          | inr more ↦ absurd (no_turn begins status users may_give k nothing_yet after old new ts (suits.fresh k (omega (arith, next, more))) turns has)
        ];
        each = each_end begins status users may_give ways old new after ts p.who none.parted.log.items turns p.each;
      }

  pub served_at_door : (shows : Shows) (a b : Option (List (List Ready))) (given_old given_new : ℕ) (held none : Clients T) (parted : Parted T) (old new : E) → given_new ≡ given_old + held.next
      → AreServedInRounds begins ways full failed status users may_give shows a b held old new → AreAllParted begins ways full failed held none → parted ≡ none.parted
      → AreServedAtDoor begins ways full failed status users may_give shows a b given_old given_new parted (as_store_and_clock old) (as_store_and_clock new)
  served_at_door shows a b given_old given_new held none parted old new given served all is = record {
    served = served.is;
    at_door = subst (λ (p : Parted T). AreOfDoor begins given_old given_new (map ways p.log.items) served.is.attended.turns) (sym is)
        (of_door given_old given_new served.is.rounds held none served.is.attended.after (as_store_and_clock old) (as_store_and_clock new) served.is.attended.turns given served.suits all served.is.attended.are_turns);
  }

  -- nobody came
  pub at_door_none : (shows : Shows) (a : Option (List (List Ready))) (given : ℕ) (parted : Parted T) (s : E) → parted.log.items ≡ []
      → AreServedAtDoor begins ways full failed status users may_give shows a a given given parted (as_store_and_clock s) (as_store_and_clock s)
  at_door_none shows a given parted s none = record {
    served = attended_none begins status users may_give (IsRefused ways full failed) (IsStuck ways full failed) (WasLetGo ways full failed) shows a (as_store_and_clock s);
    at_door = subst (λ (ts : List Turn). AreOfDoor begins given given (map ways parted.log.items) ts)
        (sym (none_attended begins status users may_give (IsRefused ways full failed) (IsStuck ways full failed) (WasLetGo ways full failed) shows a (as_store_and_clock s))) (record {
          who = [];
          distinct = tt;
          all = λ k small. absurd (omega (arith, small));
          given = λ k has. let small = has.1 in absurd (omega (arith, small));
          known = λ k has. let small = has.1 in absurd (omega (arith, small));
          each = subst (λ (l : List T). EndAs begins [] [] (map ways l)) (sym none) tt;
        });
  }
