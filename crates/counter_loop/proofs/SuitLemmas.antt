-- A table of connections in which one begins, one changes, or some are let go.
use Rattle.std.proofs.Common.{◌≡◌, ◌≢◌, ◌⊎◌, ◌+◌, ◌<◌, ◌≤◌, ℕ, Bool, false, true, List, inl, inr, [], ◌∷◌, ◌++◌, length, Option, Some, None, refl, sym, ap, subst, ◌∙◌, arith}
use Rattle.std.proofs.lemmas.Bool.{cases_eq, cases_lt}
use Rattle.std.proofs.lemmas.List.{get_or_past}
use Rattle.std.specs.Prelude.{IsSome, slice_index_or}
use Rattle.slab.specs.Slab.{Slab, Updates, get, with_value}
use Rattle.slab.proofs.SlabLemmas.{Updates-with_value}
use Rattle.store_rows.specs.Status.{Status}
use Rattle.counter_loop.specs.Attended.{IsSince}
use Rattle.counter_loop.specs.Turns.{Box, Boxes, IsThere, nothing_yet}
use Rattle.http_connection.specs.Parts.{ConnectionParts, opened}
use Rattle.counter_loop.specs.Boxes.{AreAllParted, AreApart, AreParted, AreVisited, Drains, IsBoxed, IsCause, IsHeld, IsLetGo, IsOut, IsPartedAfter, IsVisited, MayGo, StaysSuited, Suits, called}
use Rattle.counter_loop.specs.Round.{Round}
use Rattle.counter_loop.specs.Rounds.{IsCalled}
use Rattle.counter_door.specs.Ways.{Ways}
use Rattle.counter_loop.specs.declared.client.Client.{Client}
use Rattle.counter_loop.specs.declared.clients.Clients.{Clients}
use Rattle.counter_loop.proofs.BoxLemmas.{boxed_drains, boxed_there, some_same}
use Rattle.counter_loop.proofs.PartedLemmas.{AreBoxed, boxed_removed, parted_begun, parted_called, parted_changed, parted_none, parted_refused, parted_removed}
use Rattle.counter_door.proofs.WayLemmas.{moves_none}

abbrev pub HasEnd : Box → Type 0
HasEnd box = (last : Option Ways) × (rest : List ℕ) × IsSince box last rest

pub true_or_false : (b : Bool) → (b ≡ true) ⊎ (b ≡ false)
true_or_false true = inl refl
true_or_false false = inr refl

module _ {T : Type 0} (begins : Option Ways → Bool) (ways : T → Option Ways) (full failed : T → Type 0) where
  -- one that is held has its stream as that is
  end_of : (boxes : Boxes) (c : Client T) (n : ℕ) (box : Box) → c.serial ≡ n → boxes n ≡ Some box → IsBoxed begins ways boxes c → HasEnd box
  end_of boxes c n box serial is b =
      let same : b.box ≡ box = subst (λ o. IsThere begins o b.box) (ap boxes serial ∙ is) b.there in
      (ways c.stream, c.connection.unsent, subst (λ x. IsSince x (ways c.stream) c.connection.unsent) same b.since)

  pub all_ended : (rounds : List Round) (clients : Clients T) (boxes : Boxes) → Suits begins ways full failed rounds clients boxes → (n : ℕ) (box : Box) → boxes n ≡ Some box → HasEnd box
  all_ended rounds clients boxes suits n box is = elim (suits.ended n box is) [
    | inl held ↦ end_of boxes held.1 n box held.3 is (suits.boxed held.0 held.1 held.2)
    | inr gone ↦ (ways gone.stream, gone.rest, gone.since)
  ]

  -- what is said of one that may be let go is said of what there is of it
  cause_of : (rounds : List Round) (k : ℕ) (boxes : Boxes) (c : Client T) (b : IsBoxed begins ways boxes c) → IsOut failed c → IsCause ways full failed rounds k b.box c.stream c.connection.unsent
  cause_of rounds k boxes c b (inl (inl closing)) = inl (b.over ∙ closing)
  cause_of rounds k boxes c b (inl (inr broken)) = inr (inl (broken.0, inl broken.1))
  cause_of rounds k boxes c b (inr none) = elim (true_or_false c.connection.is_closing) [
    | inl closing ↦ inl (b.over ∙ closing)
    | inr open_still ↦ inr (inr (none.1, inl (b.held (b.over ∙ open_still) ∙ none.0)))
  ]

  let_go_of : (rounds : List Round) (boxes : Boxes) (c : Client T) (n : ℕ) (box : Box) → c.serial ≡ n → boxes n ≡ Some box → (b : IsBoxed begins ways boxes c) → IsCause ways full failed rounds n b.box c.stream c.connection.unsent
      → IsLetGo ways full failed rounds n box
  let_go_of rounds boxes c n box serial is b cause =
      let same : b.box ≡ box = subst (λ o. IsThere begins o b.box) (ap boxes serial ∙ is) b.there in
      subst (λ x. IsLetGo ways full failed rounds n x) same (record { stream = c.stream; rest = c.connection.unsent; since = b.since; why = cause })

  -- those that are left are as they were, and the others were let go for a cause
  pub fewer_by : (rounds : List Round) (boxes : Boxes) (old new : Clients T) → old.next ≤ new.next → AreParted begins ways new boxes → ((key : ℕ) (c : Client T) → get new.slab key ≡ Some c → get old.slab key ≡ Some c)
      → ((key : ℕ) (c : Client T) → get old.slab key ≡ Some c → (get new.slab key ≡ Some c) ⊎ ((b : IsBoxed begins ways boxes c) → IsCause ways full failed rounds c.serial b.box c.stream c.connection.unsent))
      → Suits begins ways full failed rounds old boxes → Suits begins ways full failed rounds new boxes
  fewer_by rounds boxes old new next parted left either suits = record {
    boxed = λ key c got. suits.boxed key c (left key c got);
    given = λ key c got. let small = suits.given key c (left key c got) in omega (arith, next, small);
    apart = λ i j c d here there same. suits.apart i j c d (left i c here) (left j d there) same;
    fresh = λ n above. suits.fresh n (omega (arith, next, above));
    ended = λ n box is. elim (suits.ended n box is) [
      | inl held ↦ elim (either held.0 held.1 held.2) [
        | inl still ↦ inl (held.0, held.1, still, held.3)
        | inr cause ↦
            let b = suits.boxed held.0 held.1 held.2 in
            inr (let_go_of rounds boxes held.1 n box held.3 is b (subst (λ m. IsCause ways full failed rounds m b.box held.1.stream held.1.connection.unsent) held.3 (cause b)))
      ]
      | inr gone ↦ inr gone
    ];
    parted = parted;
  }

  pub fewer : (old new : Clients T) → old.next ≤ new.next → ((rounds : List Round) (boxes : Boxes) → Suits begins ways full failed rounds old boxes → AreParted begins ways new boxes)
      → ((key : ℕ) (c : Client T) → get new.slab key ≡ Some c → get old.slab key ≡ Some c)
      → ((key : ℕ) (c : Client T) → get old.slab key ≡ Some c → (get new.slab key ≡ Some c) ⊎ IsOut failed c) → StaysSuited begins ways full failed old new
  fewer old new next parted left either rounds boxes suits =
      fewer_by rounds boxes old new next (parted rounds boxes suits) left (λ key c got. elim (either key c got) [ inl still ↦ inl still | inr out ↦ inr (λ b. cause_of rounds c.serial boxes c b out) ]) suits

  -- what is there of those that suit
  pub boxed_by : (rounds : List Round) (clients : Clients T) (boxes : Boxes) → Suits begins ways full failed rounds clients boxes → AreBoxed begins ways clients boxes
  boxed_by rounds clients boxes suits = record { boxed = suits.boxed; given = suits.given; apart = suits.apart; parted = suits.parted }

  -- one that was not taken in
  pub not_taken : (old new : Clients T) (stream : T) → ((key : ℕ) → get new.slab key ≡ get old.slab key) → new.next ≡ old.next + 1 → new.parted.log.items ≡ old.parted.log.items ++ stream ∷ []
      → begins (ways stream) ≡ true → (rounds : List Round) (boxes : Boxes) → Suits begins ways full failed rounds old boxes → AreParted begins ways new boxes
  not_taken old new stream slab next items begun rounds boxes suits = parted_refused begins ways old new boxes stream slab next items begun (suits.fresh old.next (omega arith)) suits.given suits.parted

  pub left_after : (old new : Slab (Client T)) (key : ℕ) → Updates old new key None → (at : ℕ) (c : Client T) → get new at ≡ Some c → get old at ≡ Some c
  left_after old new key updates at c got =
      elim (cases_eq at key) [
        | inl same ↦ let e : None ≡ Some c = sym updates.changed ∙ ap (get new) (sym same) ∙ got in absurd cc
        | inr differs ↦ sym (updates.others at differs) ∙ got
      ]

  pub left_or_out : (old new : Slab (Client T)) (key : ℕ) → Updates old new key None → ((c : Client T) → get old key ≡ Some c → IsOut failed c) → (at : ℕ) (c : Client T) → get old at ≡ Some c
      → (get new at ≡ Some c) ⊎ IsOut failed c
  left_or_out old new key updates out at c got =
      elim (cases_eq at key) [
        | inl same ↦ inr (out c (ap (get old) (sym same) ∙ got))
        | inr differs ↦ inl (updates.others at differs ∙ got)
      ]

  pub removed : (old new : Clients T) (key : ℕ) → new.next ≡ old.next → Updates old.slab new.slab key None → IsPartedAfter old.parted.log.items new.parted.log.items (get old.slab key) → MayGo failed old key
      → StaysSuited begins ways full failed old new
  removed old new key next updates items out =
      fewer old new (omega (arith, next)) (λ rounds boxes suits. parted_removed begins ways old new boxes key updates next items (boxed_by rounds old boxes suits)) (left_after old.slab new.slab key updates)
      (left_or_out old.slab new.slab key updates out)

  pub nobody : (rounds : List Round) (clients : Clients T) → clients.slab.slots ≡ [] → clients.next ≡ 0 → clients.parted.log.items ≡ [] → Suits begins ways full failed rounds clients nothing_yet
  nobody rounds clients none next items =
      let nowhere : (key : ℕ) (c : Client T) → get clients.slab key ≡ Some c → ⊥ = λ key c got. (let e : None ≡ Some c = ap (λ l. slice_index_or l key None) (sym none) ∙ got in absurd cc) in
      record {
        boxed = λ key c got. absurd (nowhere key c got);
        given = λ key c got. absurd (nowhere key c got);
        apart = λ i j c d here there same. absurd (nowhere i c here);
        fresh = λ n above. refl;
        ended = λ n box is. let e : None ≡ Some box = is in absurd cc;
        parted = parted_none begins ways clients nothing_yet next items;
      }

  -- one changed, and is there under its number as before
  pub changed : (rounds : List Round) (old new : Clients T) (boxes after : Boxes) (key : ℕ) (c d : Client T) → get old.slab key ≡ Some c → Updates old.slab new.slab key (Some d) → new.next ≡ old.next → new.parted ≡ old.parted → d.serial ≡ c.serial
      → ((n : ℕ) → n ≢ c.serial → after n ≡ boxes n) → IsBoxed begins ways after d → Suits begins ways full failed rounds old boxes → Suits begins ways full failed rounds new after
  changed rounds old new boxes after key c d was updates next parted serial others boxed suits =
      let here : (e : Client T) → get new.slab key ≡ Some e → d ≡ e = λ e got. some_same d e d (sym updates.changed ∙ got) in
      let there : (at : ℕ) (e : Client T) → at ≢ key → get new.slab at ≡ Some e → get old.slab at ≡ Some e = λ at e differs got. sym (updates.others at differs) ∙ got in
      let other : (at : ℕ) (e : Client T) → at ≢ key → get new.slab at ≡ Some e → e.serial ≢ c.serial = λ at e differs got same. differs (suits.apart at key e c (there at e differs got) was same) in
      record {
        boxed = λ at e got. elim (cases_eq at key) [
          | inl same ↦ subst (λ (x : Client T). IsBoxed begins ways after x) (here e (ap (get new.slab) (sym same) ∙ got)) boxed
          | inr differs ↦ boxed_there begins ways boxes after e (others e.serial (other at e differs got)) (suits.boxed at e (there at e differs got))
        ];
        given = λ at e got. elim (cases_eq at key) [
          | inl same ↦
              let is = ap (λ (x : Client T). x.serial) (here e (ap (get new.slab) (sym same) ∙ got)) in
              let small = suits.given key c was in
              omega (arith, is, serial, small, next)
          | inr differs ↦ let small = suits.given at e (there at e differs got) in omega (arith, small, next)
        ];
        apart = λ i j x y one two same. elim (cases_eq i key) [
          | inl i_same ↦ elim (cases_eq j key) [
            | inl j_same ↦ i_same ∙ sym j_same
            | inr j_differs ↦
                let is = ap (λ (z : Client T). z.serial) (here x (ap (get new.slab) (sym i_same) ∙ one)) in
                absurd (other j y j_differs two (sym same ∙ sym is ∙ serial))
          ]
          | inr i_differs ↦ elim (cases_eq j key) [
            | inl j_same ↦
                let is = ap (λ (z : Client T). z.serial) (here y (ap (get new.slab) (sym j_same) ∙ two)) in
                absurd (other i x i_differs one (same ∙ sym is ∙ serial))
            | inr j_differs ↦ suits.apart i j x y (there i x i_differs one) (there j y j_differs two) same
          ]
        ];
        fresh = λ n above.
            let small = suits.given key c was in
            others n (λ same. omega (arith, same, small, next, above)) ∙ suits.fresh n (omega (arith, next, above));
        ended = λ n box is. elim (cases_eq n c.serial) [
          | inl same ↦ inl (key, d, updates.changed, serial ∙ sym same)
          | inr differs ↦ elim (suits.ended n box (sym (others n differs) ∙ is)) [
            | inl held ↦ elim (cases_eq held.0 key) [
              | inl here ↦ absurd (differs (sym held.3 ∙ ap (λ (x : Client T). x.serial) (some_same held.1 c c (sym held.2 ∙ ap (get old.slab) here ∙ was))))
              | inr elsewhere ↦ inl (held.0, held.1, updates.others held.0 elsewhere ∙ held.2, held.3)
            ]
            | inr end ↦ inr end
          ]
        ];
        parted = parted_changed begins ways old new boxes after key c d was updates next parted serial others suits.parted;
      }

  -- one began, under the next number
  pub begun : (old new : Clients T) (key : ℕ) (c : Client T) → get old.slab key ≡ None → Updates old.slab new.slab key (Some c) → new.next ≡ old.next + 1 → new.parted ≡ old.parted → c.serial ≡ old.next → c.connection ≡ opened
      → begins (ways c.stream) ≡ true → StaysSuited begins ways full failed old new
  begun old new key c vacant updates next parted serial is_new begun_so rounds boxes suits =
      let here : (e : Client T) → get new.slab key ≡ Some e → c ≡ e = λ e got. some_same c e c (sym updates.changed ∙ got) in
      let there : (at : ℕ) (e : Client T) → at ≢ key → get new.slab at ≡ Some e → get old.slab at ≡ Some e = λ at e differs got. sym (updates.others at differs) ∙ got in
      let mine : IsBoxed begins ways boxes c = record {
        box = record { ways = ways c.stream; held = []; waits = []; is_over = false };
        there = subst (λ o. IsThere begins o (record { ways = ways c.stream; held = []; waits = []; is_over = false })) (sym (suits.fresh c.serial (omega (arith, serial)))) (begun_so, refl, refl, refl);
        over = sym (ap (λ (x : ConnectionParts). x.is_closing) is_new);
        held = λ open_still. sym (ap (λ (x : ConnectionParts). x.held) is_new);
        since = record { out = []; waits = sym (ap (λ (x : ConnectionParts). x.unsent) is_new); read_since = []; none_received = λ open_still. refl; moved = moves_none (ways c.stream) };
      } in
      record {
        boxed = λ at e got. elim (cases_eq at key) [
          | inl same ↦ subst (λ (x : Client T). IsBoxed begins ways boxes x) (here e (ap (get new.slab) (sym same) ∙ got)) mine
          | inr differs ↦ suits.boxed at e (there at e differs got)
        ];
        given = λ at e got. elim (cases_eq at key) [
          | inl same ↦ let is = ap (λ (x : Client T). x.serial) (here e (ap (get new.slab) (sym same) ∙ got)) in omega (arith, is, serial, next)
          | inr differs ↦ let small = suits.given at e (there at e differs got) in omega (arith, small, next)
        ];
        apart = λ i j x y one two same. elim (cases_eq i key) [
          | inl i_same ↦ elim (cases_eq j key) [
            | inl j_same ↦ i_same ∙ sym j_same
            | inr j_differs ↦
                let is = ap (λ (z : Client T). z.serial) (here x (ap (get new.slab) (sym i_same) ∙ one)) in
                let small = suits.given j y (there j y j_differs two) in
                absurd (omega (arith, is, serial, same, small))
          ]
          | inr i_differs ↦ elim (cases_eq j key) [
            | inl j_same ↦
                let is = ap (λ (z : Client T). z.serial) (here y (ap (get new.slab) (sym j_same) ∙ two)) in
                let small = suits.given i x (there i x i_differs one) in
                absurd (omega (arith, is, serial, same, small))
            | inr j_differs ↦ suits.apart i j x y (there i x i_differs one) (there j y j_differs two) same
          ]
        ];
        fresh = λ n above. suits.fresh n (omega (arith, next, above));
        ended = λ n box is. elim (suits.ended n box is) [
          | inl held ↦ elim (cases_eq held.0 key) [
            | inl same ↦ let e : None ≡ Some held.1 = sym vacant ∙ ap (get old.slab) (sym same) ∙ held.2 in absurd cc
            | inr differs ↦ inl (held.0, held.1, updates.others held.0 differs ∙ held.2, held.3)
          ]
          | inr end ↦ inr end
        ];
        parted = parted_begun begins ways old new boxes key c vacant updates next parted serial suits.parted;
      }

  pub written : (old new : Clients T) (key : ℕ) (c d : Client T) → get old.slab key ≡ Some c → new.slab ≡ with_value old.slab key d → Updates old.slab new.slab key (Some d)
  written old new key c d was is = subst (λ s. Updates old.slab s key (Some d)) (sym is) (Updates-with_value old.slab key d (subst IsSome (sym was) refl))

  -- bytes went out of one, and no turn was taken
  pub drained_there : (old new : Clients T) (key : ℕ) (c d : Client T) → get old.slab key ≡ Some c → new.slab ≡ with_value old.slab key d → new.next ≡ old.next → new.parted ≡ old.parted → Drains ways c d → StaysSuited begins ways full failed old new
  drained_there old new key c d was is next parted drains rounds boxes suits =
      changed rounds old new boxes boxes key c d was (written old new key c d was is) next parted drains.serial (λ n other. refl)
      (boxed_drains begins ways boxes c d drains (suits.boxed key c was)) suits

  -- one was visited
  pub visited_there : {E : Type 0} (status : E → Status) (users : E → List ℕ → Option ℕ) (may_give : E → ℕ → E → Type 0) (old new : Clients T) (key : ℕ) (c d : Client T) (a b : E) (ws : List ℕ)
      → get old.slab key ≡ Some c → new.slab ≡ with_value old.slab key d → new.next ≡ old.next → new.parted ≡ old.parted → IsVisited begins ways status users may_give ws c d a b → AreVisited begins ways full failed status users may_give ws old new a b
  visited_there status users may_give old new key c d a b ws was is next parted visited rounds boxes suits =
      let are_turns = visited boxes (suits.boxed key c was) in
      record {
        turns = are_turns.turns;
        after = are_turns.after;
        are_turns = are_turns.are_turns;
        by = are_turns.by;
        suits = changed rounds old new boxes are_turns.after key c d was (written old new key c d was is) next parted are_turns.serial are_turns.others are_turns.boxed suits;
        same = are_turns.same;
      }

  -- who waits for a visit now is there as before
  boxed_called : (boxes : Boxes) (c : Client T) → IsBoxed begins ways boxes c → IsBoxed begins ways boxes (called c)
  boxed_called boxes c b = record { box = b.box; there = b.there; over = b.over; held = b.held; since = b.since }

  pub was_called : (is : ℕ → Type 0) (from to : Clients T) → IsCalled is from to → (key : ℕ) (o : Option (Client T)) (e : Client T) → get from.slab key ≡ o → get to.slab key ≡ Some e
      → (c : Client T) × (get from.slab key ≡ Some c) × ((c ≡ e) ⊎ (called c ≡ e))
  was_called is from to calls key None e was got = let x : None ≡ Some e = sym (calls.none key was) ∙ got in absurd cc
  was_called is from to calls key (Some c) e was got = (
    c,
    was,
    elim (calls.either key c was) [ inl same ↦ inl (some_same c e c (sym same ∙ got)) | inr now ↦ inr (some_same (called c) e c (sym now ∙ got)) ],
  )

  pub same_serial : (c e : Client T) → (c ≡ e) ⊎ (called c ≡ e) → c.serial ≡ e.serial
  same_serial c e (inl same) = ap (λ (x : Client T). x.serial) same
  same_serial c e (inr now) = ap (λ (x : Client T). x.serial) now

  same_boxed : (boxes : Boxes) (c e : Client T) → (c ≡ e) ⊎ (called c ≡ e) → IsBoxed begins ways boxes c → IsBoxed begins ways boxes e
  same_boxed boxes c e (inl same) b = subst (λ (x : Client T). IsBoxed begins ways boxes x) same b
  same_boxed boxes c e (inr now) b = subst (λ (x : Client T). IsBoxed begins ways boxes x) now (boxed_called boxes c b)

  pub held_called : (is : ℕ → Type 0) (from to : Clients T) → IsCalled is from to → (n : ℕ) → IsHeld begins ways from n → IsHeld begins ways to n
  held_called is from to calls n held = elim (calls.either held.0 held.1 held.2) [
    | inl same ↦ (held.0, held.1, same, held.3)
    | inr now ↦ (held.0, called held.1, now, held.3)
  ]

  held_uncalled : (is : ℕ → Type 0) (from to : Clients T) → IsCalled is from to → (n : ℕ) → IsHeld begins ways to n → IsHeld begins ways from n
  held_uncalled is from to calls n held =
      let x = was_called is from to calls held.0 (get from.slab held.0) held.1 refl held.2 in
      (held.0, x.0, x.1, same_serial x.0 held.1 x.2 ∙ held.3)

  pub apart_called : (is : ℕ → Type 0) (from to : Clients T) → IsCalled is from to → AreApart from → AreApart to
  apart_called is from to calls apart i j c d one two same =
      let x = was_called is from to calls i (get from.slab i) c refl one in
      let y = was_called is from to calls j (get from.slab j) d refl two in
      apart i j x.0 y.0 x.1 y.1 (same_serial x.0 c x.2 ∙ same ∙ sym (same_serial y.0 d y.2))

  pub suits_called : (is : ℕ → Type 0) (from to : Clients T) → IsCalled is from to → StaysSuited begins ways full failed from to
  suits_called is from to calls rounds boxes suits = record {
    boxed = λ key e got. let x = was_called is from to calls key (get from.slab key) e refl got in same_boxed boxes x.0 e x.2 (suits.boxed key x.0 x.1);
    given = λ key e got.
        let x = was_called is from to calls key (get from.slab key) e refl got in
        let small = suits.given key x.0 x.1 in
        let same = same_serial x.0 e x.2 in
        let next = calls.next in
        omega (arith, small, same, next);
    apart = apart_called is from to calls suits.apart;
    fresh = λ n above. let next = calls.next in suits.fresh n (omega (arith, next, above));
    ended = λ n box are_turns. elim (suits.ended n box are_turns) [ inl held ↦ inl (held_called is from to calls n held) | inr gone ↦ inr gone ];
    parted = parted_called begins ways from to boxes calls.next calls.parted (held_called is from to calls) (held_uncalled is from to calls) suits.parted;
  }

  -- those under the first keys were let go
  pub record PartedUpTo (n : ℕ) (old new : Clients T) : Type 0 where
    pub next : new.next ≡ old.next
    pub none : (key : ℕ) → key < n → get new.slab key ≡ None
    pub left : (key : ℕ) (c : Client T) → get new.slab key ≡ Some c → get old.slab key ≡ Some c
    pub boxed : (rounds : List Round) (boxes : Boxes) → Suits begins ways full failed rounds old boxes → AreBoxed begins ways new boxes

  pub parted_up_to_none : (clients : Clients T) → PartedUpTo 0 clients clients
  parted_up_to_none clients = record {
    next = refl;
    none = λ key small. absurd (omega (arith, small));
    left = λ key c got. got;
    boxed = λ rounds boxes suits. boxed_by rounds clients boxes suits;
  }

  pub parted_up_to_next : (n : ℕ) (old mid new : Clients T) → PartedUpTo n old mid → Updates mid.slab new.slab n None → new.next ≡ mid.next → IsPartedAfter mid.parted.log.items new.parted.log.items (get mid.slab n)
      → PartedUpTo (n + 1) old new
  parted_up_to_next n old mid new up updates next items = record {
    next = next ∙ up.next;
    none = λ key small. elim (cases_eq key n) [
      | inl same ↦ ap (get new.slab) same ∙ updates.changed
      | inr differs ↦ updates.others key differs ∙ up.none key (omega (arith, small, differs))
    ];
    left = λ key c got. up.left key c (left_after mid.slab new.slab n updates key c got);
    boxed = λ rounds boxes suits. boxed_removed begins ways mid new boxes n updates next items (up.boxed rounds boxes suits);
  }

  pub parted_up_to_all : (n : ℕ) (old new : Clients T) → length old.slab.slots ≤ n → PartedUpTo n old new → AreAllParted begins ways full failed old new
  parted_up_to_all n old new most up = record {
    next = up.next;
    none = λ key c got. elim (cases_lt key n) [
      | inl small ↦ let e : None ≡ Some c = sym (up.none key small) ∙ got in absurd cc
      | inr more ↦ let e : None ≡ Some c = sym (get_or_past old.slab.slots key None (omega (arith, most, more))) ∙ up.left key c got in absurd cc
    ];
    parted = λ rounds boxes suits. (up.boxed rounds boxes suits).parted;
  }
