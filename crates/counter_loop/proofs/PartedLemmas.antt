-- The connections that were let go, each as its stream was then.
use Rattle.std.proofs.Common.{◌≡◌, ◌≢◌, ◌+◌, ◌<◌, ℕ, Bool, true, false, List, inl, inr, [], ◌∷◌, ◌++◌, Option, Some, None, refl, sym, ap, subst, ◌∙◌, arith, Contains}
use Rattle.std.proofs.lemmas.Bool.{cases_eq}
use Rattle.std.proofs.lemmas.List.Elements.{Contains-append_left, Contains-append_right, Contains-push, Contains-push_cases}
use Rattle.slab.specs.Slab.{Updates, get}
use Rattle.counter_loop.specs.Attended.{AreDistinct}
use Rattle.counter_loop.specs.Boxes.{AreApart, AreParted, ArePartedAs, IsBoxed, IsHeld, IsPartedAfter, IsPartedAs}
use Rattle.counter_loop.specs.Turns.{Box, Boxes, IsThere}
use Rattle.counter_door.specs.Ways.{Ways}
use Rattle.counter_loop.specs.declared.client.Client.{Client}
use Rattle.counter_loop.specs.declared.clients.Clients.{Clients}
use Rattle.counter_loop.proofs.BoxLemmas.{some_same}
use Rattle.counter_door.proofs.WayLemmas.{moves_none}

nothing_in : (n : ℕ) → Contains [] n → ⊥
nothing_in n has = let small = has.1 in omega (arith, small)

first_in : (who : List ℕ) (k : ℕ) → Contains (k ∷ who) k
first_in who k = Contains-append_left (k ∷ []) who k (Contains-push [] k)

distinct_push : (who : List ℕ) (n : ℕ) → AreDistinct who → (Contains who n → ⊥) → AreDistinct (who ++ n ∷ [])
distinct_push [] n distinct isnt = (nothing_in n, tt)
distinct_push (k ∷ who) n distinct isnt = (
  λ has. elim (Contains-push_cases who n k has) [
    | inl before ↦ distinct.0 before
    | inr same ↦ isnt (subst (Contains (k ∷ who)) (sym same) (first_in who k))
  ],
  distinct_push who n distinct.1 (λ has. isnt (Contains-append_right (k ∷ []) who n has)),
)

module _ {T : Type 0} (begins : Option Ways → Bool) (ways : T → Option Ways) where
  each_push : (boxes : Boxes) (who : List ℕ) (streams : List T) (n : ℕ) (stream : T) → ArePartedAs begins ways boxes who streams → IsPartedAs begins ways boxes n stream
      → ArePartedAs begins ways boxes (who ++ n ∷ []) (streams ++ stream ∷ [])
  each_push boxes [] [] n stream each is = (is, tt)
  each_push boxes [] (s ∷ streams) n stream each is = absurd each
  each_push boxes (k ∷ who) [] n stream each is = absurd each
  each_push boxes (k ∷ who) (s ∷ streams) n stream each is = (each.0, each_push boxes who streams n stream each.1 is)

  each_after : (boxes after : Boxes) (who : List ℕ) (streams : List T) → ((k : ℕ) → Contains who k → after k ≡ boxes k) → ArePartedAs begins ways boxes who streams → ArePartedAs begins ways after who streams
  each_after boxes after [] [] same each = tt
  each_after boxes after [] (s ∷ streams) same each = absurd each
  each_after boxes after (k ∷ who) [] same each = absurd each
  each_after boxes after (k ∷ who) (s ∷ streams) same each = (
    record { box = each.0.box; there = subst (λ o. IsThere begins o each.0.box) (sym (same k (first_in who k))) each.0.there; rest = each.0.rest; since = each.0.since },
    each_after boxes after who streams (λ n has. same n (Contains-append_right (k ∷ []) who n has)) each.1,
  )

  -- what is there of connections, whatever rounds were
  pub record AreBoxed (clients : Clients T) (boxes : Boxes) : Type 0 where
    pub boxed : (key : ℕ) (c : Client T) → get clients.slab key ≡ Some c → IsBoxed begins ways boxes c
    pub given : (key : ℕ) (c : Client T) → get clients.slab key ≡ Some c → c.serial < clients.next
    pub apart : AreApart clients
    pub parted : AreParted begins ways clients boxes

  abbrev Left : Clients T → Clients T → Type 0
  Left old new = (key : ℕ) (c : Client T) → get new.slab key ≡ Some c → get old.slab key ≡ Some c

  still_held : (old new : Clients T) (n : ℕ) → Left old new → IsHeld begins ways new n → IsHeld begins ways old n
  still_held old new n left held = (held.0, held.1, left held.0 held.1 held.2, held.3)

  -- nobody was let go
  parted_same : (old new : Clients T) (boxes : Boxes) → new.next ≡ old.next → new.parted.log.items ≡ old.parted.log.items → ((n : ℕ) → IsHeld begins ways old n → IsHeld begins ways new n)
      → ((n : ℕ) → IsHeld begins ways new n → IsHeld begins ways old n) → AreParted begins ways old boxes → AreParted begins ways new boxes
  parted_same old new boxes next items kept was p = record {
    who = p.who;
    distinct = p.distinct;
    each = subst (ArePartedAs begins ways boxes p.who) (sym items) p.each;
    all = λ n small. elim (p.all n (omega (arith, next, small))) [ inl held ↦ inl (kept n held) | inr has ↦ inr has ];
    gone = λ n has. let its = p.gone n has in ((let small = its.0 in omega (arith, next, small)), λ held. its.1 (was n held));
  }

  -- one was let go
  parted_one : (old new : Clients T) (boxes : Boxes) (key : ℕ) (c : Client T) → get old.slab key ≡ Some c → Updates old.slab new.slab key None → Left old new → new.next ≡ old.next
      → new.parted.log.items ≡ old.parted.log.items ++ c.stream ∷ [] → AreBoxed old boxes → AreParted begins ways new boxes
  parted_one old new boxes key c was updates left next items b =
      let p = b.parted in
      let mine = b.boxed key c was in
      record {
        who = p.who ++ c.serial ∷ [];
        distinct = distinct_push p.who c.serial p.distinct (λ has. (p.gone c.serial has).1 (key, c, was, refl));
        each = subst (ArePartedAs begins ways boxes (p.who ++ c.serial ∷ [])) (sym items)
            (each_push boxes p.who old.parted.log.items c.serial c.stream p.each (record { box = mine.box; there = mine.there; rest = c.connection.unsent; since = mine.since }));
        all = λ n small. elim (p.all n (omega (arith, next, small))) [
          | inl held ↦ elim (cases_eq held.0 key) [
            | inl same ↦
                let is : c ≡ held.1 = some_same c held.1 c (sym was ∙ ap (get old.slab) (sym same) ∙ held.2) in
                inr (subst (Contains (p.who ++ c.serial ∷ [])) (ap (λ (x : Client T). x.serial) is ∙ held.3) (Contains-push p.who c.serial))
            | inr differs ↦ inl (held.0, held.1, updates.others held.0 differs ∙ held.2, held.3)
          ]
          | inr has ↦ inr (Contains-append_left p.who (c.serial ∷ []) n has)
        ];
        gone = λ n has. elim (Contains-push_cases p.who c.serial n has) [
          | inl before ↦ let its = p.gone n before in ((let small = its.0 in omega (arith, next, small)), λ held. its.1 (still_held old new n left held))
          | inr same ↦ (
            (let small = b.given key c was in omega (arith, next, small, same)),
            λ held.
                let at : held.0 ≡ key = b.apart held.0 key held.1 c (left held.0 held.1 held.2) was (held.3 ∙ sym same) in
                let e : None ≡ Some held.1 = sym updates.changed ∙ ap (get new.slab) (sym at) ∙ held.2 in absurd cc,
          )
        ];
      }

  parted_under : (old new : Clients T) (boxes : Boxes) (key : ℕ) (o : Option (Client T)) → get old.slab key ≡ o → Updates old.slab new.slab key None → Left old new → new.next ≡ old.next
      → IsPartedAfter old.parted.log.items new.parted.log.items o → AreBoxed old boxes → AreParted begins ways new boxes
  parted_under old new boxes key None was updates left next items b =
      parted_same old new boxes next items (λ n held. elim (cases_eq held.0 key) [
        | inl same ↦ let e : None ≡ Some held.1 = sym was ∙ ap (get old.slab) (sym same) ∙ held.2 in absurd cc
        | inr differs ↦ (held.0, held.1, updates.others held.0 differs ∙ held.2, held.3)
      ]) (λ n held. still_held old new n left held) b.parted
  parted_under old new boxes key (Some c) was updates left next items b = parted_one old new boxes key c was updates left next items b

  left_at : (old new : Clients T) (key : ℕ) → Updates old.slab new.slab key None → Left old new
  left_at old new key updates at c got = elim (cases_eq at key) [
    | inl same ↦ let e : None ≡ Some c = sym updates.changed ∙ ap (get new.slab) (sym same) ∙ got in absurd cc
    | inr differs ↦ sym (updates.others at differs) ∙ got
  ]

  pub parted_removed : (old new : Clients T) (boxes : Boxes) (key : ℕ) → Updates old.slab new.slab key None → new.next ≡ old.next
      → IsPartedAfter old.parted.log.items new.parted.log.items (get old.slab key) → AreBoxed old boxes → AreParted begins ways new boxes
  parted_removed old new boxes key updates next items b = parted_under old new boxes key (get old.slab key) refl updates (left_at old new key updates) next items b

  pub boxed_removed : (old new : Clients T) (boxes : Boxes) (key : ℕ) → Updates old.slab new.slab key None → new.next ≡ old.next
      → IsPartedAfter old.parted.log.items new.parted.log.items (get old.slab key) → AreBoxed old boxes → AreBoxed new boxes
  boxed_removed old new boxes key updates next items b =
      let left = left_at old new key updates in
      record {
        boxed = λ k c got. b.boxed k c (left k c got);
        given = λ k c got. let small = b.given k c (left k c got) in omega (arith, next, small);
        apart = λ i j c d here there same. b.apart i j c d (left i c here) (left j d there) same;
        parted = parted_removed old new boxes key updates next items b;
      }

  -- one changed, under its number
  pub parted_changed : (old new : Clients T) (boxes after : Boxes) (key : ℕ) (c d : Client T) → get old.slab key ≡ Some c → Updates old.slab new.slab key (Some d) → new.next ≡ old.next → new.parted ≡ old.parted
      → d.serial ≡ c.serial → ((n : ℕ) → n ≢ c.serial → after n ≡ boxes n) → AreParted begins ways old boxes → AreParted begins ways new after
  parted_changed old new boxes after key c d was updates next same_parted serial others p =
      let forth : (n : ℕ) → IsHeld begins ways old n → IsHeld begins ways new n = λ n held. elim (cases_eq held.0 key) [
        | inl same ↦
            let is : c ≡ held.1 = some_same c held.1 c (sym was ∙ ap (get old.slab) (sym same) ∙ held.2) in
            (key, d, updates.changed, serial ∙ ap (λ (x : Client T). x.serial) is ∙ held.3)
        | inr differs ↦ (held.0, held.1, updates.others held.0 differs ∙ held.2, held.3)
      ] in
      let back : (n : ℕ) → IsHeld begins ways new n → IsHeld begins ways old n = λ n held. elim (cases_eq held.0 key) [
        | inl same ↦
            let is : d ≡ held.1 = some_same d held.1 d (sym updates.changed ∙ ap (get new.slab) (sym same) ∙ held.2) in
            (key, c, was, sym serial ∙ ap (λ (x : Client T). x.serial) is ∙ held.3)
        | inr differs ↦ (held.0, held.1, sym (updates.others held.0 differs) ∙ held.2, held.3)
      ] in
      let q = parted_same old new boxes next (ap (λ x. x.log.items) same_parted) forth back p in
      record {
        who = q.who;
        distinct = q.distinct;
        each = each_after boxes after q.who new.parted.log.items (λ k has. others k (λ same. (q.gone k has).1 (subst (IsHeld begins ways new) (sym same) (key, d, updates.changed, serial)))) q.each;
        all = q.all;
        gone = q.gone;
      }

  -- one began
  pub parted_begun : (old new : Clients T) (boxes : Boxes) (key : ℕ) (c : Client T) → get old.slab key ≡ None → Updates old.slab new.slab key (Some c) → new.next ≡ old.next + 1 → new.parted ≡ old.parted
      → c.serial ≡ old.next → AreParted begins ways old boxes → AreParted begins ways new boxes
  parted_begun old new boxes key c vacant updates next same_parted serial p = record {
    who = p.who;
    distinct = p.distinct;
    each = subst (ArePartedAs begins ways boxes p.who) (sym (ap (λ x. x.log.items) same_parted)) p.each;
    all = λ n small. elim (cases_eq n old.next) [
      | inl same ↦ inl (key, c, updates.changed, serial ∙ sym same)
      | inr differs ↦ elim (p.all n (omega (arith, next, small, differs))) [
        | inl held ↦ elim (cases_eq held.0 key) [
          | inl here ↦ let e : None ≡ Some held.1 = sym vacant ∙ ap (get old.slab) (sym here) ∙ held.2 in absurd cc
          | inr elsewhere ↦ inl (held.0, held.1, updates.others held.0 elsewhere ∙ held.2, held.3)
        ]
        | inr has ↦ inr has
      ]
    ];
    gone = λ n has.
        let its = p.gone n has in
        let below = its.0 in (
          omega (arith, next, below),
          λ held. elim (cases_eq held.0 key) [
            | inl here ↦
                let is : c ≡ held.1 = some_same c held.1 c (sym updates.changed ∙ ap (get new.slab) (sym here) ∙ held.2) in
                let number : c.serial ≡ n = ap (λ (x : Client T). x.serial) is ∙ held.3 in
                omega (arith, number, serial, below)
            | inr elsewhere ↦ its.1 (held.0, held.1, sym (updates.others held.0 elsewhere) ∙ held.2, held.3)
          ],
        );
  }

  -- one began, and was let go at once
  pub parted_refused : (old new : Clients T) (boxes : Boxes) (stream : T) → ((key : ℕ) → get new.slab key ≡ get old.slab key) → new.next ≡ old.next + 1 → new.parted.log.items ≡ old.parted.log.items ++ stream ∷ []
      → begins (ways stream) ≡ true → boxes old.next ≡ None → ((key : ℕ) (c : Client T) → get old.slab key ≡ Some c → c.serial < old.next) → AreParted begins ways old boxes → AreParted begins ways new boxes
  parted_refused old new boxes stream slab next items begun fresh given p =
      let back : (n : ℕ) → IsHeld begins ways new n → IsHeld begins ways old n = λ n held. (held.0, held.1, sym (slab held.0) ∙ held.2, held.3) in
      let box : Box = record { ways = ways stream; held = []; waits = []; is_over = false } in
      record {
        who = p.who ++ old.next ∷ [];
        distinct = distinct_push p.who old.next p.distinct (λ has. let small = (p.gone old.next has).0 in omega (arith, small));
        each = subst (ArePartedAs begins ways boxes (p.who ++ old.next ∷ [])) (sym items)
            (each_push boxes p.who old.parted.log.items old.next stream p.each (record {
              box = box;
              there = subst (λ o. IsThere begins o box) (sym fresh) (begun, refl, refl, refl);
              rest = [];
              since = record { out = []; waits = refl; read_since = []; none_received = λ open_still. refl; moved = moves_none (ways stream) };
            }));
        all = λ n small. elim (cases_eq n old.next) [
          | inl same ↦ inr (subst (Contains (p.who ++ old.next ∷ [])) (sym same) (Contains-push p.who old.next))
          | inr differs ↦ elim (p.all n (omega (arith, next, small, differs))) [
            | inl held ↦ inl (held.0, held.1, slab held.0 ∙ held.2, held.3)
            | inr has ↦ inr (Contains-append_left p.who (old.next ∷ []) n has)
          ]
        ];
        gone = λ n has. elim (Contains-push_cases p.who old.next n has) [
          | inl before ↦ let its = p.gone n before in ((let small = its.0 in omega (arith, next, small)), λ held. its.1 (back n held))
          | inr same ↦ (
            omega (arith, next, same),
            λ held.
                let was = back n held in
                let small = given was.0 was.1 was.2 in
                let number = was.3 in
                omega (arith, small, number, same),
          )
        ];
      }

  -- nobody is there
  pub parted_none : (clients : Clients T) (boxes : Boxes) → clients.next ≡ 0 → clients.parted.log.items ≡ [] → AreParted begins ways clients boxes
  parted_none clients boxes next items = record {
    who = [];
    distinct = tt;
    each = subst (ArePartedAs begins ways boxes []) (sym items) tt;
    all = λ n small. absurd (omega (arith, next, small));
    gone = λ n has. absurd (nothing_in n has);
  }

  -- who waits for a visit now is held as before
  pub parted_called : (old new : Clients T) (boxes : Boxes) → new.next ≡ old.next → new.parted ≡ old.parted → ((n : ℕ) → IsHeld begins ways old n → IsHeld begins ways new n)
      → ((n : ℕ) → IsHeld begins ways new n → IsHeld begins ways old n) → AreParted begins ways old boxes → AreParted begins ways new boxes
  parted_called old new boxes next same_parted kept was p = parted_same old new boxes next (ap (λ x. x.log.items) same_parted) kept was p
