-- How a visit leaves connections.
use Rattle.std.proofs.Common.{◌≡◌, ◌≢◌, ◌⊎◌, ◌<◌, ◌≤◌, ◌+◌, ℕ, suc, Bool, false, true, if◌then◌else◌, nat_eq, inl, inr, List, [], ◌∷◌, ◌++◌, All, Contains, length, Option, Some, None, refl, sym, ap, subst, ◌∙◌, arith}
use Rattle.std.proofs.lemmas.Bool.{cases_eq, cases_lt, ne_eqb}
use Rattle.std.proofs.lemmas.List.{get_or_past}
use Rattle.std.proofs.lemmas.List.Elements.{All-append, All-contains, All-cons, All-head, All-nil, All-tail, Contains-append_cases, Contains-append_left, Contains-append_right}
use Rattle.std.specs.declared.time.Instant.{Instant}
use Rattle.slab.specs.Slab.{Slab, Updates, get, with_value}
use Rattle.store_rows.specs.Status.{Status}
use Rattle.http_messages.specs.Next.{IsPartial}
use Rattle.counter_loop.specs.Boxes.{AreApart, AreVisited, Drains, IsDone, IsOut, IsVisited, MayGo, StaysSuited}
use Rattle.counter_loop.specs.Ends.{AreTimed, IsTimed, KeepsTime}
use Rattle.counter_loop.specs.Served.{AreOfOne, EachIsServed, IsAfter, IsLeft, IsServed, IsServedAt, IsServedOut, IsServedUnder, IsThereAfter, IsUsedUp, TakesTurns, most_turns, turns_of}
use Rattle.counter_door.specs.Ways.{IsAsked, Ways}
use Rattle.counter_loop.specs.declared.client.AfterTurn.{AfterTurn}
use Rattle.counter_loop.specs.declared.client.AfterTurn.TheVariants.{Answered, Closes, UsedUp}
use Rattle.counter_loop.specs.declared.client.Client.{Client}
use Rattle.counter_loop.specs.declared.client.WaitsFor.{WaitsFor}
use Rattle.counter_loop.specs.declared.client.WaitsFor.TheVariants as For
use Rattle.counter_loop.specs.declared.clients.Clients.{Clients}
use Rattle.counter_loop.specs.declared.outbox.SentSoFar.{SentSoFar}
use Rattle.counter_loop.specs.declared.outbox.SentSoFar.TheVariants as Sent
use Rattle.counter_loop.proofs.BoxLemmas.{all_then, drained, drained_visited, drains_none, drains_then, some_same, visited_drained, visited_none, visited_then}
use Rattle.counter_loop.proofs.EndLemmas.{IsSentBy, keeps_none, keeps_sent, keeps_then, timed_same}
use Rattle.counter_loop.proofs.SuitLemmas.{true_or_false, visited_there, written}

-- ---- one connection

pub of_none : (n : ℕ) → AreOfOne n []
of_none n = record { its = All-nil (λ w. w ≡ n); few = omega arith }

-- one turn more of the same
pub one_more : (n m : ℕ) (ws : List ℕ) → All (λ w. w ≡ n) ws → m ≡ n → All (λ w. w ≡ n) (ws ++ m ∷ [])
one_more n m ws all is = All-append (λ w. w ≡ n) ws (m ∷ []) all (All-cons (λ w. w ≡ n) m [] is (All-nil (λ w. w ≡ n)))

pub longer : (m : ℕ) (ws : List ℕ) → length (ws ++ m ∷ []) ≡ length ws + 1
longer m [] = refl
longer m (w ∷ ws) = let e = longer m ws in omega (arith, e)

pub some_more : (m : ℕ) (ws : List ℕ) → ws ++ m ∷ [] ≢ []
some_more m [] none = cc
some_more m (w ∷ ws) none = cc

-- whose turns they are
contains_one : (n : ℕ) (ws : List ℕ) → All (λ w. w ≡ n) ws → ws ≢ [] → Contains ws n
contains_one n [] all some = absurd (some refl)
contains_one n (w ∷ ws) all some = subst (Contains (w ∷ ws)) (All-head (λ x. x ≡ n) w ws all) (0, omega arith, refl)

-- how many turns are of one number
one_append : (b : Bool) (x y z : ℕ) → x ≡ y + z → (if b then suc x else x) ≡ (if b then suc y else y) + z
one_append true x y z e = omega (arith, e)
one_append false x y z e = e

one_le : (b : Bool) (x l : ℕ) → x ≤ l → (if b then suc x else x) ≤ suc l
one_le true x l e = omega (arith, e)
one_le false x l e = omega (arith, e)

pub turns_of-append : (n : ℕ) (vs ws : List ℕ) → turns_of n (vs ++ ws) ≡ turns_of n vs + turns_of n ws
turns_of-append n [] ws = omega arith
turns_of-append n (v ∷ vs) ws = one_append (nat_eq v n) (turns_of n (vs ++ ws)) (turns_of n vs) (turns_of n ws) (turns_of-append n vs ws)

pub turns_of-le : (n : ℕ) (ws : List ℕ) → turns_of n ws ≤ length ws
turns_of-le n [] = omega arith
turns_of-le n (w ∷ ws) = one_le (nat_eq w n) (turns_of n ws) (length ws) (turns_of-le n ws)

pub turns_of_others : (n m : ℕ) (ws : List ℕ) → All (λ w. w ≡ n) ws → m ≢ n → turns_of m ws ≡ 0
turns_of_others n m [] all differs = refl
turns_of_others n m (w ∷ ws) all differs =
    let other : (w ≡ m → ⊥) = λ same. differs (sym same ∙ All-head (λ x. x ≡ n) w ws all) in
    ap (λ b. if b then suc (turns_of m ws) else turns_of m ws) (ne_eqb w m other) ∙ turns_of_others n m ws (All-tail (λ x. x ≡ n) w ws all) differs

pub turns_or_none : (n : ℕ) (ws : List ℕ) → Contains ws n ⊎ (turns_of n ws ≡ 0)
turns_or_none n [] = inr refl
turns_or_none n (w ∷ ws) = elim (cases_eq w n) [
  | inl same ↦ inl (subst (Contains (w ∷ ws)) same (0, omega arith, refl))
  | inr differs ↦ elim (turns_or_none n ws) [
    | inl has ↦ inl (Contains-append_right (w ∷ []) ws n has)
    | inr none ↦ inr (ap (λ b. if b then suc (turns_of n ws) else turns_of n ws) (ne_eqb w n differs) ∙ none)
  ]
]

module _ {T : Type 0} (used_up full : T → Type 0) where
  -- a turn after which none follows at once, and which was not the last
  pub used_by : (a : AfterTurn) (c : Client T) → IsAfter used_up full a c → a ≢ Answered → c.connection.is_closing ≡ false → IsUsedUp used_up full c
  used_by Answered c after other open_still = absurd (other refl)
  used_by UsedUp c after other open_still = after.1
  used_by Closes c after other open_still = let e : true ≡ false = sym after ∙ open_still in absurd cc

  pub open_after : (a : AfterTurn) (c : Client T) → IsAfter used_up full a c → a ≡ Answered → c.connection.is_closing ≡ false
  open_after a c after is = subst (λ x. IsAfter used_up full x c) is after

module _ {T : Type 0} (ways : T → Option Ways) (used_up full failed : T → Type 0) where
  -- by what it waits for after this much was sent, and whether more may be at hand
  pub left_by : (are_turns : Type 0) (before : Option Ways) (d : Client T) (sent : SentSoFar) (has_more : Bool) (w : WaitsFor) → d.waits_for ≡ w
      → (d.waits_for ≡ For.Client → (sent ≡ Sent.Part) ⊎ ((sent ≡ Sent.All) × (has_more ≡ false))) → (d.waits_for ≡ For.Visit → (sent ≡ Sent.All) × (has_more ≡ true))
      → (sent ≡ Sent.All → d.connection.unsent ≡ []) → (sent ≡ Sent.Part → (d.connection.unsent ≢ []) × full d.stream) → (has_more ≡ false → IsUsedUp used_up full d)
      → are_turns ⊎ ((sent ≡ Sent.Part) × IsAsked before (ways d.stream)) → d.waits_for ≢ For.Nothing → IsServedOut ways used_up full failed are_turns before d
  left_by are_turns before d sent has_more For.Client is client visit all part used turned over = elim (client is) [
    | inl some ↦ record {
      turned = elim turned [ inl are_turns ↦ inl are_turns | inr asked ↦ inr ((part some).0, asked.1) ];
      owed = λ whole. inr (part some).0;
      read = λ waits none. absurd ((part some).0 none);
      written = λ bytes. (part some).1;
    }
    | inr done ↦ record {
      turned = elim turned [ inl are_turns ↦ inl are_turns | inr asked ↦ inr ((part asked.0).0, asked.1) ];
      owed = λ whole. absurd (whole (used done.1).part);
      read = λ waits none. used done.1;
      written = λ bytes. absurd (bytes (all done.0));
    }
  ]
  left_by are_turns before d sent has_more For.Visit is client visit all part used turned over = record {
    turned = elim turned [ inl are_turns ↦ inl are_turns | inr asked ↦ inr ((part asked.0).0, asked.1) ];
    owed = λ whole. inl is;
    read = λ waits none. let e : For.Visit ≡ For.Client = sym is ∙ waits in absurd cc;
    written = λ bytes. absurd (bytes (all (visit is).0));
  }
  left_by are_turns before d sent has_more For.Nothing is client visit all part used turned over = absurd (over is)

  -- one whose connection failed, or which is closing
  pub left_over : (are_turns : Type 0) (before : Option Ways) (d : Client T) (w : WaitsFor) → d.waits_for ≡ w → (d.connection.is_closing ≡ false → d.waits_for ≡ For.Client → ⊥) → (d.connection.is_closing ≡ false → d.waits_for ≡ For.Visit → ⊥)
      → IsLeft ways used_up full failed are_turns before d
  left_over are_turns before d For.Client is client visit over open_still = absurd (client open_still is)
  left_over are_turns before d For.Visit is client visit over open_still = absurd (visit open_still is)
  left_over are_turns before d For.Nothing is client visit over open_still = absurd (over is)

  -- nothing is waited for of it
  timed_over : (now : Instant) (c d : Client T) (w : WaitsFor) → d.waits_for ≡ w → (d.connection.is_closing ≡ false → d.waits_for ≡ For.Client → ⊥) → (d.connection.is_closing ≡ false → d.waits_for ≡ For.Visit → ⊥)
      → d.waits_for ≢ For.Nothing → d.connection.is_closing ≡ false → IsTimed now c d
  timed_over now c d For.Client is client visit over open_still = absurd (client open_still is)
  timed_over now c d For.Visit is client visit over open_still = absurd (visit open_still is)
  timed_over now c d For.Nothing is client visit over open_still = absurd (over is)

  out_more : (are_turns more : Type 0) (before : Option Ways) (d : Client T) → (are_turns → more) → IsServedOut ways used_up full failed are_turns before d → IsServedOut ways used_up full failed more before d
  out_more are_turns more before d so out = record {
    turned = elim out.turned [ inl h ↦ inl (so h) | inr bytes ↦ inr bytes ];
    owed = out.owed;
    read = out.read;
    written = out.written;
  }

  after_more : (now : Instant) (are_turns more : Type 0) (c : Client T) (o : Option (Client T)) → (are_turns → more) → IsThereAfter ways used_up full failed now are_turns c o → IsThereAfter ways used_up full failed now more c o
  after_more now are_turns more c None so there = elim there [ inl h ↦ inl (so h) | inr gone ↦ inr gone ]
  after_more now are_turns more c (Some d) so there = (there.0, there.1, λ over open_still. out_more are_turns more (ways c.stream) d so (there.2 over open_still), there.3)

-- ---- all of them

absent : {T : Type 0} (s : Slab T) (key : ℕ) (c : T) (n : ℕ) → get s key ≡ Some c → length s.slots ≤ n → key < n
absent s key c n got most = elim (cases_lt key n) [
  | inl less ↦ less
  | inr more ↦ let e : None ≡ Some c = sym (get_or_past s.slots key None (omega (arith, most, more))) ∙ got in absurd cc
]

module _ {T E : Type 0} (begins : Option Ways → Bool) (ways : T → Option Ways) (used_up full failed : T → Type 0) (now : Instant) (status : E → Status) (users : E → List ℕ → Option ℕ) (may_give : E → ℕ → E → Type 0) where
  -- none is there
  pub nobody_there : (key : ℕ) (from : Clients T) (s : E) → get from.slab key ≡ None → IsServedUnder begins ways used_up full failed now status users may_give key from from s s
  nobody_there key from s none = record {
    by = [];
    visited = visited_none begins ways full failed status users may_give from s;
    its = subst (λ o. IsServedAt ways used_up full failed now o o []) (sym none) (refl, refl);
    others = λ k differs. refl;
    next = refl;
  }

  -- one was visited, and is there
  pub there : (from to : Clients T) (key : ℕ) (c d : Client T) (old new : E) → get from.slab key ≡ Some c → to.slab ≡ with_value from.slab key d → to.next ≡ from.next → to.parted ≡ from.parted
      → d.waits_for ≢ For.Nothing → IsServed begins ways used_up full failed now status users may_give c d old new → IsServedUnder begins ways used_up full failed now status users may_give key from to old new
  there from to key c d old new was is next parted stays served =
      let updates = written begins ways full failed from to key c d was is in
      record {
        by = served.by;
        visited = visited_there begins ways full failed status users may_give from to key c d old new served.by was is next parted served.visited;
        its = subst (λ o. IsServedAt ways used_up full failed now o (get to.slab key) served.by) (sym was)
            (subst (λ o. IsServedAt ways used_up full failed now (Some c) o served.by) (sym updates.changed) (served.of_one, (served.serial, stays, served.left, served.timed stays)));
        others = updates.others;
        next = next;
      }

  -- one was visited, and let go
  pub gone : (from mid to : Clients T) (key : ℕ) (c d : Client T) (old new : E) → get from.slab key ≡ Some c → mid.slab ≡ with_value from.slab key d → mid.next ≡ from.next → mid.parted ≡ from.parted
      → Updates mid.slab to.slab key None → to.next ≡ mid.next → (MayGo failed mid key → StaysSuited begins ways full failed mid to) → d.waits_for ≡ For.Nothing
      → IsServed begins ways used_up full failed now status users may_give c d old new → IsServedUnder begins ways used_up full failed now status users may_give key from to old new
  gone from mid to key c d old new was is next parted removed later suited over served =
      let updates = written begins ways full failed from mid key c d was is in
      let may_go : MayGo failed mid key = λ e got. subst (λ (x : Client T). IsOut failed x) (some_same d e d (sym updates.changed ∙ got)) (inl (served.over over).0) in
      record {
        by = served.by;
        visited = λ rounds boxes suits.
            let here = visited_there begins ways full failed status users may_give from mid key c d old new served.by was is next parted served.visited rounds boxes suits in
            record {
              turns = here.turns;
              after = here.after;
              are_turns = here.are_turns;
              by = here.by;
              suits = suited may_go rounds here.after here.suits;
              same = here.same;
            };
        its = subst (λ o. IsServedAt ways used_up full failed now o (get to.slab key) served.by) (sym was) (subst (λ o. IsServedAt ways used_up full failed now (Some c) o served.by) (sym removed.changed) (served.of_one, (served.over over).1));
        others = λ k differs. removed.others k differs ∙ updates.others k differs;
        next = later ∙ next;
      }

  -- those under the first keys were visited
  pub record UpTo (n : ℕ) (is : Client T → Type 0) (from to : Clients T) (old new : E) : Type 0 where
    pub by : List ℕ
    pub visited : AreVisited begins ways full failed status users may_give by from to old new
    pub each : (key : ℕ) (c : Client T) → key < n → get from.slab key ≡ Some c → is c → IsThereAfter ways used_up full failed now (Contains by c.serial) c (get to.slab key)
    pub others : (key : ℕ) (c : Client T) → get from.slab key ≡ Some c → ¬ (is c) → get to.slab key ≡ Some c
    pub none : (key : ℕ) → get from.slab key ≡ None → get to.slab key ≡ None
    pub rest : (key : ℕ) → n ≤ key → get to.slab key ≡ get from.slab key
    pub alone : (m : ℕ) → Contains by m → (key : ℕ) × (c : Client T) × (get from.slab key ≡ Some c) × is c × (c.serial ≡ m)
    pub under : (m : ℕ) → Contains by m → (key : ℕ) × (c : Client T) × (get from.slab key ≡ Some c) × (c.serial ≡ m) × (key < n)
    pub few : AreApart from → (m : ℕ) → turns_of m by ≤ most_turns
    pub next : to.next ≡ from.next

  pub up_to_none : (is : Client T → Type 0) (from : Clients T) (s : E) → UpTo 0 is from from s s
  up_to_none is from s = record {
    by = [];
    visited = visited_none begins ways full failed status users may_give from s;
    each = λ key c small. absurd (omega (arith, small));
    others = λ key c got isnt. got;
    none = λ key got. got;
    rest = λ key more. refl;
    alone = λ m has. let small = has.1 in absurd (omega (arith, small));
    under = λ m has. let small = has.1 in absurd (omega (arith, small));
    few = λ apart m. omega arith;
    next = refl;
  }

  pub up_to_all : (n : ℕ) (is : Client T → Type 0) (from to : Clients T) (old new : E) → length from.slab.slots ≤ n → UpTo n is from to old new
      → EachIsServed begins ways used_up full failed now status users may_give is from to old new
  up_to_all n is from to old new most up = record {
    by = up.by;
    visited = up.visited;
    each = λ key c got is_so. up.each key c (absent from.slab key c n got most) got is_so;
    others = up.others;
    none = up.none;
    alone = up.alone;
    few = up.few;
    next = up.next;
  }

  -- the next was passed over
  pub passed : (n : ℕ) (is : Client T → Type 0) (from to : Clients T) (old new : E) → UpTo n is from to old new → ((c : Client T) → get to.slab n ≡ Some c → ¬ (is c)) → UpTo (n + 1) is from to old new
  passed n is from to old new up isnt = record {
    by = up.by;
    visited = up.visited;
    each = λ key c small got is_so. elim (cases_eq key n) [
      | inl same ↦ absurd (isnt c (ap (get to.slab) (sym same) ∙ up.rest key (omega (arith, same)) ∙ got) is_so)
      | inr differs ↦ up.each key c (omega (arith, small, differs)) got is_so
    ];
    others = up.others;
    none = up.none;
    rest = λ key more. up.rest key (omega (arith, more));
    alone = up.alone;
    under = λ m has. let its = up.under m has in (its.0, its.1, its.2, its.3, (let small = its.4 in omega (arith, small)));
    few = up.few;
    next = up.next;
  }

  -- whoever had a turn of one key
  one_of : (o after : Option (Client T)) (is : Client T → Type 0) (by : List ℕ) (m : ℕ) → IsServedAt ways used_up full failed now o after by → ((c : Client T) → o ≡ Some c → is c) → Contains by m
      → (c : Client T) × (o ≡ Some c) × is c × (c.serial ≡ m)
  one_of None after is by m at holds has = let e = subst (λ l. Contains l m) at.1 has in let small = e.1 in absurd (omega (arith, small))
  one_of (Some c) after is by m at holds has = (c, refl, holds c refl, sym (All-contains (λ w. w ≡ c.serial) by m at.0.its has))

  there_by : (o after : Option (Client T)) (c : Client T) (by : List ℕ) → o ≡ Some c → IsServedAt ways used_up full failed now o after by → IsThereAfter ways used_up full failed now (Contains by c.serial) c after
  there_by o after c by got at =
      let its : IsServedAt ways used_up full failed now (Some c) after by = subst (λ x. IsServedAt ways used_up full failed now x after by) got at in
      after_more ways used_up full failed now (by ≢ []) (Contains by c.serial) c after (contains_one c.serial by its.0.its) its.1

  none_by : (o after : Option (Client T)) (by : List ℕ) → o ≡ None → IsServedAt ways used_up full failed now o after by → after ≡ None
  none_by o after by got at = (subst (λ x. IsServedAt ways used_up full failed now x after by) got at).0

  -- and how many turns there were then
  few_next : (n : ℕ) (m : ℕ) (from : Clients T) (o after : Option (Client T)) (vs ws : List ℕ) → AreApart from → get from.slab n ≡ o → IsServedAt ways used_up full failed now o after ws
      → ((k : ℕ) → Contains vs k → (key : ℕ) × (c : Client T) × (get from.slab key ≡ Some c) × (c.serial ≡ k) × (key < n)) → turns_of m vs ≤ most_turns → turns_of m (vs ++ ws) ≤ most_turns
  few_next n m from None after vs ws apart got at under few =
      let none : turns_of m ws ≡ 0 = ap (turns_of m) at.1 in
      let as_store_and_clock = turns_of-append m vs ws in
      omega (arith, none, as_store_and_clock, few)
  few_next n m from (Some c) after vs ws apart got at under few = elim (cases_eq m c.serial) [
    | inl same ↦
        let none : turns_of m vs ≡ 0 = elim (turns_or_none m vs) [
          | inl has ↦
              let its = under m has in
              let is : its.0 ≡ n = apart its.0 n its.1 c its.2 got (its.3 ∙ same) in
              let small = its.4 in
              absurd (omega (arith, is, small))
          | inr none ↦ none
        ] in
        let as_store_and_clock = turns_of-append m vs ws in
        let most = turns_of-le m ws in
        let own = at.0.few in
        omega (arith, none, as_store_and_clock, most, own)
    | inr differs ↦
        let none = turns_of_others c.serial m ws at.0.its differs in
        let as_store_and_clock = turns_of-append m vs ws in
        omega (arith, none, as_store_and_clock, few)
  ]

  -- the next was visited
  pub visited_next : (n : ℕ) (is : Client T → Type 0) (from mid to : Clients T) (old between new : E) → UpTo n is from mid old between → ((c : Client T) → get mid.slab n ≡ Some c → is c)
      → IsServedUnder begins ways used_up full failed now status users may_give n mid to between new → UpTo (n + 1) is from to old new
  visited_next n is from mid to old between new up holds here =
      let stood : get mid.slab n ≡ get from.slab n = up.rest n (omega arith) in
      record {
        by = up.by ++ here.by;
        visited = all_then begins ways full failed status users may_give from mid to old between new up.by here.by up.visited here.visited;
        each = λ key c small got is_so. elim (cases_eq key n) [
          | inl same ↦
              let its = there_by (get mid.slab n) (get to.slab n) c here.by (stood ∙ ap (get from.slab) (sym same) ∙ got) here.its in
              subst (λ k. IsThereAfter ways used_up full failed now (Contains (up.by ++ here.by) c.serial) c (get to.slab k)) (sym same)
              (after_more ways used_up full failed now (Contains here.by c.serial) (Contains (up.by ++ here.by) c.serial) c (get to.slab n) (Contains-append_right up.by here.by c.serial) its)
          | inr differs ↦
              subst (λ o. IsThereAfter ways used_up full failed now (Contains (up.by ++ here.by) c.serial) c o) (sym (here.others key differs))
              (after_more ways used_up full failed now (Contains up.by c.serial) (Contains (up.by ++ here.by) c.serial) c (get mid.slab key) (Contains-append_left up.by here.by c.serial)
              (up.each key c (omega (arith, small, differs)) got is_so))
        ];
        others = λ key c got isnt. elim (cases_eq key n) [
          | inl same ↦ absurd (isnt (holds c (stood ∙ ap (get from.slab) (sym same) ∙ got)))
          | inr differs ↦ here.others key differs ∙ up.others key c got isnt
        ];
        none = λ key got. elim (cases_eq key n) [
          | inl same ↦ ap (get to.slab) same ∙ none_by (get mid.slab n) (get to.slab n) here.by (stood ∙ ap (get from.slab) (sym same) ∙ got) here.its
          | inr differs ↦ here.others key differs ∙ up.none key got
        ];
        rest = λ key more. here.others key (λ same. omega (arith, same, more)) ∙ up.rest key (omega (arith, more));
        alone = λ m has. elim (Contains-append_cases up.by here.by m has) [
          | inl before ↦ up.alone m before
          | inr now ↦ let one = one_of (get mid.slab n) (get to.slab n) is here.by m here.its holds now in (n, one.0, sym stood ∙ one.1, one.2, one.3)
        ];
        under = λ m has. elim (Contains-append_cases up.by here.by m has) [
          | inl before ↦ let its = up.under m before in (its.0, its.1, its.2, its.3, (let small = its.4 in omega (arith, small)))
          | inr now ↦ let one = one_of (get mid.slab n) (get to.slab n) is here.by m here.its holds now in (n, one.0, sym stood ∙ one.1, one.3, omega arith)
        ];
        few = λ apart m.
            few_next n m from (get from.slab n) (get to.slab n) up.by here.by apart refl (subst (λ o. IsServedAt ways used_up full failed now o (get to.slab n) here.by) stood here.its) up.under (up.few apart m);
        next = here.next ∙ up.next;
      }

-- ---- one visit

-- what it waits for, after so much was sent, and nothing else was done
pub record IsSettled {T : Type 0} (d e : Client T) (sent : SentSoFar) (has_more : Bool) : Type 0 where
  pub same : d.connection.is_closing ≡ false → (e.stream ≡ d.stream) × (e.connection.unsent ≡ d.connection.unsent)
  pub times : d.connection.is_closing ≡ false → e.times ≡ d.times
  pub client : d.connection.is_closing ≡ false → e.waits_for ≡ For.Client → (sent ≡ Sent.Part) ⊎ ((sent ≡ Sent.All) × (has_more ≡ false))
  pub visit : d.connection.is_closing ≡ false → e.waits_for ≡ For.Visit → (sent ≡ Sent.All) × (has_more ≡ true)
  pub over : d.connection.is_closing ≡ false → e.waits_for ≡ For.Nothing → sent ≡ Sent.Failed

module _ {T E : Type 0} (begins : Option Ways → Bool) (ways : T → Option Ways) (used_up full failed : T → Type 0) (now : Instant) (status : E → Status) (users : E → List ℕ → Option ℕ) (may_give : E → ℕ → E → Type 0) where
  -- how much was sent, and what that says of what is left
  pub record IsSent (d : Client T) (sent : SentSoFar) : Type 0 where
    pub all : sent ≡ Sent.All → d.connection.unsent ≡ []
    pub part : sent ≡ Sent.Part → (d.connection.unsent ≢ []) × full d.stream
    pub broken : sent ≡ Sent.Failed → (d.connection.unsent ≢ []) × failed d.stream

  -- one that waits for nothing then is closing, or failed with bytes that wait
  done_settled : (d e : Client T) (sent : SentSoFar) (has_more : Bool) → Drains ways d e → IsSent d sent → IsSettled d e sent has_more → e.waits_for ≡ For.Nothing → IsDone failed e
  done_settled d e sent has_more later is settled over = elim (true_or_false e.connection.is_closing) [
    | inl closing ↦ inl closing
    | inr open_still ↦
        let was = sym later.closing ∙ open_still in
        let same = settled.same was in
        let so = is.broken (settled.over was over) in
        inr ((λ none. so.0 (sym same.1 ∙ none)), subst failed (sym same.0) so.1)
  ]

  asked_settled : (before : Option Ways) (d e : Client T) (sent : SentSoFar) (has_more : Bool) → Drains ways d e → (sent ≢ Sent.All → IsAsked before (ways d.stream)) → IsSettled d e sent has_more → e.waits_for ≡ For.Nothing
      → (e.connection.is_closing ≡ true) ⊎ IsAsked before (ways e.stream)
  asked_settled before d e sent has_more later asked settled over = elim (true_or_false e.connection.is_closing) [
    | inl closing ↦ inl closing
    | inr open_still ↦
        let was = sym later.closing ∙ open_still in
        let broken = settled.over was over in
        let other : (sent ≡ Sent.All → ⊥) = λ all. (let x : Sent.Failed ≡ Sent.All = sym broken ∙ all in absurd cc) in
        inr (subst (λ (s : T). IsAsked before (ways s)) (sym (settled.same was).0) (asked other))
  ]

  -- no turn was taken
  pub served_unturned : (c d : Client T) (s : E) → Drains ways c d → IsLeft ways used_up full failed (◌≢◌ {A = List ℕ} [] []) (ways c.stream) d → (d.waits_for ≢ For.Nothing → d.connection.is_closing ≡ false → IsTimed now c d)
      → (d.waits_for ≡ For.Nothing → IsDone failed d) → (d.waits_for ≡ For.Nothing → (d.connection.is_closing ≡ true) ⊎ IsAsked (ways c.stream) (ways d.stream)) → IsServed begins ways used_up full failed now status users may_give c d s s
  served_unturned c d s drains left timed done tried = record {
    by = [];
    visited = drained begins ways status users may_give c d s drains;
    of_one = of_none c.serial;
    serial = drains.serial;
    left = left;
    timed = timed;
    over = λ over. (done over, inr (d, drains, done over, tried over));
  }

  pub served_closing : (c d : Client T) (s : E) → Drains ways c d → c.connection.is_closing ≡ true → IsServed begins ways used_up full failed now status users may_give c d s s
  served_closing c d s drains closing =
      served_unturned c d s drains (λ over open_still. let e : true ≡ false = sym (drains.closing ∙ closing) ∙ open_still in absurd cc)
      (λ over open_still. let e : true ≡ false = sym (drains.closing ∙ closing) ∙ open_still in absurd cc) (λ over. inl (drains.closing ∙ closing))
      (λ over. inl (drains.closing ∙ closing))

  -- its connection failed, or it is closing
  pub served_over : (c d e : Client T) (s : E) (sent : SentSoFar) → Drains ways c d → Drains ways d e → ((sent ≡ Sent.Failed) ⊎ (d.connection.is_closing ≡ true)) → IsSent d sent
      → (sent ≢ Sent.All → IsAsked (ways c.stream) (ways d.stream)) → IsSettled d e sent false → IsServed begins ways used_up full failed now status users may_give c e s s
  served_over c d e s sent here later (inl broken) is asked settled =
      let client : (e.connection.is_closing ≡ false → e.waits_for ≡ For.Client → ⊥) = λ open_still waits. elim (settled.client (sym later.closing ∙ open_still) waits) [
        | inl part ↦ let x : Sent.Failed ≡ Sent.Part = sym broken ∙ part in absurd cc
        | inr all ↦ let x : Sent.Failed ≡ Sent.All = sym broken ∙ all.0 in absurd cc
      ] in
      let visit : (e.connection.is_closing ≡ false → e.waits_for ≡ For.Visit → ⊥) = λ open_still waits. (let x : Sent.Failed ≡ Sent.All = sym broken ∙ (settled.visit (sym later.closing ∙ open_still) waits).0 in absurd cc) in
      served_unturned c e s (drains_then ways c d e here later)
      (left_over ways used_up full failed (◌≢◌ {A = List ℕ} [] []) (ways c.stream) e e.waits_for refl client visit) (timed_over ways used_up full failed now c e e.waits_for refl client visit)
      (done_settled d e sent false later is settled) (asked_settled (ways c.stream) d e sent false later asked settled)
  served_over c d e s sent here later (inr closing) is asked settled = served_unturned c e s (drains_then ways c d e here later)
      (λ over open_still. let x : true ≡ false = sym (later.closing ∙ closing) ∙ open_still in absurd cc)
      (λ over open_still. let x : true ≡ false = sym (later.closing ∙ closing) ∙ open_still in absurd cc)
      (done_settled d e sent false later is settled) (asked_settled (ways c.stream) d e sent false later asked settled)

  left_settled : (are_turns : Type 0) (before : Option Ways) (d e : Client T) (sent : SentSoFar) (has_more : Bool) → Drains ways d e → IsSent d sent → IsSettled d e sent has_more
      → are_turns ⊎ ((sent ≡ Sent.Part) × IsAsked before (ways d.stream)) → (d.connection.is_closing ≡ false → has_more ≡ false → IsUsedUp used_up full d) → IsLeft ways used_up full failed are_turns before e
  left_settled are_turns before d e sent has_more later is settled turned used over open_still =
      let was = sym later.closing ∙ open_still in
      let same = settled.same was in
      left_by ways used_up full failed are_turns before e sent has_more e.waits_for refl (settled.client was) (settled.visit was)
      (λ all. same.1 ∙ is.all all)
      (λ part. ((λ none. (is.part part).0 (sym same.1 ∙ none)), subst full (sym same.0) (is.part part).1))
      (λ none. let u = used was none in record { part = subst IsPartial (sym later.held) u.part; none = subst used_up (sym same.0) u.none })
      (elim turned [ inl h ↦ inl h | inr asked ↦ inr (asked.0, subst (λ (s : T). IsAsked before (ways s)) (sym same.0) asked.1) ])
      over

  partly : (d : Client T) (sent : SentSoFar) → IsSent d sent → d.connection.unsent ≢ [] → sent ≢ Sent.Failed → sent ≡ Sent.Part
  partly d Sent.All is bytes stood = absurd (bytes (is.all refl))
  partly d Sent.Part is bytes stood = refl
  partly d Sent.Failed is bytes stood = absurd (stood refl)

  sent_same : (d e : Client T) (sent : SentSoFar) → e.connection.unsent ≡ d.connection.unsent → d.stream ≡ e.stream → IsSent d sent → IsSent e sent
  sent_same d e sent same stream is = record {
    all = λ all. same ∙ is.all all;
    part = λ part. ((λ none. (is.part part).0 (sym same ∙ none)), subst full stream (is.part part).1);
    broken = λ so. ((λ none. (is.broken so).0 (sym same ∙ none)), subst failed stream (is.broken so).1);
  }

  -- it had no room for a turn
  pub served_full : (c d d' e : Client T) (s : E) (sent : SentSoFar) → Drains ways c d → Drains ways d d' → d'.connection.unsent ≡ d.connection.unsent → d.stream ≡ d'.stream → Drains ways d' e
      → IsSent d sent → (sent ≢ Sent.All → IsAsked (ways c.stream) (ways d.stream)) → d.connection.unsent ≢ [] → sent ≢ Sent.Failed → IsSettled d' e sent true
      → (d'.connection.is_closing ≡ false → KeepsTime now c d') → AreTimed d' → IsServed begins ways used_up full failed now status users may_give c e s s
  served_full c d d' e s sent here noted same stream later is asked bytes stood settled keeps waits =
      let is' = sent_same d d' sent same stream is in
      let asked' : (sent ≢ Sent.All → IsAsked (ways c.stream) (ways d'.stream)) = λ other. subst (λ (s : T). IsAsked (ways c.stream) (ways s)) stream (asked other) in
      let part = partly d sent is bytes stood in
      let other : (sent ≡ Sent.All → ⊥) = λ all. (let x : Sent.Part ≡ Sent.All = sym part ∙ all in absurd cc) in
      served_unturned c e s (drains_then ways c d e here (drains_then ways d d' e noted later))
      (left_settled (◌≢◌ {A = List ℕ} [] []) (ways c.stream) d' e sent true later is' settled (inr (part, asked' other)) (λ open_still more. let x : true ≡ false = more in absurd cc))
      (λ over open_still. let was = sym later.closing ∙ open_still in timed_same now c d' e (keeps was) waits later.held (settled.same was).1 (settled.times was))
      (done_settled d' e sent true later is' settled) (asked_settled (ways c.stream) d' e sent true later asked' settled)

  -- it had turns
  pub served_turned : (c d e f h : Client T) (old new : E) (sent : SentSoFar) (has_more : Bool) → Drains ways c d → TakesTurns begins ways used_up full failed now status users may_give d e old new has_more → Drains ways e f
      → (used_up e.stream → used_up f.stream) → IsSent f sent → Drains ways f h → IsSettled f h sent has_more → IsSentBy now c d → IsSentBy now e f → IsServed begins ways used_up full failed now status users may_give c h old new
  served_turned c d e f h old new sent has_more here takes next keeps is later settled first last = record {
    by = takes.by;
    visited = drained_visited begins ways status users may_give c d h old new takes.by here
        (visited_drained begins ways status users may_give d e h old new takes.by takes.visited (drains_then ways e f h next later));
    of_one = subst (λ n. AreOfOne n takes.by) here.serial takes.of_one;
    serial = later.serial ∙ next.serial ∙ takes.serial ∙ here.serial;
    left = left_settled (takes.by ≢ []) (ways c.stream) f h sent has_more later is settled (inl takes.some)
        (λ open_still none. let u = takes.left (sym next.closing ∙ open_still) none in record { part = subst IsPartial (sym next.held) u.part; none = keeps u.none });
    timed = λ over open_still.
        let was = sym later.closing ∙ open_still in
        let before = sym next.closing ∙ was in
        let turned = takes.keeps before in
        timed_same now c f h
        (keeps_then now c d f (keeps_sent now c d (sym here.closing ∙ turned.open_still) here.held first) (keeps_then now d e f turned (keeps_sent now e f before next.held last)))
        last.timed later.held (settled.same was).1 (settled.times was);
    over = λ over. (done_settled f h sent has_more later is settled over, inl takes.some);
  }

  -- ---- turn after turn

  -- it had n turns, and may have another
  pub record SoFar (n : ℕ) (c d : Client T) (old new : E) : Type 0 where
    pub by : List ℕ
    pub visited : IsVisited begins ways status users may_give by c d old new
    pub its : All (λ w. w ≡ c.serial) by
    pub many : length by ≡ n
    pub serial : d.serial ≡ c.serial
    pub open_still : d.connection.is_closing ≡ false
    pub keeps : KeepsTime now c d

  pub so_far_none : (c : Client T) (s : E) → c.connection.is_closing ≡ false → SoFar 0 c c s s
  so_far_none c s open_still = record {
    by = [];
    visited = drained begins ways status users may_give c c s (drains_none ways c);
    its = All-nil (λ w. w ≡ c.serial);
    many = refl;
    serial = refl;
    open_still = open_still;
    keeps = keeps_none now c open_still;
  }

  -- with one turn more, after which its times alone changed
  visited_more : (n : ℕ) (c d e f : Client T) (old mid new : E) → (so : SoFar n c d old mid) → IsVisited begins ways status users may_give (d.serial ∷ []) d e mid new → Drains ways e f
      → IsVisited begins ways status users may_give (so.by ++ d.serial ∷ []) c f old new
  visited_more n c d e f old mid new so turn noted =
      visited_drained begins ways status users may_give c e f old new (so.by ++ d.serial ∷ [])
      (visited_then begins ways status users may_give c d e old mid new so.by (d.serial ∷ []) so.visited turn) noted

  pub so_far_more : (n : ℕ) (c d e f : Client T) (old mid new : E) → SoFar n c d old mid → IsVisited begins ways status users may_give (d.serial ∷ []) d e mid new → e.serial ≡ d.serial → Drains ways e f
      → e.connection.is_closing ≡ false → KeepsTime now d f → SoFar (n + 1) c f old new
  so_far_more n c d e f old mid new so turn serial noted open_still keeps = record {
    by = so.by ++ d.serial ∷ [];
    visited = visited_more n c d e f old mid new so turn noted;
    its = one_more c.serial d.serial so.by so.its so.serial;
    many = let l = longer d.serial so.by in omega (arith, l, so.many);
    serial = noted.serial ∙ serial ∙ so.serial;
    open_still = noted.closing ∙ open_still;
    keeps = keeps_then now c d f so.keeps keeps;
  }

  pub takes_more : (n : ℕ) (c d e f : Client T) (old mid new : E) (has_more : Bool) → n < most_turns → SoFar n c d old mid → IsVisited begins ways status users may_give (d.serial ∷ []) d e mid new → e.serial ≡ d.serial
      → Drains ways e f → (e.connection.is_closing ≡ false → has_more ≡ false → IsUsedUp used_up full e) → f.stream ≡ e.stream → KeepsTime now d f → TakesTurns begins ways used_up full failed now status users may_give c f old new has_more
  takes_more n c d e f old mid new has_more few so turn serial noted left stream keeps = record {
    by = so.by ++ d.serial ∷ [];
    visited = visited_more n c d e f old mid new so turn noted;
    some = some_more d.serial so.by;
    of_one = record { its = one_more c.serial d.serial so.by so.its so.serial; few = let l = longer d.serial so.by in omega (arith, l, so.many, few) };
    serial = noted.serial ∙ serial ∙ so.serial;
    left = λ open_still none.
        let u = left (sym noted.closing ∙ open_still) none in
        record { part = subst IsPartial (sym noted.held) u.part; none = subst used_up (sym stream) u.none };
    keeps = λ open_still. keeps_then now c d f so.keeps keeps;
  }

  -- it had all that it may have at once
  pub takes_all : (n : ℕ) (c d : Client T) (old new : E) → n ≡ most_turns → SoFar n c d old new → TakesTurns begins ways used_up full failed now status users may_give c d old new true
  takes_all n c d old new all so = record {
    by = so.by;
    visited = so.visited;
    some = λ none. let e = ap length none in omega (arith, e, so.many, all);
    of_one = record { its = so.its; few = omega (arith, so.many, all) };
    serial = so.serial;
    left = λ open_still none. let e : true ≡ false = none in absurd cc;
    keeps = λ open_still. so.keeps;
  }
