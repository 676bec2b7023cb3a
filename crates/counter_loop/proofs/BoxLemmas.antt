-- Connections under their numbers, from turn to turn.
use Rattle.std.proofs.Common.{◌≡◌, ◌≢◌, ◌⊎◌, ℕ, Bool, true, false, if◌then◌else◌, inl, inr, List, [], ◌∷◌, ◌++◌, Contains, Option, Some, None, Result, refl, sym, ap, subst, ◌∙◌, arith, append-nil, append_assoc}
use Rattle.std.specs.Prelude.{unwrap_or}
use Rattle.std.proofs.lemmas.Bool.{cases_eq, eq-eqb, ne_eqb}
use Rattle.std.proofs.lemmas.List.Elements.{Contains-append_right}
use Rattle.store_rows.specs.Status.{Status}
use Rattle.counter_loop.specs.Attended.{IsSince}
use Rattle.counter_loop.specs.Turns.{AreTurns, StoreAndClock, Box, Boxes, GoesOn, IsTurnTaken, IsLast, IsOneTurn, IsThere, Turn, as_store_and_clock, whose, with_box}
use Rattle.counter_loop.specs.Round.{Round}
use Rattle.counter_loop.specs.Boxes.{AreServed, AreVisited, Drains, HasTurns, IsBoxed, IsDone, IsOver, IsRefused, IsStuck, IsVisited, Reads, Suits}
use Rattle.counter_door.specs.Ways.{IsAsked, IsReadBy, Moves, Ways}
use Rattle.counter_loop.specs.declared.client.Client.{Client}
use Rattle.counter_loop.specs.declared.clients.Clients.{Clients}
use Rattle.counter_door.proofs.WayLemmas.{came_by, moves_none, moves_same, moves_then}

pub some_same : {A : Type 0} (x y z : A) → Some x ≡ Some y → x ≡ y
some_same x y z is = ap (λ o. unwrap_or o z) is

-- ---- one connection

since_then : (box : Box) (now later : Option Ways) (rest left : List ℕ) → IsSince box now rest → (out : List ℕ) → rest ≡ out ++ left → (read_since : List ℕ) → (box.is_over ≡ false → read_since ≡ [])
    → Moves now later read_since out → IsSince box later left
since_then box now later rest left since out is read_since none_received moved = record {
  out = since.out ++ out;
  waits = since.waits ∙ ap (λ l. since.out ++ l) is ∙ sym (append_assoc since.out out left);
  read_since = since.read_since ++ read_since;
  none_received = λ open_still. ap (λ l. l ++ read_since) (since.none_received open_still) ∙ none_received open_still;
  moved = moves_then box.ways now later since.read_since read_since since.out out since.moved moved;
}

module _ {T : Type 0} (ways : T → Option Ways) where
  pub drains_none : (c : Client T) → Drains ways c c
  drains_none c = record { serial = refl; held = refl; closing = refl; out = []; unsent = refl; read_since = []; none_received = λ open_still. refl; moved = moves_none (ways c.stream) }

  pub drains_then : (c d e : Client T) → Drains ways c d → Drains ways d e → Drains ways c e
  drains_then c d e here later = record {
    serial = later.serial ∙ here.serial;
    held = later.held ∙ here.held;
    closing = later.closing ∙ here.closing;
    out = here.out ++ later.out;
    unsent = here.unsent ∙ ap (λ l. here.out ++ l) later.unsent ∙ sym (append_assoc here.out later.out e.connection.unsent);
    read_since = here.read_since ++ later.read_since;
    none_received = λ open_still. ap (λ l. l ++ later.read_since) (here.none_received open_still) ∙ later.none_received (here.closing ∙ open_still);
    moved = moves_then (ways c.stream) (ways d.stream) (ways e.stream) here.read_since later.read_since here.out later.out here.moved later.moved;
  }

  -- nothing went out, and its stream is as it was
  pub drains_same : (c d : Client T) → d.serial ≡ c.serial → d.connection.held ≡ c.connection.held → d.connection.is_closing ≡ c.connection.is_closing → c.connection.unsent ≡ d.connection.unsent → c.stream ≡ d.stream → Drains ways c d
  drains_same c d serial inbox closing outbox stream = record {
    serial = serial;
    held = inbox;
    closing = closing;
    out = [];
    unsent = outbox;
    read_since = [];
    none_received = λ open_still. refl;
    moved = subst (λ s. Moves (ways c.stream) (ways s) [] []) stream (moves_none (ways c.stream));
  }

  -- what was read of one that is closing is let go
  pub received_more : {E : Type 0} (c d e : Client T) (r : Result ℕ E) (buf : List ℕ) → Drains ways c d → d.connection.is_closing ≡ true → e.serial ≡ d.serial → e.connection.held ≡ d.connection.held → e.connection.is_closing ≡ d.connection.is_closing
      → d.connection.unsent ≡ e.connection.unsent → IsReadBy (ways d.stream) (ways e.stream) r buf → Drains ways c e
  received_more c d e r buf here closing serial inbox still outbox is =
      let came = came_by (ways d.stream) (ways e.stream) r buf is in
      drains_then c d e here (record {
        serial = serial;
        held = inbox;
        closing = still;
        out = [];
        unsent = outbox;
        read_since = came.0;
        none_received = λ open_still. let x : true ≡ false = sym closing ∙ open_still in absurd cc;
        moved = came.1;
      })

  -- nothing was read yet
  pub reads_none : (c : Client T) → Reads ways c c
  reads_none c = record { serial = refl; closing = refl; unsent = refl; came = []; held = sym (append-nil c.connection.held); moved = moves_none (ways c.stream) }

  pub reads_then : (c d e : Client T) → Reads ways c d → Reads ways d e → Reads ways c e
  reads_then c d e here later = record {
    serial = later.serial ∙ here.serial;
    closing = later.closing ∙ here.closing;
    unsent = later.unsent ∙ here.unsent;
    came = here.came ++ later.came;
    held = later.held ∙ ap (λ l. l ++ later.came) here.held ∙ append_assoc c.connection.held here.came later.came;
    moved = moves_then (ways c.stream) (ways d.stream) (ways e.stream) here.came later.came [] [] here.moved later.moved;
  }

module _ {T : Type 0} (begins : Option Ways → Bool) (ways : T → Option Ways) where
  pub boxed_drains : (boxes : Boxes) (c d : Client T) → Drains ways c d → IsBoxed begins ways boxes c → IsBoxed begins ways boxes d
  boxed_drains boxes c d drains is = record {
    box = is.box;
    there = subst (λ n. IsThere begins (boxes n) is.box) (sym drains.serial) is.there;
    over = is.over ∙ sym drains.closing;
    held = λ open_still. is.held open_still ∙ sym drains.held;
    since = since_then is.box (ways c.stream) (ways d.stream) c.connection.unsent d.connection.unsent is.since drains.out drains.unsent drains.read_since (λ open_still. drains.none_received (sym is.over ∙ open_still)) drains.moved;
  }

  -- what is said of a number of which nothing changed
  pub boxed_there : (boxes after : Boxes) (c : Client T) → after c.serial ≡ boxes c.serial → IsBoxed begins ways boxes c → IsBoxed begins ways after c
  boxed_there boxes after c same is = record { box = is.box; there = subst (λ o. IsThere begins o is.box) (sym same) is.there; over = is.over; held = is.held; since = is.since }

its_place : (boxes : Boxes) (who : ℕ) (next : Box) (n : ℕ) → who ≡ n → with_box boxes who next n ≡ Some next
its_place boxes who next n is = ap (λ s. if s then Some next else boxes n) (eq-eqb who n is)

other_place : (boxes : Boxes) (who : ℕ) (next : Box) (n : ℕ) → (who ≡ n → ⊥) → with_box boxes who next n ≡ boxes n
other_place boxes who next n differs = ap (λ s. if s then Some next else boxes n) (ne_eqb who n differs)

module _ {S C : Type 0} (begins : Option Ways → Bool) (status : S → Status) (users : List ℕ → Option ℕ) (may_give : C → ℕ → C → Type 0) where
  turns_then : (boxes between after : Boxes) (a b c : StoreAndClock S C) (ts us : List Turn) → AreTurns begins status users may_give boxes a ts between b → AreTurns begins status users may_give between b us after c
      → AreTurns begins status users may_give boxes a (ts ++ us) after c
  turns_then boxes between after a b c [] us here later =
      subst (λ x. AreTurns begins status users may_give x a us after c) here.0 (subst (λ s. AreTurns begins status users may_give between s us after c) here.1 later)
  turns_then boxes between after a b c (t ∷ ts) us (before, there, next, mid, turn, rest) later =
      (before, there, next, mid, turn, turns_then (with_box boxes t.who next) between after mid b c ts us rest later)

pub whose_then : (ts us : List Turn) (vs ws : List ℕ) → whose ts ≡ vs → whose us ≡ ws → whose (ts ++ us) ≡ vs ++ ws
whose_then [] us vs ws here later = later ∙ ap (λ l. l ++ ws) here
whose_then (t ∷ ts) us vs ws here later = ap (λ l. t.who ∷ l) (whose_then ts us (whose ts) ws refl later) ∙ ap (λ l. l ++ ws) here

module _ {T E : Type 0} (begins : Option Ways → Bool) (ways : T → Option Ways) (status : E → Status) (users : E → List ℕ → Option ℕ) (may_give : E → ℕ → E → Type 0) where
  -- later turns name the same users
  named : (boxes after : Boxes) (old mid new : E) (us : List Turn) → users mid ≡ users old → AreTurns begins status (users mid) may_give boxes (as_store_and_clock mid) us after (as_store_and_clock new)
      → AreTurns begins status (users old) may_give boxes (as_store_and_clock mid) us after (as_store_and_clock new)
  named boxes after old mid new us same turns = subst (λ u. AreTurns begins status u may_give boxes (as_store_and_clock mid) us after (as_store_and_clock new)) same turns

  -- ---- the turns of one connection

  pub turns_none : (boxes : Boxes) (c d : Client T) (s : E) → Drains ways c d → IsBoxed begins ways boxes c → HasTurns begins ways status users may_give [] boxes c d s s
  turns_none boxes c d s drains is = record {
    turns = [];
    after = boxes;
    are_turns = (refl, refl);
    by = refl;
    others = λ n other. refl;
    serial = drains.serial;
    boxed = boxed_drains begins ways boxes c d drains is;
    same = refl;
  }

  pub drained : (c d : Client T) (s : E) → Drains ways c d → IsVisited begins ways status users may_give [] c d s s
  drained c d s drains boxes is = turns_none boxes c d s drains is

  pub turns_more : (boxes : Boxes) (c d e : Client T) (old mid new : E) (vs ws : List ℕ) → HasTurns begins ways status users may_give vs boxes c d old mid
      → IsVisited begins ways status users may_give ws d e mid new → HasTurns begins ways status users may_give (vs ++ ws) boxes c e old new
  turns_more boxes c d e old mid new vs ws here more =
      let later = more here.after here.boxed in
      record {
        turns = here.turns ++ later.turns;
        after = later.after;
        are_turns = turns_then begins status (users old) may_give boxes here.after later.after (as_store_and_clock old) (as_store_and_clock mid) (as_store_and_clock new) here.turns later.turns here.are_turns
            (named here.after later.after old mid new later.turns here.same later.are_turns);
        by = whose_then here.turns later.turns vs ws here.by later.by;
        others = λ n other. later.others n (λ same. other (same ∙ here.serial)) ∙ here.others n other;
        serial = later.serial ∙ here.serial;
        boxed = later.boxed;
        same = later.same ∙ here.same;
      }

  pub visited_drained : (c d e : Client T) (old new : E) (ws : List ℕ) → IsVisited begins ways status users may_give ws c d old new → Drains ways d e
      → IsVisited begins ways status users may_give ws c e old new
  visited_drained c d e old new ws visited drains boxes is =
      subst (λ l. HasTurns begins ways status users may_give l boxes c e old new) (append-nil ws) (turns_more boxes c d e old new new ws [] (visited boxes is) (drained d e new drains))

  pub drained_visited : (c d e : Client T) (old new : E) (ws : List ℕ) → Drains ways c d → IsVisited begins ways status users may_give ws d e old new
      → IsVisited begins ways status users may_give ws c e old new
  drained_visited c d e old new ws drains visited boxes is = turns_more boxes c d e old old new [] ws (turns_none boxes c d old drains is) visited

  pub visited_then : (c d e : Client T) (old mid new : E) (vs ws : List ℕ) → IsVisited begins ways status users may_give vs c d old mid → IsVisited begins ways status users may_give ws d e mid new
      → IsVisited begins ways status users may_give (vs ++ ws) c e old new
  visited_then c d e old mid new vs ws here later boxes is = turns_more boxes c d e old mid new vs ws (here boxes is) later

  -- ---- one turn

  -- what there is of a connection after it
  abbrev next_box : Client T → Client T → Turn → Bool → Box
  next_box c d made is_over = record { ways = ways d.stream; held = made.held; waits = c.connection.unsent ++ made.sent; is_over = is_over }

  -- this was said of a turn
  abbrev pub Takes : Client T → Client T → E → E → Bool → List ℕ → Type 0
  Takes c d old new is_over gave =
      IsTurnTaken status (users old) may_give c.serial gave (ways c.stream) (ways d.stream) c.connection.held d.connection.held c.connection.unsent d.connection.unsent (as_store_and_clock old) (as_store_and_clock new) is_over

  -- it goes on, or was the last
  abbrev Ends : E → List ℕ → E → E → Turn → Bool → Type 0
  Ends e held old new made is_over =
      (GoesOn status (users e) may_give held (as_store_and_clock old) (as_store_and_clock new) made × (is_over ≡ false)) ⊎ (IsLast status (users e) may_give held (as_store_and_clock old) (as_store_and_clock new) made × (is_over ≡ true))

  -- the turn of which this was said, as one of many
  one_turn : (boxes : Boxes) (c d : Client T) (old new : E) (is_over : Bool) (is : IsBoxed begins ways boxes c) → c.connection.is_closing ≡ false → (h : Takes c d old new is_over is.since.out)
      → Ends old is.box.held old new h.made is_over → IsOneTurn status (users old) may_give is.box (next_box c d h.made is_over) (as_store_and_clock old) (as_store_and_clock new) h.made
  one_turn boxes c d old new is_over is open_still h ends = record {
    open_still = is.over ∙ open_still;
    left = c.connection.unsent;
    waited = is.since.waits ∙ ap (λ l. l ++ c.connection.unsent) (sym h.given);
    between = ways c.stream;
    sent = moves_same is.box.ways (ways c.stream) _ _ _ _ (is.since.none_received (is.over ∙ open_still)) (sym h.given) is.since.moved;
    read = h.read;
    waits = refl;
    held = refl;
    bounded = h.bounded;
    is = ends;
    ended = h.ended;
  }

  taken_one : (boxes : Boxes) (c d : Client T) (old new : E) (is_over : Bool) (is : IsBoxed begins ways boxes c) → c.connection.is_closing ≡ false → (h : Takes c d old new is_over is.since.out)
      → Ends old is.box.held old new h.made is_over → d.serial ≡ c.serial → d.connection.is_closing ≡ is_over → users new ≡ users old → HasTurns begins ways status users may_give (c.serial ∷ []) boxes c d old new
  taken_one boxes c d old new is_over is open_still h ends serial closing same =
      let next = next_box c d h.made is_over in
      record {
        turns = h.made ∷ [];
        after = with_box boxes h.made.who next;
        are_turns = (is.box, subst (λ n. IsThere begins (boxes n) is.box) (sym h.its) is.there, next, as_store_and_clock new, one_turn boxes c d old new is_over is open_still h ends, (refl, refl));
        by = ap (λ n. n ∷ []) h.its;
        others = λ n other. other_place boxes h.made.who next n (λ same. other (sym same ∙ h.its));
        serial = serial;
        boxed = record {
          box = next;
          there = subst (λ o. IsThere begins o next) (sym (its_place boxes h.made.who next d.serial (h.its ∙ sym serial))) refl;
          over = sym closing;
          held = λ goes. sym (h.kept goes);
          since = record { out = []; waits = sym h.sent; read_since = []; none_received = λ goes. refl; moved = moves_none (ways d.stream) };
        };
        same = same;
      }

  pub visited_taken : (c d : Client T) (old new : E) (is_over : Bool) → c.connection.is_closing ≡ false → d.serial ≡ c.serial → d.connection.is_closing ≡ is_over → users new ≡ users old → ((gave : List ℕ) → Takes c d old new is_over gave)
      → IsVisited begins ways status users may_give (c.serial ∷ []) c d old new
  visited_taken c d old new is_over open_still serial closing same are_turns boxes is =
      let h = are_turns is.since.out in
      taken_one boxes c d old new is_over is open_still h (subst (λ l. Ends old l old new h.made is_over) (sym (is.held (is.over ∙ open_still))) h.is) serial closing same

-- ---- what is said of one that is done

pub no_rest : {A : Type 0} (out rest : List A) → out ++ rest ≡ [] → rest ≡ []
no_rest [] rest none = none
no_rest (x ∷ out) rest none = let e : x ∷ (out ++ rest) ≡ [] = none in absurd cc

-- one had a turn among these, or what there is of it stays as it was
module _ {S C : Type 0} (begins : Option Ways → Bool) (status : S → Status) (users : List ℕ → Option ℕ) (may_give : C → ℕ → C → Type 0) where
  pub turn_or_same : (boxes after : Boxes) (old new : StoreAndClock S C) (ts : List Turn) (k : ℕ) → AreTurns begins status users may_give boxes old ts after new → Contains (whose ts) k ⊎ (after k ≡ boxes k)
  turn_or_same boxes after old new [] k are_turns = inr (ap (λ (b : Boxes). b k) are_turns.0)
  turn_or_same boxes after old new (t ∷ ts) k (before, there, next, mid, turn, rest) = elim (cases_eq t.who k) [
    | inl same ↦ inl (subst (Contains (t.who ∷ whose ts)) same (0, omega arith, refl))
    | inr differs ↦ elim (turn_or_same (with_box boxes t.who next) after mid new ts k rest) [
      | inl later ↦ inl (Contains-append_right (t.who ∷ []) (whose ts) k later)
      | inr still ↦ inr (still ∙ ap (λ s. if s then Some next else boxes k) (ne_eqb t.who k differs))
    ]
  ]

module _ {T : Type 0} (begins : Option Ways → Bool) (ways : T → Option Ways) (full failed : T → Type 0) where
  over_at : (boxes : Boxes) (n : ℕ) (o : Option Box) (b : Box) → boxes n ≡ o → IsThere begins o b → b.is_over ≡ true → IsOver boxes n
  over_at boxes n None b is there over = let e : true ≡ false = sym over ∙ there.3 in absurd cc
  over_at boxes n (Some x) b is there over = (x, is, ap (λ (y : Box). y.is_over) (sym there) ∙ over)

  stuck_at : (boxes : Boxes) (n : ℕ) (o : Option Box) (b : Box) (stream : T) (rest : List ℕ) → boxes n ≡ o → IsThere begins o b → IsSince b (ways stream) rest → rest ≢ [] → full stream ⊎ failed stream
      → IsStuck ways full failed boxes n
  stuck_at boxes n None b stream rest is there since some refused = absurd (some (no_rest since.out rest (sym since.waits ∙ there.2)))
  stuck_at boxes n (Some x) b stream rest is there since some refused =
      record { box = b; there = is ∙ ap Some (sym there); stream = stream; rest = rest; since = since; some = some; refused = refused }

  pub over_of : (boxes : Boxes) (c : Client T) (n : ℕ) → c.serial ≡ n → IsBoxed begins ways boxes c → c.connection.is_closing ≡ true → IsOver boxes n
  over_of boxes c n serial b closing = over_at boxes n (boxes n) b.box refl (subst (λ m. IsThere begins (boxes m) b.box) serial b.there) (b.over ∙ closing)

  pub stuck_of : (boxes : Boxes) (c : Client T) (n : ℕ) → c.serial ≡ n → IsBoxed begins ways boxes c → c.connection.unsent ≢ [] → full c.stream ⊎ failed c.stream → IsStuck ways full failed boxes n
  stuck_of boxes c n serial b some refused =
      stuck_at boxes n (boxes n) b.box c.stream c.connection.unsent refl (subst (λ m. IsThere begins (boxes m) b.box) serial b.there) b.since some refused

  refused_at : (boxes : Boxes) (n : ℕ) (o : Option Box) (b : Box) (stream : T) (rest : List ℕ) (before : Option Ways) → boxes n ≡ o → IsThere begins o b → IsSince b (ways stream) rest → rest ≢ []
      → full stream ⊎ failed stream → IsAsked before (ways stream) → IsRefused ways full failed before boxes n
  refused_at boxes n None b stream rest before is there since some refused asked = absurd (some (no_rest since.out rest (sym since.waits ∙ there.2)))
  refused_at boxes n (Some x) b stream rest before is there since some refused asked = record {
    stuck = record { box = b; there = is ∙ ap Some (sym there); stream = stream; rest = rest; since = since; some = some; refused = refused };
    asked = asked;
  }

  pub refused_of : (boxes : Boxes) (c : Client T) (n : ℕ) (before : Option Ways) → c.serial ≡ n → IsBoxed begins ways boxes c → c.connection.unsent ≢ [] → full c.stream ⊎ failed c.stream → IsAsked before (ways c.stream)
      → IsRefused ways full failed before boxes n
  refused_of boxes c n before serial b some refused asked =
      refused_at boxes n (boxes n) b.box c.stream c.connection.unsent before refl (subst (λ m. IsThere begins (boxes m) b.box) serial b.there) b.since some refused asked

  -- one that is over with no turn
  pub gone_of : (boxes : Boxes) (c : Client T) (n : ℕ) (before : Option Ways) → c.serial ≡ n → IsBoxed begins ways boxes c → IsDone failed c → (c.connection.is_closing ≡ true) ⊎ IsAsked before (ways c.stream)
      → IsOver boxes n ⊎ IsRefused ways full failed before boxes n
  gone_of boxes c n before serial b done (inl closing) = inl (over_of boxes c n serial b closing)
  gone_of boxes c n before serial b (inl closing) (inr asked) = inl (over_of boxes c n serial b closing)
  gone_of boxes c n before serial b (inr (some, broken)) (inr asked) = inr (refused_of boxes c n before serial b some (inr broken) asked)

  -- of which nothing changed since
  pub still_over : (boxes after : Boxes) (n : ℕ) → after n ≡ boxes n → IsOver boxes n → IsOver after n
  still_over boxes after n same (box, is, over) = (box, same ∙ is, over)

  pub still_refused : (boxes after : Boxes) (n : ℕ) (before : Option Ways) → after n ≡ boxes n → IsRefused ways full failed before boxes n → IsRefused ways full failed before after n
  still_refused boxes after n before same is = record {
    stuck = record {
      box = is.stuck.box;
      there = same ∙ is.stuck.there;
      stream = is.stuck.stream;
      rest = is.stuck.rest;
      since = is.stuck.since;
      some = is.stuck.some;
      refused = is.stuck.refused;
    };
    asked = is.asked;
  }

-- ---- all of them

module _ {T E : Type 0} (begins : Option Ways → Bool) (ways : T → Option Ways) (full failed : T → Type 0) (status : E → Status) (users : E → List ℕ → Option ℕ) (may_give : E → ℕ → E → Type 0) where
  pub served_none : (rounds : List Round) (clients : Clients T) (boxes : Boxes) (s : E) → Suits begins ways full failed rounds clients boxes → AreServed begins ways full failed status users may_give [] rounds boxes clients s s
  served_none rounds clients boxes s suits = record { turns = []; after = boxes; are_turns = (refl, refl); by = refl; suits = suits; same = refl }

  pub served_more : (rounds : List Round) (c d : Clients T) (boxes : Boxes) (old mid new : E) (vs ws : List ℕ) → AreServed begins ways full failed status users may_give vs rounds boxes c old mid
      → AreVisited begins ways full failed status users may_give ws c d mid new → AreServed begins ways full failed status users may_give (vs ++ ws) rounds boxes d old new
  served_more rounds c d boxes old mid new vs ws here more =
      let later = more rounds here.after here.suits in
      record {
        turns = here.turns ++ later.turns;
        after = later.after;
        are_turns = turns_then begins status (users old) may_give boxes here.after later.after (as_store_and_clock old) (as_store_and_clock mid) (as_store_and_clock new) here.turns later.turns here.are_turns
            (named begins ways status users may_give here.after later.after old mid new later.turns here.same later.are_turns);
        by = whose_then here.turns later.turns vs ws here.by later.by;
        suits = later.suits;
        same = later.same ∙ here.same;
      }

  pub visited_none : (clients : Clients T) (s : E) → AreVisited begins ways full failed status users may_give [] clients clients s s
  visited_none clients s rounds boxes suits = served_none rounds clients boxes s suits

  pub all_then : (c d e : Clients T) (old mid new : E) (vs ws : List ℕ) → AreVisited begins ways full failed status users may_give vs c d old mid → AreVisited begins ways full failed status users may_give ws d e mid new
      → AreVisited begins ways full failed status users may_give (vs ++ ws) c e old new
  all_then c d e old mid new vs ws here later rounds boxes suits = served_more rounds d e boxes old mid new vs ws (here rounds boxes suits) later
