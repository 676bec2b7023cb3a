-- What went out to a connection is a beginning of what was put into its outbox, and went out to its own stream.
use Rattle.std.proofs.Common.{◌≡◌, ℕ, Bool, true, false, if◌then◌else◌, List, [], ◌∷◌, ◌++◌, inl, inr, Option, Some, None, Contains, arith, map, refl, sym, ap, subst, ◌∙◌, append-nil, append_assoc}
use Rattle.std.specs.Prelude.{nat_eq}
use Rattle.std.proofs.lemmas.Bool.{eq-eqb, eqb-true}
use Rattle.std.proofs.lemmas.List.Elements.{Contains-append_cases, Contains-push_cases}
use Rattle.reports.specs.Report.{BeginsWith}
use Rattle.store_rows.specs.Status.{Status}
use Rattle.counter_loop.specs.Attended.{EndAs, EndsAs, IsOneStream, IsSince}
use Rattle.counter_loop.specs.Boxes.{ArePartedAs}
use Rattle.counter_loop.specs.Turns.{AreTurns, StoreAndClock, Box, Boxes, IsOneTurn, IsThere, Turn, nothing_yet, of_one, whose, with_box}
use Rattle.counter_door.specs.Ways.{Moves, Ways}
use Rattle.counter_loop.proofs.BoxLemmas.{turn_or_same}
use Rattle.counter_loop.proofs.PartLemmas.{waits_before, waits_of}
use Rattle.counter_door.proofs.WayLemmas.{moves_none, moves_same, moves_then}

pub handed_step : (b before gave left sent later handed : List ℕ) (same : Bool) → (same ≡ true → before ≡ b) → before ≡ gave ++ left → (same ≡ true → BeginsWith ((left ++ sent) ++ later) handed)
    → (same ≡ false → BeginsWith (b ++ later) handed) → BeginsWith (b ++ ((if same then sent else []) ++ later)) ((if same then gave else []) ++ handed)
handed_step b before gave left sent later handed true is waited goes other =
    let rest = goes refl in (
      rest.0,
      ap (λ x. x ++ (sent ++ later)) (sym (is refl) ∙ waited) ∙ append_assoc gave left (sent ++ later)
          ∙ ap (λ x. gave ++ x) (sym (append_assoc left sent later) ∙ rest.1) ∙ sym (append_assoc gave handed rest.0),
    )
handed_step b before gave left sent later handed false is waited goes other = other refl

-- From what there was of a connection, before its first turn too, to what there is: what was read of its stream, what went out to that, and
-- what was put into its outbox.
pub record Flows (begins : Option Ways → Bool) (o : Option Box) (box : Box) (came gave sent : List ℕ) : Type 0 where
  pub first : Box
  pub there : IsThere begins o first
  pub moved : Moves first.ways box.ways came gave
  pub waits : first.waits ++ sent ≡ gave ++ box.waits

flows_none : (begins : Option Ways → Bool) (o : Option Box) (box : Box) → o ≡ Some box → Flows begins o box [] [] []
flows_none begins o box is = record { first = box; there = subst (λ x. IsThere begins x box) (sym is) refl; moved = moves_none box.ways; waits = append-nil box.waits }

flows_step : (begins : Option Ways → Bool) (k : ℕ) (boxes : Boxes) (t : Turn) (box : Box) (came gave sent : List ℕ)
    → (nat_eq t.who k ≡ true → Flows begins (boxes k) box (t.came ++ came) (t.gave ++ gave) (t.sent ++ sent)) → (nat_eq t.who k ≡ false → Flows begins (boxes k) box came gave sent)
    → (same : Bool) → nat_eq t.who k ≡ same
    → Flows begins (boxes k) box ((if same then t.came else []) ++ came) ((if same then t.gave else []) ++ gave) ((if same then t.sent else []) ++ sent)
flows_step begins k boxes t box came gave sent here later true same = here same
flows_step begins k boxes t box came gave sent here later false other = later other

nothing_before : (out rest : List ℕ) → out ++ rest ≡ [] → out ≡ []
nothing_before [] rest none = refl
nothing_before (x ∷ out) rest none = let e : x ∷ (out ++ rest) ≡ [] = none in absurd cc

neither : (same : Bool) (x : Box) (o : Option Box) → (if same then Some x else o) ≡ None → (same ≡ false) × (o ≡ None)
neither true x o none = let e : Some x ≡ None = none in absurd cc
neither false x o none = (refl, none)

module _ {S C : Type 0} (begins : Option Ways → Bool) (status : S → Status) (users : List ℕ → Option ℕ) (may_give : C → ℕ → C → Type 0) where
  flows_on : (o o' : Option Box) (before next box : Box) (t : Turn) (old mid : StoreAndClock S C) (came gave sent : List ℕ) → IsThere begins o before → IsOneTurn status users may_give before next old mid t
      → o' ≡ Some next → Flows begins o' box came gave sent → Flows begins o box (t.came ++ came) (t.gave ++ gave) (t.sent ++ sent)
  flows_on o o' before next box t old mid came gave sent there turn is following =
      let same : following.first ≡ next = subst (λ x. IsThere begins x following.first) is following.there in
      let first : Moves before.ways next.ways t.came t.gave = moves_same before.ways next.ways _ _ _ _ refl (append-nil t.gave) (moves_then before.ways turn.between next.ways [] t.came t.gave [] turn.sent turn.read) in
      record {
        first = before;
        there = there;
        moved = moves_then before.ways next.ways box.ways t.came came t.gave gave first (subst (λ (x : Box). Moves x.ways box.ways came gave) same following.moved);
        waits =
            ap (λ l. l ++ (t.sent ++ sent)) turn.waited ∙ append_assoc t.gave turn.left (t.sent ++ sent)
            ∙ ap (λ l. t.gave ++ l) (sym (append_assoc turn.left t.sent sent) ∙ ap (λ l. l ++ sent) (sym turn.waits) ∙ ap (λ (x : Box). x.waits ++ sent) (sym same) ∙ following.waits)
            ∙ sym (append_assoc t.gave gave box.waits);
      }

  flows : (k : ℕ) (box : Box) (boxes : Boxes) (old new : StoreAndClock S C) (after : Boxes) (ts : List Turn) → after k ≡ Some box → AreTurns begins status users may_give boxes old ts after new
      → Flows begins (boxes k) box (of_one k (λ t. t.came) ts) (of_one k (λ t. t.gave) ts) (of_one k (λ t. t.sent) ts)
  flows k box boxes old new after [] is turns = flows_none begins (boxes k) box (sym (ap (λ (b : Boxes). b k) turns.0) ∙ is)
  flows k box boxes old new after (t ∷ ts) is (before, there, next, mid, turn, rest) =
      let following = flows k box (with_box boxes t.who next) mid new after ts is rest in
      flows_step begins k boxes t box _ _ _
      (λ same. flows_on (boxes k) (with_box boxes t.who next k) before next box t old mid _ _ _ (subst (λ n. IsThere begins (boxes n) before) (eqb-true t.who k same) there) turn
      (ap (λ s. if s then Some next else boxes k) same) following)
      (λ other. subst (λ o. Flows begins o box (of_one k (λ t. t.came) ts) (of_one k (λ t. t.gave) ts) (of_one k (λ t. t.sent) ts)) (ap (λ s. if s then Some next else boxes k) other) following)
      (nat_eq t.who k) refl

  -- of one that had a turn, to its stream as that is now
  ends_so : (k : ℕ) (box : Box) (last : Option Ways) (rest : List ℕ) (old new : StoreAndClock S C) (after : Boxes) (ts : List Turn) → after k ≡ Some box → IsSince box last rest
      → AreTurns begins status users may_give nothing_yet old ts after new → EndsAs begins k ts last
  ends_so k box last rest old new after ts is since turns =
      let f = flows k box nothing_yet old new after ts is turns in
      record {
        first = f.first.ways;
        begun = f.there.0;
        read_since = since.read_since;
        none_received = λ none. elim (turn_or_same begins status users may_give nothing_yet after old new ts k turns) [
          | inl turned ↦ absurd (none turned)
          | inr same ↦ let e : None ≡ Some box = sym same ∙ is in absurd cc
        ];
        out = since.out;
        moved = moves_then f.first.ways box.ways last _ since.read_since _ since.out f.moved since.moved;
        due = (
          rest,
          ap (λ l. l ++ of_one k (λ t. t.sent) ts) (sym f.there.2) ∙ f.waits ∙ ap (λ l. of_one k (λ t. t.gave) ts ++ l) since.waits ∙ sym (append_assoc (of_one k (λ t. t.gave) ts) since.out rest),
        );
      }

  -- one that is not there had no turn
  none_of : (k : ℕ) (part : Turn → List ℕ) (boxes after : Boxes) (old new : StoreAndClock S C) (ts : List Turn) → after k ≡ None → AreTurns begins status users may_give boxes old ts after new → (boxes k ≡ None) × (of_one k part ts ≡ [])
  none_of k part boxes after old new [] none turns = (sym (ap (λ (b : Boxes). b k) turns.0) ∙ none, refl)
  none_of k part boxes after old new (t ∷ ts) none (before, there, next, mid, turn, rest) =
      let later = none_of k part (with_box boxes t.who next) after mid new ts none rest in
      let here = neither (nat_eq t.who k) next (boxes k) later.0 in
      (here.1, ap (λ s. (if s then part t else []) ++ of_one k part ts) here.0 ∙ later.1)

  pub no_turn : (k : ℕ) (boxes after : Boxes) (old new : StoreAndClock S C) (ts : List Turn) → after k ≡ None → AreTurns begins status users may_give boxes old ts after new → Contains (whose ts) k → ⊥
  no_turn k boxes after old new [] none turns has = let small = has.1 in omega (arith, small)
  no_turn k boxes after old new (t ∷ ts) none (before, there, next, mid, turn, rest) has =
      let here = neither (nat_eq t.who k) next (boxes k) (none_of k (λ t. t.came) (with_box boxes t.who next) after mid new ts none rest).0 in
      elim (Contains-append_cases (t.who ∷ []) (whose ts) k has) [
        | inl first ↦ elim (Contains-push_cases [] t.who k first) [
          | inl nothing ↦ let small = nothing.1 in omega (arith, small)
          | inr same ↦ let e : true ≡ false = sym (eq-eqb t.who k same) ∙ here.0 in absurd cc
        ]
        | inr later ↦ no_turn k (with_box boxes t.who next) after mid new ts none rest later
      ]

  -- of one that had no turn
  ends_untouched : (k : ℕ) (box : Box) (last : Option Ways) (rest : List ℕ) (old new : StoreAndClock S C) (after : Boxes) (ts : List Turn) → after k ≡ None → IsThere begins None box → IsSince box last rest
      → AreTurns begins status users may_give nothing_yet old ts after new → EndsAs begins k ts last
  ends_untouched k box last rest old new after ts is there since turns =
      let came = (none_of k (λ t. t.came) nothing_yet after old new ts is turns).1 in
      let gave = (none_of k (λ t. t.gave) nothing_yet after old new ts is turns).1 in
      let sent = (none_of k (λ t. t.sent) nothing_yet after old new ts is turns).1 in
      let out : since.out ≡ [] = nothing_before since.out rest (sym since.waits ∙ there.2) in
      record {
        first = box.ways;
        begun = there.0;
        read_since = since.read_since;
        none_received = λ none. since.none_received there.3;
        out = since.out;
        moved = moves_same box.ways last _ _ _ _ (sym (ap (λ l. l ++ since.read_since) came)) (sym (ap (λ l. l ++ since.out) gave)) since.moved;
        due = subst (λ l. BeginsWith l (of_one k (λ t. t.gave) ts ++ since.out)) (sym sent) (subst (λ l. BeginsWith [] (l ++ since.out)) (sym gave) (subst (λ l. BeginsWith [] l) (sym out) ([], refl)));
      }

  its_end : (k : ℕ) (o : Option Box) (box : Box) (last : Option Ways) (rest : List ℕ) (old new : StoreAndClock S C) (after : Boxes) (ts : List Turn) → after k ≡ o → IsThere begins o box → IsSince box last rest
      → AreTurns begins status users may_give nothing_yet old ts after new → EndsAs begins k ts last
  its_end k None box last rest old new after ts is there since turns = ends_untouched k box last rest old new after ts is there since turns
  its_end k (Some b) box last rest old new after ts is there since turns = ends_so k b last rest old new after ts is (subst (λ x. IsSince x last rest) there since) turns

  pub each_end : {T : Type 0} (ways : T → Option Ways) (old new : StoreAndClock S C) (after : Boxes) (ts : List Turn) (who : List ℕ) (streams : List T) → AreTurns begins status users may_give nothing_yet old ts after new
      → ArePartedAs begins ways after who streams → EndAs begins ts who (map ways streams)
  each_end ways old new after ts [] [] turns each = tt
  each_end ways old new after ts [] (s ∷ streams) turns each = absurd each
  each_end ways old new after ts (k ∷ who) [] turns each = absurd each
  each_end ways old new after ts (k ∷ who) (s ∷ streams) turns each =
      (its_end k (after k) each.0.box (ways s) each.0.rest old new after ts refl each.0.there each.0.since turns, each_end ways old new after ts who streams turns each.1)

  pub its_stream : (k : ℕ) (box : Box) (last : Option Ways) (rest : List ℕ) (old new : StoreAndClock S C) (after : Boxes) (ts : List Turn) → after k ≡ Some box → IsSince box last rest
      → AreTurns begins status users may_give nothing_yet old ts after new → IsOneStream begins k ts
  its_stream k box last rest old new after ts is since turns =
      let f = flows k box nothing_yet old new after ts is turns in
      record {
        first = f.first.ways;
        begun = f.there.0;
        last = last;
        read_since = since.read_since;
        out = since.out;
        moved = moves_then f.first.ways box.ways last _ since.read_since _ since.out f.moved since.moved;
        due = (
          rest,
          ap (λ l. l ++ of_one k (λ t. t.sent) ts) (sym f.there.2) ∙ f.waits ∙ ap (λ l. of_one k (λ t. t.gave) ts ++ l) since.waits ∙ sym (append_assoc (of_one k (λ t. t.gave) ts) since.out rest),
        );
      }

  pub its_bytes : (k : ℕ) (b : List ℕ) (boxes : Boxes) (old new : StoreAndClock S C) (after : Boxes) (ts : List Turn) → waits_of (boxes k) ≡ b → AreTurns begins status users may_give boxes old ts after new
      → BeginsWith (b ++ of_one k (λ t. t.sent) ts) (of_one k (λ t. t.gave) ts)
  its_bytes k b boxes old new after [] stood turns = (b ++ [], refl)
  its_bytes k b boxes old new after (t ∷ ts) stood (before, there, next, mid, turn, rest) =
      handed_step b before.waits t.gave turn.left t.sent _ _ (nat_eq t.who k) (waits_before begins k b boxes t before stood there) turn.waited
      (λ same. its_bytes k (turn.left ++ t.sent) (with_box boxes t.who next) mid new after ts (ap (λ s. waits_of (if s then Some next else boxes k)) same ∙ turn.waits) rest)
      (λ other. its_bytes k b (with_box boxes t.who next) mid new after ts (ap (λ s. waits_of (if s then Some next else boxes k)) other ∙ stood) rest)
