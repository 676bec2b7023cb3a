-- Of rounds in which one would be left out.
use Rattle.std.proofs.Common.{◌≡◌, ◌⊎◌, ◌<◌, ◌≤◌, ℕ, Bool, true, false, List, [], ◌∷◌, ◌++◌, inl, inr, Contains, Option, Some, refl, sym, ap, subst, ◌∙◌, arith, append-nil}
use Rattle.std.proofs.lemmas.List.Elements.{Contains-append_left, Contains-append_right}
use Rattle.store_rows.specs.Status.{Status}
use Rattle.counter_loop.specs.Boxes.{HoldsWhole, IsStuck}
use Rattle.counter_loop.specs.LeftOut.{IsLeftOut}
use Rattle.counter_loop.specs.Round.{Round, joined}
use Rattle.counter_loop.specs.Rounds.{AreAttendedInRounds, AreRounds}
use Rattle.counter_loop.specs.Served.{most_turns, turns_of}
use Rattle.counter_loop.specs.Turns.{StoreAndClock, Box, Boxes, Turn, nothing_yet, whose}
use Rattle.counter_door.specs.Ways.{Ways}
use Rattle.counter_door.specs.declared.readiness.Ready.{Ready}
use Rattle.counter_loop.proofs.BoxLemmas.{no_rest, some_same, turn_or_same, whose_then}
use Rattle.counter_loop.proofs.ReportLemmas.{Shows}

whose_both : (ts us : List Turn) → whose (ts ++ us) ≡ whose ts ++ whose us
whose_both ts us = whose_then ts us (whose ts) (whose us) refl refl

pub in_first : (ts us : List Turn) (k : ℕ) → Contains (whose ts) k → Contains (whose (ts ++ us)) k
in_first ts us k has = subst (λ l. Contains l k) (sym (whose_both ts us)) (Contains-append_left (whose ts) (whose us) k has)

pub in_rest : (ts us : List Turn) (k : ℕ) → Contains (whose us) k → Contains (whose (ts ++ us)) k
in_rest ts us k has = subst (λ l. Contains l k) (sym (whose_both ts us)) (Contains-append_right (whose ts) (whose us) k has)

none_or_first : (ts : List Turn) → (ts ≡ []) ⊎ ((t : Turn) × (us : List Turn) × (ts ≡ t ∷ us))
none_or_first [] = inl refl
none_or_first (t ∷ us) = inr (t, us, refl)

-- bytes wait for none to which nothing is unsent
pub not_stuck : {T : Type 0} (ways : T → Option Ways) (full failed : T → Type 0) (k : ℕ) (box : Box) → box.waits ≡ [] → (boxes : Boxes) → boxes k ≡ Some box → IsStuck ways full failed boxes k → ⊥
not_stuck ways full failed k box sent boxes is stuck =
    let same : stuck.box ≡ box = some_same stuck.box box box (sym stuck.there ∙ is) in
    stuck.some (no_rest stuck.since.out stuck.rest (sym stuck.since.waits ∙ ap (λ (b : Box). b.waits) same ∙ sent))

module _ {S C : Type 0} (begins : Option Ways → Bool) (is_refused : Option Ways → Boxes → ℕ → Type 0) (is_excused : Boxes → ℕ → Type 0) (is_gone : List Round → Boxes → ℕ → Type 0) (status : S → Status) (users : List ℕ → Option ℕ) (may_give : C → ℕ → C → Type 0) where
  -- one had a turn in these rounds, or what there is of it stays as it was
  turned_or_same : (k : ℕ) (before : List Round) (boxes after : Boxes) (old new : StoreAndClock S C) (rounds : List Round) → AreRounds begins is_refused is_excused is_gone status users may_give before boxes old rounds after new
      → (Contains (whose (joined rounds)) k → ⊥) → after k ≡ boxes k
  turned_or_same k before boxes after old new [] are_turns none = ap (λ (b : Boxes). b k) are_turns.0
  turned_or_same k before boxes after old new (r ∷ rounds) (mid, are_turns, fair, rest) none =
      let later : after k ≡ r.after k = turned_or_same k (before ++ r ∷ []) r.after after mid new rounds rest (λ has. none (in_rest r.turns (joined rounds) k has)) in
      elim (turn_or_same begins status users may_give boxes r.after old mid r.turns k are_turns) [
        | inl has ↦ absurd (none (in_first r.turns (joined rounds) k has))
        | inr same ↦ later ∙ same
      ]

  -- no round follows in which one that holds a whole message has no turn
  no_round : (k : ℕ) (box : Box) → box.is_over ≡ false → HoldsWhole box.held → ((boxes : Boxes) → boxes k ≡ Some box → is_excused boxes k → ⊥)
      → (before : List Round) (boxes after : Boxes) (old new : StoreAndClock S C) (rounds : List Round) → AreRounds begins is_refused is_excused is_gone status users may_give before boxes old rounds after new → boxes k ≡ Some box
      → (Contains (whose (joined rounds)) k → ⊥) → joined rounds ≡ []
  no_round k box open_still whole free before boxes after old new [] are_turns is none = refl
  no_round k box open_still whole free before boxes after old new (r ∷ rounds) (mid, are_turns, fair, rest) is none =
      let out : (Contains (whose r.turns) k → ⊥) = λ has. none (in_first r.turns (joined rounds) k has) in
      let still : r.after k ≡ Some box = elim (turn_or_same begins status users may_give boxes r.after old mid r.turns k are_turns) [
        | inl has ↦ absurd (out has)
        | inr same ↦ same ∙ is
      ] in
      elim (fair.whole k box is open_still whole) [
        | inl has ↦ absurd (out has)
        | inr either ↦ elim either [
          | inl over ↦
              let same : over.0 ≡ box = some_same over.0 box box (sym over.1 ∙ still) in
              let e : true ≡ false = sym over.2 ∙ ap (λ (b : Box). b.is_over) same ∙ open_still in
              absurd cc
          | inr excused ↦ absurd (free r.after still excused)
        ]
      ]

  some_left : (ts us : List Turn) → ts ≡ [] → ts ++ us ≡ us
  some_left ts us none = ap (λ (l : List Turn). l ++ us) none

  -- the first turn of all is of a round, and what follows of that round is all that follows
  left_out : (k other : ℕ) (box : Box) → box.is_over ≡ false → HoldsWhole box.held → ((boxes : Boxes) → boxes k ≡ Some box → is_excused boxes k → ⊥)
      → (first : Turn) (later : List Turn) → (Contains (whose later) k → ⊥) → most_turns < turns_of other (whose (first ∷ later))
      → (before : List Round) (boxes after : Boxes) (old new : StoreAndClock S C) (rounds : List Round) → AreRounds begins is_refused is_excused is_gone status users may_give before boxes old rounds after new → after k ≡ Some box → joined rounds ≡ first ∷ later → ⊥
  left_out k other box open_still whole free first later alone many before boxes after old new [] are_turns is all = let e : [] ≡ first ∷ later = all in absurd cc
  left_out k other box open_still whole free first later alone many before boxes after old new (r ∷ rounds) (mid, are_turns, fair, rest) is all = elim (none_or_first r.turns) [
    | inl none ↦ left_out k other box open_still whole free first later alone many (before ++ r ∷ []) r.after after mid new rounds rest is (sym (some_left r.turns (joined rounds) none) ∙ all)
    | inr some ↦
        let all_so : some.0 ∷ (some.1 ++ joined rounds) ≡ first ∷ later = sym (ap (λ (l : List Turn). l ++ joined rounds) some.2) ∙ all in
        let its : some.1 ++ joined rounds ≡ later = cc in
        let out : (Contains (whose (joined rounds)) k → ⊥) = λ has. alone (subst (λ (l : List Turn). Contains (whose l) k) its (in_rest some.1 (joined rounds) k has)) in
        let still : r.after k ≡ Some box = sym (turned_or_same k (before ++ r ∷ []) r.after after mid new rounds rest out) ∙ is in
        let none : joined rounds ≡ [] = no_round k box open_still whole free (before ++ r ∷ []) r.after after mid new rounds rest still out in
        let whole_round : r.turns ≡ first ∷ later = sym (append-nil r.turns) ∙ ap (λ (l : List Turn). r.turns ++ l) (sym none) ∙ all in
        let few : turns_of other (whose (first ∷ later)) ≤ most_turns = subst (λ (l : List Turn). turns_of other (whose l) ≤ most_turns) whole_round (fair.few other) in
        omega (arith, few, many)
  ]

-- nobody is left out of rounds
pub nobody_left_out : {T S C : Type 0} (begins : Option Ways → Bool) (ways : T → Option Ways) (full failed : T → Type 0) (is_refused : Option Ways → Boxes → ℕ → Type 0) (is_gone : List Round → Boxes → ℕ → Type 0) (shows : Shows) (status : S → Status)
    (users : List ℕ → Option ℕ) (may_give : C → ℕ → C → Type 0) (a b : Option (List (List Ready))) (old new : StoreAndClock S C)
    (is : AreAttendedInRounds begins is_refused (IsStuck ways full failed) is_gone status users may_give shows a b old new) → IsLeftOut begins status users may_give old new is.attended → ⊥
nobody_left_out begins ways full failed is_refused is_gone shows status users may_give a b old new is out =
    left_out begins is_refused (IsStuck ways full failed) is_gone status users may_give out.first.who out.other out.box out.open_still out.whole (not_stuck ways full failed out.first.who out.box out.sent)
    out.first out.later out.alone out.many [] nothing_yet is.attended.after old new is.rounds is.are_turns out.there (sym is.all ∙ out.turns)
