-- What has gone out to a connection as a turn begins is of the turns before it.
use Rattle.std.proofs.Common.{◌≡◌, ℕ, zero, suc, Bool, true, false, if◌then◌else◌, List, [], ◌∷◌, ◌++◌, take, Option, Some, refl, sym, ap, ◌∙◌, append-nil, append_assoc}
use Rattle.std.specs.Prelude.{nat_eq}
use Rattle.reports.specs.Report.{BeginsWith}
use Rattle.store_rows.specs.Status.{Status, Tells}
use Rattle.counter_loop.specs.Turns.{AreTurns, StoreAndClock, Boxes, Turn, due_to, nothing_yet, of_one, with_box}
use Rattle.counter_door.specs.Ways.{Ways}
use Rattle.counter_loop.proofs.DueLemmas.{its_replies}
use Rattle.counter_loop.proofs.HandedLemmas.{handed_step}
use Rattle.counter_loop.proofs.PartLemmas.{waits_before, waits_of}

first_step : (b before gave left : List ℕ) (same : Bool) → (same ≡ true → before ≡ b) → before ≡ gave ++ left → BeginsWith (b ++ []) ((if same then gave else []) ++ [])
first_step b before gave left true is waited = (left, append-nil b ∙ sym (is refl) ∙ waited ∙ ap (λ l. l ++ left) (sym (append-nil gave)))
first_step b before gave left false is waited = (b ++ [], refl)

pub begins_then : (whole part first : List ℕ) → BeginsWith whole part → BeginsWith part first → BeginsWith whole first
begins_then whole part first one two = (two.0 ++ one.0, one.1 ∙ ap (λ l. l ++ one.0) two.1 ∙ append_assoc first two.0 one.0)

module _ {S C : Type 0} (begins : Option Ways → Bool) (status : S → Status) (users : List ℕ → Option ℕ) (may_give : C → ℕ → C → Type 0) where
  -- the first n turns
  first_turns : (n : ℕ) (boxes : Boxes) (old new : StoreAndClock S C) (after : Boxes) (ts : List Turn) → AreTurns begins status users may_give boxes old ts after new
      → (between : Boxes) × (mid : StoreAndClock S C) × AreTurns begins status users may_give boxes old (take n ts) between mid
  first_turns zero boxes old new after ts turns = (boxes, old, (refl, refl))
  first_turns (suc n) boxes old new after [] turns = (boxes, old, (refl, refl))
  first_turns (suc n) boxes old new after (t ∷ ts) (before, there, next, mid, turn, rest) =
      let it = first_turns n (with_box boxes t.who next) mid new after ts rest in
      (it.0, it.1, (before, there, next, mid, turn, it.2))

  pub before_turn : (n k : ℕ) (b : List ℕ) (boxes : Boxes) (old new : StoreAndClock S C) (after : Boxes) (ts : List Turn) → waits_of (boxes k) ≡ b → AreTurns begins status users may_give boxes old ts after new
      → BeginsWith (b ++ of_one k (λ t. t.sent) (take n ts)) (of_one k (λ t. t.gave) (take (suc n) ts))
  before_turn zero k b boxes old new after [] stood turns = (b ++ [], refl)
  before_turn zero k b boxes old new after (t ∷ ts) stood (before, there, next, mid, turn, rest) =
      first_step b before.waits t.gave turn.left (nat_eq t.who k) (waits_before begins k b boxes t before stood there) turn.waited
  before_turn (suc n) k b boxes old new after [] stood turns = (b ++ [], refl)
  before_turn (suc n) k b boxes old new after (t ∷ ts) stood (before, there, next, mid, turn, rest) =
      handed_step b before.waits t.gave turn.left t.sent _ _ (nat_eq t.who k) (waits_before begins k b boxes t before stood there) turn.waited
      (λ same. before_turn n k (turn.left ++ t.sent) (with_box boxes t.who next) mid new after ts (ap (λ s. waits_of (if s then Some next else boxes k)) same ∙ turn.waits) rest)
      (λ other. before_turn n k b (with_box boxes t.who next) mid new after ts (ap (λ s. waits_of (if s then Some next else boxes k)) other ∙ stood) rest)

  pub gone_out : (old new : StoreAndClock S C) (turns : List Turn) (after : Boxes) → AreTurns begins status users may_give nothing_yet old turns after new
      → (n k : ℕ) → (boxes : Boxes) × (mid : StoreAndClock S C) × AreTurns begins status users may_give nothing_yet old (take n turns) boxes mid
      × Tells (status old.store) (status mid.store) (λ w. BeginsWith (due_to users k w (take n turns)) (of_one k (λ t. t.gave) (take (suc n) turns)))
  gone_out old new turns after are n k =
      let it = first_turns n nothing_yet old new after turns are in (
        it.0,
        it.1,
        it.2,
        λ honest w holds. begins_then (due_to users k w (take n turns)) _ _ (its_replies begins status users may_give k nothing_yet old it.1 it.0 (take n turns) it.2 honest w holds)
            (before_turn n k [] nothing_yet old new after turns refl are),
      )
