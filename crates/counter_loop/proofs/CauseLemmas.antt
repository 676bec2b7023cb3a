-- Why a turn was the last of its connection.
use Rattle.std.proofs.Common.{◌≡◌, ℕ, Bool, true, false, inl, inr, List, Option, Ok, sym, ap, ◌∙◌}
use Rattle.http_messages.specs.declared.step.Step.TheVariants.{Waiting}
use Rattle.store_rows.specs.Status.{Status}
use Rattle.counter_loop.specs.Turns.{StoreAndClock, Box, GoesOn, IsLast, IsOneTurn, Turn, is_last}
use Rattle.counter_door.specs.Ways.{IsEnded}

not_true : (b : Bool) → b ≡ false → b ≡ true → ⊥
not_true b is_false is_true = let e : true ≡ false = sym is_true ∙ is_false in absurd cc

module _ {S C : Type 0} (status : S → Status) (users : List ℕ → Option ℕ) (may_give : C → ℕ → C → Type 0) where
  its_end : (before : List ℕ) (old new : StoreAndClock S C) (t : Turn) → GoesOn status users may_give before old new t → (is_last t.how false ≡ false) × (t.cut ≡ false)
  its_end before old new t (inl (by, waits)) = (ap (λ r. is_last r false) by.0, by.1)
  its_end before old new t (inr (by, is, open_still)) = (ap (λ r. is_last r false) by.0, by.1)

  pub not_both : (before : List ℕ) (old new : StoreAndClock S C) (t : Turn) → GoesOn status users may_give before old new t → IsLast status users may_give before old new t → ⊥
  not_both before old new t goes (inl (how, cut, waits)) = not_true t.cut (its_end before old new t goes).1 cut
  not_both before old new t goes (inr (inl (by, is, closing))) = not_true (is_last t.how false) (its_end before old new t goes).0 (ap (λ r. is_last r false) by.0)
  not_both before old new t goes (inr (inr (inl (by, quiet, refusal, sent)))) = not_true (is_last t.how false) (its_end before old new t goes).0 (ap (λ r. is_last r false) by.0)
  not_both before old new t goes (inr (inr (inr (inl (by, begun))))) = not_true (is_last t.how false) (its_end before old new t goes).0 (ap (λ r. is_last r false) by.0)
  not_both before old new t goes (inr (inr (inr (inr (by, broken))))) = not_true (is_last t.how false) (its_end before old new t goes).0 (ap (λ r. is_last r false) by.0)

  its_cut : (before : List ℕ) (old new : StoreAndClock S C) (t : Turn) → IsLast status users may_give before old new t → is_last t.how false ≡ false → t.cut ≡ true
  its_cut before old new t (inl (how, cut, waits)) goes = cut
  its_cut before old new t (inr (inl (by, is, closing))) goes = absurd (not_true (is_last t.how false) goes (ap (λ r. is_last r false) by.0))
  its_cut before old new t (inr (inr (inl (by, quiet, refusal, sent)))) goes = absurd (not_true (is_last t.how false) goes (ap (λ r. is_last r false) by.0))
  its_cut before old new t (inr (inr (inr (inl (by, begun))))) goes = absurd (not_true (is_last t.how false) goes (ap (λ r. is_last r false) by.0))
  its_cut before old new t (inr (inr (inr (inr (by, broken))))) goes = absurd (not_true (is_last t.how false) goes (ap (λ r. is_last r false) by.0))

  pub ended_so : (before next : Box) (old new : StoreAndClock S C) (t : Turn) → IsOneTurn status users may_give before next old new t → next.is_over ≡ true → t.how ≡ Ok Waiting → IsEnded next.ways
  ended_so before next old new t turn over waits = elim turn.is [
    | inl goes ↦ absurd (not_true next.is_over goes.1 over)
    | inr last ↦ turn.ended (its_cut before.held old new t last.0 (ap (λ r. is_last r false) waits))
  ]
