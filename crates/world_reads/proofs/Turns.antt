-- The rows that are there, by their numbers.
use Rattle.std.proofs.Common.{◌≡◌, ℕ, ◌+◌, ◌<◌, suc, zero, List, [], ◌∷◌, Option, Some, None, map, length, refl, ap, sym, ◌∙◌, arith, add-zero}
use Rattle.std.specs.List.{range_with_len, slice_get}
use Rattle.std.specs.Option.{option_map_or}
use Rattle.world_reads.specs.BookReads.{entry_at, there}
use Rattle.world_reads.specs.Laws.{EntriesEndWithTurns, EntriesStandByTurn}

next-number : (a k : ℕ) → a + 1 + k ≡ a + suc k
next-number a k = omega arith

listed : {A : Type 0} → Option A → List A → List A
listed o rest = option_map_or (λ row. row ∷ rest) o []

listed-at : {A : Type 0} (f : ℕ → Option A) (a k : ℕ) (o : Option A) (rest : List A) → o ≡ f a → ((j : ℕ) → j < length rest → slice_get rest j ≡ f (a + 1 + j)) →
    k < length (listed o rest) → slice_get (listed o rest) k ≡ f (a + k)
unfolding listed
listed-at f a k None rest is following within = absurd (omega arith)
listed-at f a zero (Some row) rest is following within = is ∙ ap f (sym (add-zero a))
listed-at f a (suc k) (Some row) rest is following within = following k (omega arith) ∙ ap f (next-number a k)

there-at : {A : Type 0} (f : ℕ → Option A) (a n k : ℕ) → k < length (there (map f (range_with_len a n))) → slice_get (there (map f (range_with_len a n))) k ≡ f (a + k)
unfolding listed
there-at f a zero k within = absurd (omega arith)
there-at f a (suc n) k within = listed-at f a k (f a) (there (map f (range_with_len (a + 1) n))) refl (λ j below. there-at f (a + 1) n j below) within

listed-end : {A : Type 0} (f : ℕ → Option A) (a n : ℕ) (o : Option A) (rest : List A) → o ≡ f a → (length rest < n → f (a + 1 + length rest) ≡ None) →
    length (listed o rest) < suc n → f (a + length (listed o rest)) ≡ None
unfolding listed
listed-end f a n None rest is following short = ap f (add-zero a) ∙ sym is
listed-end f a n (Some row) rest is following short = sym (ap f (next-number a (length rest))) ∙ following (omega arith)

there-end : {A : Type 0} (f : ℕ → Option A) (a n : ℕ) → length (there (map f (range_with_len a n))) < n → f (a + length (there (map f (range_with_len a n)))) ≡ None
unfolding listed
there-end f a zero short = absurd (omega arith)
there-end f a (suc n) short = listed-end f a n (f a) (there (map f (range_with_len (a + 1) n))) refl (λ below. there-end f (a + 1) n below) short

pub stand_by_turn : EntriesStandByTurn
stand_by_turn w account start count k within = there-at (entry_at w account) start count k within

pub end_with_turns : EntriesEndWithTurns
end_with_turns w account start count short = there-end (entry_at w account) start count short
