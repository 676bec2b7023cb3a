-- A loop that adds the rows of a range of numbers as long as they are there.
use Rattle.std.proofs.Common.{◌≡◌, ℕ, suc, ◌+◌, ◌-◌, ◌<◌, List, [], ◌∷◌, ◌++◌, map, Option, Some, None, ap, sym, ◌∙◌, arith, append_assoc, append-nil}
use Rattle.std.specs.List.{range_with_len}
use Rattle.world_reads.specs.BookReads.{there}

range_more : (a b : ℕ) → a < b → range_with_len a (b - a) ≡ a ∷ range_with_len (a + 1) (b - (a + 1))
range_more a b h = let e : b - a ≡ suc (b - (a + 1)) = omega arith in ap (range_with_len a) e

-- the row of the next number is there, and was added
pub there-more : {A : Type 0} (f : ℕ → Option A) (a b : ℕ) (row : A) (before made all : List A) → a < b → Some row ≡ f a →
    before ++ there (map f (range_with_len a (b - a))) ≡ all → made ≡ before ++ row ∷ [] →
    made ++ there (map f (range_with_len (a + 1) (b - (a + 1)))) ≡ all
there-more f a b row before made all below is before_is made_is =
    let rest = there (map f (range_with_len (a + 1) (b - (a + 1)))) in
    ap (λ rows. rows ++ rest) made_is
    ∙ append_assoc before (row ∷ []) rest
    ∙ ap (λ o. before ++ there (o ∷ map f (range_with_len (a + 1) (b - (a + 1))))) is
    ∙ ap (λ numbers. before ++ there (map f numbers)) (sym (range_more a b below))
    ∙ before_is

-- it is not there, and the rows end
pub there-none : {A : Type 0} (f : ℕ → Option A) (a b : ℕ) (before all : List A) → a < b → None ≡ f a →
    before ++ there (map f (range_with_len a (b - a))) ≡ all → before ≡ all
there-none f a b before all below is before_is =
    sym (append-nil before)
    ∙ ap (λ o. before ++ there (o ∷ map f (range_with_len (a + 1) (b - (a + 1))))) is
    ∙ ap (λ numbers. before ++ there (map f numbers)) (sym (range_more a b below))
    ∙ before_is
