-- Rows that are shown, and whether one passes.
use Rattle.std.proofs.Common.{◌≡◌, ℕ, List, map, filter, length, not, Bool, true, false, refl, sym, ap, ◌∙◌, ◌==◌}
use Rattle.sqlite_keyed.proofs.ListLemmas.{none_counted}
use Rattle.sql_schema.proofs.TableNames.{list_any, Row, length-mapped}

-- rows are shown exactly where one passes
pub any_shown : {X : Type 0} (f : X → Row) (p : X → Bool) (xs : List X) (rows : List Row) (n : ℕ) (empty : Bool) → empty ≡ (n == 0) → length rows ≡ n → rows ≡ map f (filter p xs) → not empty ≡ list_any p xs
any_shown f p xs rows n empty is len shown =
    let many : n ≡ length (filter p xs) = sym len ∙ ap length shown ∙ length-mapped f (filter p xs) in
    ap not (is ∙ ap (λ k. k == 0) many ∙ none_counted p xs) ∙ not_not (list_any p xs)
  where
    not_not : (b : Bool) → not (not b) ≡ b
    not_not true = refl
    not_not false = refl
