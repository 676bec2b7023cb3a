-- A row that is set in place of the one that was found.
use Rattle.std.proofs.Common.{◌≡◌, ◌==◌, ◌∙◌, ℕ, List, map, Bool, true, false, cond, Some, find, refl, ap, sym, Contains, eqb-true}
use Rattle.keyed_rows.specs.Changed.{change_rows}
use Rattle.keyed_rows.specs.Ordered.{AreDistinct}
use Rattle.keyed_rows.proofs.Rows.{found_by_key, found_row}
use Rattle.book_kept.specs.Sheets.{set_row}
use Rattle.book_kept.proofs.RowLemmas.{map_same}

-- where it is that one made anew, each row of its key is
pub set_made : {X : Type 0} (key : X → ℕ) (k : ℕ) (made : X → X) (rows : List X) (old new : X) → AreDistinct (map key rows) → find (λ r. key r == k) rows ≡ Some old → new ≡ made old → key new ≡ key old
    → set_row key new rows ≡ change_rows key k made rows
set_made {X} key k made rows old new distinct found is keeps =
    ap (λ n. map (λ row. cond (key row == n) new row) rows) (keeps ∙ (found_row key k rows old found).1)
    ∙ map_same (λ row. cond (key row == k) new row) (λ row. cond (key row == k) (made row) row) rows (λ x there. go x there (key x == k) refl)
  where
    go : (x : X) → Contains rows x → (b : Bool) → (key x == k) ≡ b → cond b new x ≡ cond b (made x) x
    go x there true passes = is ∙ ap made (sym (found_by_key key k rows old x distinct found there (eqb-true (key x) k passes)))
    go x there false fails = refl
