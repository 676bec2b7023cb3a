-- What is judged of kept rows beside the rows that the books give, as what holds of each row.
use Rattle.std.proofs.Common.{◌≡◌, ℕ, ◌<◌, List, map, length, get_or, Option, Contains, ap, arith, sym, ◌∙◌, subst}
use Rattle.std.proofs.lemmas.List.{get_or-map, length-map}
use Rattle.std.proofs.lemmas.List.Elements.{Contains-get_or}
use Rattle.book_check.specs.Least.{HoldsOfBranch, IsFirstFailing}
use Rattle.book_check.proofs.FirstFailing.{reworded}

-- the row that the books give beside a kept row
computed_at : {T R : Type 0} (row : T → R) (record_of : R → T) (kept computed : List T) (rows : List R) (k : ℕ) (d : T) →
    map row kept ≡ rows → computed ≡ map record_of rows → k < length kept → get_or computed k d ≡ record_of (row (get_or kept k d))
computed_at {T} {R} row record_of kept computed rows k d same given within =
    ap (λ ys. get_or ys k d) (given ∙ ap (map record_of) (sym same))
    ∙ get_or-map record_of (map row kept) k (row d) d (omega (arith, length-map kept row))
    ∙ ap record_of (get_or-map row kept k d (row d) within)

-- for every kept row of the branch
pub by_rows : {T R : Type 0} (holds : T → T → Type 0) (branch_of : T → ℕ) (row : T → R) (record_of : R → T) (kept computed : List T) (rows : List R) (least : Option ℕ) →
    map row kept ≡ rows → computed ≡ map record_of rows → IsFirstFailing (HoldsOfBranch holds branch_of kept computed (length kept)) least →
    IsFirstFailing (λ branch. (x : T) → Contains kept x → branch_of x ≡ branch → holds x (record_of (row x))) least
by_rows {T} holds branch_of row record_of kept computed rows least same given =
    reworded (HoldsOfBranch holds branch_of kept computed (length kept)) (λ branch. (x : T) → Contains kept x → branch_of x ≡ branch → holds x (record_of (row x))) least
    (λ branch all x in_kept stated.
    let at : get_or kept in_kept.0 x ≡ x = in_kept.2 in
    let there = all in_kept.0 x in_kept.1 (ap branch_of at ∙ stated) in
    let P : T → Type 0 = λ y. holds y (record_of (row y)) in
    let Q : T → Type 0 = λ y. holds (get_or kept in_kept.0 x) y in
    subst P at (subst Q (computed_at row record_of kept computed rows in_kept.0 x same given in_kept.1) there))
    (λ branch each k d below stated.
    let Q : T → Type 0 = λ y. holds (get_or kept k d) y in
    subst Q (sym (computed_at row record_of kept computed rows k d same given below)) (each (get_or kept k d) (Contains-get_or kept k d below) stated))

-- the same of rows that are judged beside themselves
pub by_themselves : {T : Type 0} (holds : T → Type 0) (branch_of : T → ℕ) (rows : List T) (least : Option ℕ) →
    IsFirstFailing (HoldsOfBranch (λ x y. holds x) branch_of rows rows (length rows)) least →
    IsFirstFailing (λ branch. (x : T) → Contains rows x → branch_of x ≡ branch → holds x) least
by_themselves {T} holds branch_of rows least =
    reworded (HoldsOfBranch (λ x y. holds x) branch_of rows rows (length rows)) (λ branch. (x : T) → Contains rows x → branch_of x ≡ branch → holds x) least
    (λ branch all x in_rows stated. subst holds in_rows.2 (all in_rows.0 x in_rows.1 (ap branch_of in_rows.2 ∙ stated)))
    (λ branch each k d below stated. each (get_or rows k d) (Contains-get_or rows k d below) stated)
