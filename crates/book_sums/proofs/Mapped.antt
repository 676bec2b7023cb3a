-- A loop that adds what a function makes of each row, and one that sees that a fact holds of each.
use Rattle.std.proofs.Common.{◌≡◌, ℕ, ◌+◌, ◌<◌, ◌≤◌, List, [], ◌∷◌, ◌++◌, map, take, length, get_or, ap, sym, ◌∙◌}
use Rattle.std.specs.List.{All}
use Rattle.std.proofs.lemmas.List.{map_more, take_all, take_more}
use Rattle.std.proofs.lemmas.List.Elements.{All-push, All-same}

-- one row more; the loop goes over a list that equals the rows
pub mapped_more : {X Y : Type 0} (f : X → Y) (seen rows : List X) (i : ℕ) (x : X) (made before : List Y) (y : Y) →
    seen ≡ rows → i < length seen → x ≡ get_or seen i x → y ≡ f x → before ≡ map f (take i rows) → made ≡ before ++ y ∷ [] →
    made ≡ map f (take (i + 1) rows)
mapped_more f seen rows i x made before y same within is made_is before_is after_is =
    after_is ∙ ap (λ ys. ys ++ y ∷ []) (before_is ∙ ap (λ xs. map f (take i xs)) (sym same))
    ∙ ap (λ z. map f (take i seen) ++ z ∷ []) (made_is ∙ ap f is)
    ∙ sym (map_more f seen i x within)
    ∙ ap (λ xs. map f (take (i + 1) xs)) same

-- one row more of which the fact holds
pub seen_more : {X : Type 0} (P : X → Type 0) (rows : List X) (i : ℕ) (x : X) → i < length rows → x ≡ get_or rows i x → P x → All P (take i rows) → All P (take (i + 1) rows)
seen_more P rows i x within is holds before =
    All-same P _ _ (take_more rows i x within ∙ ap (λ y. take i rows ++ y ∷ []) (sym is)) (All-push P (take i rows) x before holds)

-- and of all of them at the end
pub seen_all : {X : Type 0} (P : X → Type 0) (rows : List X) (i : ℕ) → length rows ≤ i → All P (take i rows) → All P rows
seen_all P rows i end all = All-same P _ _ (sym (take_all i rows end)) all
