-- What a loop keeps of the rows that pass a test, up to n of them.
use Rattle.std.proofs.Common.{◌≡◌, ℕ, List, Bool, map, take, drop, length, ap, sym, ◌∙◌, take-append-drop}
use Rattle.std.specs.List.{filter}
use Rattle.std.proofs.lemmas.List.{take_at, length-map}
use Rattle.std.proofs.lemmas.List.Elements.{filter-append}

-- there are n, and no further row is asked for
pub kept_enough : {X Y : Type 0} (f : X → Y) (p : X → Bool) (rows : List X) (i count : ℕ) (made : List Y) → made ≡ map f (filter p (take i rows)) → length made ≡ count →
    made ≡ map f (take count (filter p rows))
kept_enough f p rows i count made made_is many =
    let long : length (filter p (take i rows)) ≡ count = sym (length-map (filter p (take i rows)) f) ∙ ap length (sym made_is) ∙ many in
    made_is
    ∙ ap (map f) (sym (take_at (filter p (take i rows)) (filter p (drop i rows)) count long))
    ∙ ap (λ xs. map f (take count xs)) (sym (filter-append p (take i rows) (drop i rows)) ∙ ap (filter p) (take-append-drop i rows))
