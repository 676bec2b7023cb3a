-- What is made of rows, one after another.
use Rattle.std.proofs.Common.{◌≡◌, ◌<◌, ◌+◌, ℕ, List, [], ◌∷◌, ◌++◌, map, take, length, get_or, sym, ap, ◌∙◌}
use Rattle.std.proofs.lemmas.List.{map-append, take_more}

module _ {X Y : Type 0} (f : X → Y) where
  -- what was made of the rows before the i-th
  pub record AreMade (rows : List X) (i : ℕ) (ys : List Y) : Type 0 where
    pub same : ys ≡ map f (take i rows)

  pub made_more : (rows : List X) (i : ℕ) (row : X) (y : Y) (ys new : List Y) → i < length rows → row ≡ get_or rows i row → y ≡ f row → AreMade rows i ys → new ≡ ys ++ y ∷ [] → AreMade rows (i + 1) new
  made_more rows i row y ys new below at is before made = record {
    same = made ∙ ap (λ z. ys ++ z ∷ []) (is ∙ ap f at) ∙ ap (λ l. l ++ f (get_or rows i row) ∷ []) before.same ∙ sym (map-append f (take i rows) (get_or rows i row ∷ [])) ∙ ap (map f) (sym (take_more rows i row below));
  }
