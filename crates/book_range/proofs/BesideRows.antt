-- Kept rows that stand beside rows so far, one more.
use Rattle.std.proofs.Common.{◌≡◌, ℕ, ◌+◌, ◌<◌, List, map, take, length, get_or, ap, arith, sym, ◌∙◌}
use Rattle.std.proofs.lemmas.List.{get_or-map, length-map, take_more_same}

pub one_beside : {K T : Type 0} (own : K → T) (kept : List K) (rows : List T) (i : ℕ) (x : K) (y : T) → i < length rows → length kept ≡ length rows → x ≡ get_or kept i x → y ≡ get_or rows i y →
    own x ≡ y → take i (map own kept) ≡ take i rows → take (i + 1) (map own kept) ≡ take (i + 1) rows
one_beside own kept rows i x y below long x_is y_is same before =
    take_more_same (map own kept) rows i y (omega (arith, length-map kept own)) below before
    (get_or-map own kept i x y (omega arith) ∙ ap own (sym x_is) ∙ same ∙ y_is)
