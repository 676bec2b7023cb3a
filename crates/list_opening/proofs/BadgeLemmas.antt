-- The user of a badge, looked for from the front.
use Rattle.std.proofs.Common.{◌≡◌, ◌<◌, ◌≤◌, ◌+◌, ℕ, zero, suc, Bool, true, false, cond, List, [], ◌∷◌, length, drop, get_or, Some, None, refl, sym, ap, arith, ◌∙◌, drop-cons, option_map}
use Rattle.std.specs.List.{find}
use Rattle.std.specs.Str.{bytes_eq}
use Rattle.list_opening.specs.BadgeRows.{rows_of}
use Rattle.list_opening.specs.Badges.{user_of}
use Rattle.list_opening.specs.declared.badges.Badge.{Badge}

rest_of : (badges : List Badge) (i : ℕ) (row : Badge) → i < length badges → row ≡ get_or badges i row → drop i badges ≡ row ∷ drop (i + 1) badges
rest_of badges i row below is = let next : suc i ≡ i + 1 = omega arith in drop-cons badges i row below ∙ ap (λ x. x ∷ drop (suc i) badges) (sym is) ∙ ap (λ n. row ∷ drop n badges) next

at_first : (row : Badge) (rest : List Badge) (badge : List ℕ) (b : Bool) → bytes_eq row.badge.items badge ≡ b → user_of (rows_of (row ∷ rest)) badge ≡ cond b (Some row.user) (user_of (rows_of rest) badge)
at_first row rest badge b is = ap (λ t. option_map (λ r. r.1) (cond t (Some (row.badge.items, row.user)) (find (λ r. bytes_eq r.0 badge) (rows_of rest)))) is ∙ go b
  where
    go : (t : Bool) → option_map (λ r. r.1) (cond t (Some (row.badge.items, row.user)) (find (λ r. bytes_eq r.0 badge) (rows_of rest))) ≡ cond t (Some row.user) (user_of (rows_of rest) badge)
    go true = refl
    go false = refl

-- so far no badge is this one
abbrev pub IsAfter : List Badge → List ℕ → ℕ → Type 0
IsAfter badges badge i = user_of (rows_of badges) badge ≡ user_of (rows_of (drop i badges)) badge

pub following-more : (badges : List Badge) (badge : List ℕ) (i : ℕ) (row : Badge) → i < length badges → row ≡ get_or badges i row → bytes_eq row.badge.items badge ≡ false → IsAfter badges badge i → IsAfter badges badge (i + 1)
following-more badges badge i row below is other before = before ∙ ap (λ l. user_of (rows_of l) badge) (rest_of badges i row below is) ∙ at_first row (drop (i + 1) badges) badge false other

pub found-here : (badges : List Badge) (badge : List ℕ) (i : ℕ) (row : Badge) → i < length badges → row ≡ get_or badges i row → bytes_eq row.badge.items badge ≡ true → IsAfter badges badge i → Some row.user ≡ user_of (rows_of badges) badge
found-here badges badge i row below is same before = sym (before ∙ ap (λ l. user_of (rows_of l) badge) (rest_of badges i row below is) ∙ at_first row (drop (i + 1) badges) badge true same)

none_left : (badges : List Badge) (i : ℕ) → length badges ≤ i → drop i badges ≡ []
none_left [] zero past = refl
none_left [] (suc i) past = refl
none_left (m ∷ rows) zero past = absurd (omega arith)
none_left (m ∷ rows) (suc i) past = none_left rows i (omega arith)

pub found-none : (badges : List Badge) (badge : List ℕ) (i : ℕ) → length badges ≤ i → IsAfter badges badge i → None ≡ user_of (rows_of badges) badge
found-none badges badge i past before = sym (before ∙ ap (λ l. user_of (rows_of l) badge) (none_left badges i past))
