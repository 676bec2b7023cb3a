-- Rows that are read, one after another.
use Rattle.std.proofs.Common.{◌≡◌, ◌<◌, ◌≤◌, ◌+◌, ℕ, zero, suc, List, [], ◌∷◌, ◌++◌, map, take, length, get_or, Contains, inl, inr, refl, sym, ap, arith, subst, ◌∙◌}
use Rattle.std.proofs.lemmas.List.{map-append, take_all, take_more}
use Rattle.money.specs.declared.fault.Fault.{Fault}
use Rattle.sqlite.specs.Order.{Row}
use Rattle.sqlite_rules.specs.Lists.{Has}
use Rattle.sqlite_rules.proofs.ListLemmas.{contains_had, has_contained}
use Rattle.sql_schema.specs.Readable.{IsUnread}

module _ {X : Type 0} (stated : Row → Row) (cells : X → Row) (fits : X → Type 0) where
  -- what was read of the rows before the i-th
  pub record AreReadAs (rows : List Row) (i : ℕ) (xs : List X) : Type 0 where
    pub same : map stated (take i rows) ≡ map cells xs
    pub fit : (x : X) → Contains xs x → fits x

  last_of : (xs : List X) (a x : X) → Has (xs ++ a ∷ []) x → (Has xs x → fits x) → fits a → fits x
  last_of [] a x (inl is) old new = subst fits (sym is) new
  last_of [] a x (inr none) old new = absurd none
  last_of (y ∷ xs) a x (inl is) old new = old (inl is)
  last_of (y ∷ xs) a x (inr later) old new = last_of xs a x later (λ h. old (inr h)) new

  pub stated_more : (rows : List Row) (i : ℕ) (row : Row) (a : X) (xs ys : List X) → i < length rows → row ≡ get_or rows i row → stated row ≡ cells a → fits a → AreReadAs rows i xs → ys ≡ xs ++ a ∷ [] → AreReadAs rows (i + 1) ys
  stated_more rows i row a xs ys below at is fit before new = record {
    same = ap (map stated) (take_more rows i row below) ∙ map-append stated (take i rows) (get_or rows i row ∷ []) ∙ ap (λ r. map stated (take i rows) ++ stated r ∷ []) (sym at)
        ∙ ap (λ l. l ++ stated row ∷ []) before.same ∙ ap (λ c. map cells xs ++ c ∷ []) is ∙ sym (map-append cells xs (a ∷ [])) ∙ ap (map cells) (sym new);
    fit = λ x there. last_of xs a x (has_contained _ x (subst (λ l. Contains l x) new there)) (λ h. before.fit x (contains_had xs x h)) fit;
  }

  pub stated_all : (rows : List Row) (i : ℕ) (xs : List X) → length rows ≤ i → AreReadAs rows i xs → map stated rows ≡ map cells xs
  stated_all rows i xs past are = ap (map stated) (sym (take_all i rows past)) ∙ are.same

module _ {X : Type 0} (stated : Row → Row) (cells : X → Row) (readable : X → Type 0) where
  -- rows are unread where one of them is
  pub unread_row : (rows : List Row) (i : ℕ) (row : Row) (fault : Fault) → i < length rows → row ≡ get_or rows i row → IsUnread cells readable (stated row) fault → IsUnread (map cells) (λ (xs : List X). (x : X) → Contains xs x → readable x) (map stated rows) fault
  unread_row [] i row fault below at unread failed xs all same = absurd (omega (arith, below))
  unread_row (r ∷ rows) i row fault below at unread failed [] all same = absurd cc
  unread_row (r ∷ rows) zero row fault below at unread failed (x ∷ xs) all same =
      let first : stated r ≡ cells x = cc in
      unread failed x (all x (0, omega arith, refl)) (ap stated at ∙ first)
  unread_row (r ∷ rows) (suc i) row fault below at unread failed (x ∷ xs) all same =
      let rest : map stated rows ≡ map cells xs = cc in
      unread_row rows i row fault (omega (arith, below)) at unread failed xs (λ y there. all y (suc there.0, omega (arith, there.1), there.2)) rest
