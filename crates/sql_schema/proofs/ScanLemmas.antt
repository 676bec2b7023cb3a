-- What a query over one table gives.
use Rattle.std.proofs.Common.{◌≡◌, ◌≤◌, ℕ, Bool, true, false, cond, List, [], ◌∷◌, ◌++◌, map, filter, flat_map, length, None, refl, ap, subst, ◌∙◌, arith, IsPermutation, IsSorted}
use Rattle.std.specs.List.{list_all}
use Rattle.std.proofs.lemmas.List.Sorted.{length_permutation}
use Rattle.sqlite.specs.declared.types.Value.TheVariants.{Null}
use Rattle.sqlite.specs.Order.{Row}
use Rattle.sqlite.specs.Term.{Term}
use Rattle.sqlite_sql.specs.Term.{holds}
use Rattle.sqlite.specs.Query.{Query, inner, end, IsAnswer, output, page, Output}
use Rattle.sqlite_sql.specs.Query.{output_cmp}
use Rattle.sqlite_value.specs.declared.keys.Key.{Key}
use Rattle.sqlite_sql.specs.Program.{IsProgramAnswer}
use Rattle.sqlite.specs.Program.{overlay}
use Rattle.sqlite.specs.Tree.{Trees}
use Rattle.sqlite.proofs.Callers.{one_permutation}

pub picked : {A B : Type 0} (p : A → Bool) (f : A → B) (xs : List A) → flat_map (λ x. cond (p x) (f x ∷ []) []) xs ≡ map f (filter p xs)
picked p f [] = refl
picked p f (x ∷ xs) =
    elim (p x) as (λ b. cond b (f x ∷ []) [] ++ flat_map (λ x. cond (p x) (f x ∷ []) []) xs ≡ map f (cond b (x ∷ filter p xs) (filter p xs)))
    [ true ↦ ap (λ l. f x ∷ l) (picked p f xs) | false ↦ picked p f xs ]

abbrev pub scan : ℕ → List Term → List Term → List (Term × Key) → Term → Term → Query
scan t terms project order limit offset = record {
  from = inner t end;
  filter = terms;
  group = None;
  project = project;
  distinct = false;
  collations = [];
  order = order;
  limit = limit;
  offset = offset;
}

abbrev pub passes : List Term → Row → Row → Bool
passes terms params r = list_all (holds (params ∷ r ∷ [])) terms

module _ (t : ℕ) (terms project : List Term) (order : List (Term × Key)) (limit offset : Term) where
  abbrev q : Query
  q = scan t terms project order limit offset

  pub scanned : (db : Trees) (params : Row) (rows : List Row) → overlay db [] t ≡ db t → IsProgramAnswer [] q db params rows
      → (ordered : List Output) × IsPermutation (map (output q) (map (λ r. params ∷ r ∷ []) (filter (passes terms params) (db t)))) ordered
      × IsSorted (output_cmp q) ordered × (rows ≡ page q params (map (λ (o : Output). o.1) ordered))
  scanned db params rows over h =
      let a : IsAnswer q (overlay db []) params rows = h Null in
      let staged : a.staged ≡ map (λ r. params ∷ r ∷ []) (filter (passes terms params) (db t)) =
      a.grouped ∙ picked (passes terms params) (λ r. params ∷ r ∷ []) (overlay db [] t) ∙ ap (λ rs. map (λ r. params ∷ r ∷ []) (filter (passes terms params) rs)) over in
      let kept : a.kept ≡ map (output q) (map (λ r. params ∷ r ∷ []) (filter (passes terms params) (db t))) = a.distinct ∙ ap (map (output q)) staged in
      (a.ordered, subst (λ k. IsPermutation k a.ordered) kept a.same, a.sorted, a.shown)

-- a list of one element at most has one order
pub few_permutation : {X : Type 0} (xs ys : List X) → length xs ≤ 1 → IsPermutation xs ys → ys ≡ xs
few_permutation [] [] few same = refl
few_permutation [] (y ∷ ys) few same = absurd (omega (arith, length_permutation _ _ same))
few_permutation (x ∷ []) ys few same = one_permutation x ys same
few_permutation (x ∷ z ∷ xs) ys few same = absurd (omega arith)
