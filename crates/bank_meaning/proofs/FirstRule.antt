-- A search through a list finds the first that passes, and so does that through the rules.
use Rattle.std.proofs.Common.{◌≡◌, Bool, true, false, List, [], ◌∷◌, ◌++◌, All, Some, None, refl, sym, ap, subst, ◌==◌, ◌⊎◌, inl, inr}
use Rattle.std.specs.List.{find}
use Rattle.std.proofs.lemmas.List.Elements.{All-cons, All-nil}
use Rattle.bank_terms.specs.Rule.{number_of}
use Rattle.bank_terms.specs.declared.rule.Rule.{Rule}
use Rattle.bank_terms.specs.declared.rule.Rule.TheVariants.{Identity}
use Rattle.bank_books.specs.WorldLists.{WorldLists}
use Rattle.bank_meaning.specs.Laws.{FirstByPlace, HasOnePlace, IsFirstRule}
use Rattle.bank_meaning.specs.Requests.{denies, first, rules}
use Rattle.bank_meaning.specs.declared.request.Request.{Request}

-- x stands in the list
abbrev pub Has : {X : Type 0} → X → List X → Type 0
Has y [] = ⊥
Has y (x ∷ xs) = (y ≡ x) ⊎ Has y xs

module _ {X : Type 0} (p : X → Bool) where
  pub found : (xs : List X) (y : X) → find p xs ≡ Some y → p y ≡ true
  found [] y e = cc
  found (x ∷ xs) y e = (elim (p x) as (λ b. p x ≡ b → p y ≡ true) [
    | true ↦ λ t. let e' = rw t at e in let same : x ≡ y = cc in subst (λ (z : X). p z ≡ true) same t
    | false ↦ λ t. found xs y (rw t at e)
  ]) refl

  pub found_there : (xs : List X) (y : X) → find p xs ≡ Some y → Has y xs
  found_there [] y e = absurd cc
  found_there (x ∷ xs) y e = (elim (p x) as (λ b. p x ≡ b → Has y (x ∷ xs)) [
    | true ↦ λ t. let e' = rw t at e in let same : y ≡ x = cc in inl same
    | false ↦ λ t. inr (found_there xs y (rw t at e))
  ]) refl

  -- the list, parted at what is found: nothing before it passes
  abbrev pub PartsAt : X → List X → Type 0
  PartsAt y xs = (before : List X) × (after : List X) × (xs ≡ before ++ y ∷ after) × All (λ x. p x ≡ false) before

  pub parted : (xs : List X) (y : X) → find p xs ≡ Some y → PartsAt y xs
  parted [] y e = cc
  parted (x ∷ xs) y e = (elim (p x) as (λ b. p x ≡ b → PartsAt y (x ∷ xs)) [
    | true ↦ λ t. let e' = rw t at e in let same : x ≡ y = cc in ([], xs, ap (λ z. z ∷ xs) same, All-nil (λ z. p z ≡ false))
    | false ↦ λ t. let rest = parted xs y (rw t at e) in (x ∷ rest.0, rest.1, ap (λ zs. x ∷ zs) rest.2, All-cons (λ z. p z ≡ false) x rest.0 t rest.3)
  ]) refl

pub none : {X : Type 0} (p : X → Bool) (xs : List X) (y : X) → Has y xs → find p xs ≡ None → p y ≡ false
none p [] y h e = absurd h
none p (x ∷ xs) y h e = (elim (p x) as (λ b. p x ≡ b → p y ≡ false) [
  | true ↦ λ t. let e' = rw t at e in cc
  | false ↦ λ t. elim h [ inl same ↦ subst (λ z. p z ≡ false) (sym same) t | inr there ↦ none p xs y there (rw t at e) ]
]) refl

-- each rule is found by its number
found_itself : (r : Rule) → find (λ x. number_of x == number_of r) rules ≡ Some r
found_itself Identity = refl
found_itself _ = refl

listed : (r : Rule) → Has r rules
listed r = found_there (λ x. number_of x == number_of r) rules r (found_itself r)

-- and has one place
one_place : (r : Rule) → HasOnePlace r
one_place Identity = refl
one_place _ = refl

is_first_rule : (w : WorldLists) (q : Request) → IsFirstRule w q
is_first_rule w q = record {
  named = λ r is. found (λ x. denies x w q) rules r is;
  place = λ r is. parted (λ x. denies x w q) rules r is;
  none = λ is r. none (λ x. denies x w q) rules r (listed r) is;
}

pub none_denies : (w : WorldLists) (q : Request) (r : Rule) → first w q ≡ None → denies r w q ≡ false
none_denies w q r is = (is_first_rule w q).none is r

pub first_by_place : FirstByPlace
first_by_place = (one_place, refl, is_first_rule)
