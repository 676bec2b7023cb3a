-- What is said of each row, of some row or of none, by the rows that are there.
use Rattle.std.proofs.Common.{◌⊎◌, inl, inr, subst, ◌≡◌, ◌≢◌, ℕ, List, Bool, true, false, sym, ◌∙◌, All, Contains, get_or}
use Rattle.std.specs.Prelude.{Any}
use Rattle.std.specs.List.{filter, list_any}
use Rattle.std.proofs.lemmas.Bool.{false≢true}
use Rattle.std.proofs.lemmas.List.Elements.{All-contains, Contains-get_or}
use Rattle.std.proofs.lemmas.List.Folds.{Any-from_list_any, list_any-from_Any}
use Rattle.keyed_rows.specs.Ordered.{add_row}
use Rattle.bank_policy.proofs.RowsTell.{from_filter}
use Rattle.keyed_rows.proofs.Rows.{Contains-add_row_cases, each_added}

pub each_of : {X : Type 0} (P : X → Type 0) (xs : List X) → All P xs → (x : X) → Contains xs x → P x
each_of P xs all x there = All-contains P xs x all there

pub all_of : {X : Type 0} (P : X → Type 0) (xs : List X) → ((x : X) → Contains xs x → P x) → All P xs
all_of P xs each = λ i d below. each (get_or xs i d) (Contains-get_or xs i d below)

pub some_of : {X : Type 0} (P : X → Type 0) (xs : List X) → Any P xs → (x : X) × (Contains xs x × P x)
some_of P xs (k, x, below, is, holds) = (x, ((k, below, is), holds))

pub any_of : {X : Type 0} (P : X → Type 0) (xs : List X) (x : X) → Contains xs x → P x → Any P xs
any_of P xs x (k, below, is) holds = (k, x, below, is, holds)

-- what holds of some row of one list holds of some row of another that has all such rows
pub any_still : {X : Type 0} (P : X → Type 0) (xs ys : List X) → ((x : X) → Contains xs x → P x → Contains ys x) → Any P xs → Any P ys
any_still P xs ys among some =
    let row = some_of P xs some in
    any_of P ys row.0 (among row.0 row.1.0 row.1.1) row.1.1

-- a test that some row passes
pub some_passes : {X : Type 0} (p : X → Bool) (xs : List X) → list_any p xs ≡ true → (x : X) × (Contains xs x × (p x ≡ true))
some_passes p xs is = some_of (λ x. p x ≡ true) xs (Any-from_list_any p xs is)

-- and one that none does
pub none_passes : {X : Type 0} (p : X → Bool) (xs : List X) → list_any p xs ≡ false → (x : X) → Contains xs x → p x ≢ true
none_passes p xs is x there passes = false≢true (sym is ∙ list_any-from_Any p xs (any_of (λ y. p y ≡ true) xs x there passes))

-- what holds of the new row and of all the old ones
pub all_added : {X : Type 0} (key : X → ℕ) (e : X) (xs : List X) (P : X → Type 0) → P e → All P xs → All P (add_row key e xs)
all_added key e xs P new old = all_of P (add_row key e xs) (each_added key e xs P new (each_of P xs old))

-- what holds of some row beside a new one holds of that one, or of some old one
pub any_added : {X : Type 0} (key : X → ℕ) (e : X) (xs : List X) (P : X → Type 0) → Any P (add_row key e xs) → P e ⊎ Any P xs
any_added {X = X} key e xs P some =
    let row = some_of P (add_row key e xs) some in
    elim (Contains-add_row_cases key e xs row.0 row.1.0) [
      | inl new ↦ inl (subst P (sym new) row.1.1)
      | inr old ↦ inr (any_of P xs row.0 old row.1.1)
    ]

-- what holds of some row that stayed held of it before
pub any_filter : {X : Type 0} (test : X → Bool) (P : X → Type 0) (xs : List X) → Any P (filter test xs) → Any P xs
any_filter test P xs = any_still P (filter test xs) xs (λ x there holds. (from_filter test xs x there).0)

pub any_weaker : {X : Type 0} (P Q : X → Type 0) (xs : List X) → ((x : X) → P x → Q x) → Any P xs → Any Q xs
any_weaker P Q xs weaker some =
    let row = some_of P xs some in
    any_of Q xs row.0 row.1.0 (weaker row.0 row.1.1)
