-- Rows in order of their keys, and what is made of each: with one more, with one in place of another, with some made anew or taken away.
use Rattle.std.proofs.Common.{◌≡◌, ◌≢◌, ℕ, List, [], ◌∷◌, map, Bool, true, false, cond, refl, ap, ap₂, sym, ◌∙◌, subst, ◌==◌, Some, None, Option, Contains}
use Rattle.std.specs.Prelude.{nat_le, if◌then◌else◌, option_map}
use Rattle.std.specs.List.{filter, find}
use Rattle.std.proofs.lemmas.Bool.{eq-eqb, eqb-true, false≢true, ne_eqb}
use Rattle.std.proofs.lemmas.List.Kept.{IsNonDecreasingBy-filter}
use Rattle.keyed_rows.proofs.AddRow.{IsNonDecreasingBy-add_row}
use Rattle.keyed_rows.proofs.MadeRows.{IsNonDecreasingBy-made, key-changed}
use Rattle.keyed_rows.specs.Changed.{change_rows}
use Rattle.keyed_rows.specs.Ordered.{AreDistinct, add_row}
use Rattle.bank_policy.proofs.RowsTell.{from_filter}
use Rattle.book_laws.proofs.ChangedRows.{map-changed}
use Rattle.keyed_rows.proofs.Rows.{AreDistinct-add_row, Contains-head, Contains-map, Contains-tail, first_apart, found_by_key, found_row, map-map, none_of_key}
use Rattle.book_kept.specs.Keepable.{IsOrdered}
use Rattle.book_kept.specs.Named.{IsFree}
use Rattle.book_kept.specs.Sheets.{set_row}

-- ---- what is made of each row

pub map_same : {X Y : Type 0} (f g : X → Y) (xs : List X) → ((x : X) → Contains xs x → f x ≡ g x) → map f xs ≡ map g xs
map_same f g [] same = refl
map_same f g (x ∷ xs) same = ap₂ (λ y ys. y ∷ ys) (same x (Contains-head x xs)) (map_same f g xs (λ z there. same z (Contains-tail x xs z there)))

pub find-map : {X Y : Type 0} (p : Y → Bool) (f : X → Y) (xs : List X) → find p (map f xs) ≡ option_map f (find (λ x. p (f x)) xs)
find-map p f [] = refl
find-map p f (x ∷ xs) = elim (p (f x)) as (λ b. cond b (Some (f x)) (find p (map f xs)) ≡ option_map f (cond b (Some x) (find (λ x. p (f x)) xs))) [ true ↦ refl | false ↦ find-map p f xs ]

-- of a longer list
pub map-add_row : {X Y : Type 0} (key : Y → ℕ) (f : X → Y) (e : X) (xs : List X) → map f (add_row (λ x. key (f x)) e xs) ≡ add_row key (f e) (map f xs)
map-add_row key f e [] = refl
map-add_row key f e (x ∷ xs) =
    elim (nat_le (key (f x)) (key (f e))) as (λ b. map f (cond b (x ∷ add_row (λ x. key (f x)) e xs) (e ∷ x ∷ xs)) ≡ cond b (f x ∷ add_row key (f e) (map f xs)) (f e ∷ f x ∷ map f xs))
    [ true ↦ ap (λ ys. f x ∷ ys) (map-add_row key f e xs) | false ↦ refl ]

-- of rows with distinct keys, where one is made anew
pub map-set_row : {X Y : Type 0} (key : Y → ℕ) (f g : X → Y) (old new : Y) (xs : List X) → AreDistinct (map key (map f xs)) → find (λ y. key y == key new) (map f xs) ≡ Some old
    → ((x : X) → Contains xs x → f x ≡ old → g x ≡ new) → ((x : X) → Contains xs x → key (f x) ≢ key new → g x ≡ f x) → map g xs ≡ set_row key new (map f xs)
map-set_row {X} {Y} key f g old new xs distinct found here elsewhere =
    map_same g (λ x. if key (f x) == key new then new else f x) xs (λ x there. go x there (key (f x) == key new) refl) ∙ sym (map-map f (λ y. if key y == key new then new else y) xs)
  where
    go : (x : X) → Contains xs x → (b : Bool) → (key (f x) == key new) ≡ b → g x ≡ cond b new (f x)
    go x there true is = here x there (found_by_key key (key new) (map f xs) old (f x) distinct found (Contains-map f xs x there) (eqb-true (key (f x)) (key new) is))
    go x there false is = elsewhere x there (λ same. false≢true (sym is ∙ eq-eqb (key (f x)) (key new) same))

-- of rows that are made anew where they stand
pub map-change_rows : {X Y : Type 0} (key : X → ℕ) (shown : Y → ℕ) (k : ℕ) (made : X → X) (remade : Y → Y) (f g : X → Y) → ((x : X) → shown (f x) ≡ key x)
    → ((x : X) → g (made x) ≡ remade (f x)) → ((x : X) → g x ≡ f x) → (xs : List X) → map g (change_rows key k made xs) ≡ change_rows shown k remade (map f xs)
map-change_rows key shown k made remade f g same anew kept [] = refl
map-change_rows {X} {Y} key shown k made remade f g same anew kept (x ∷ xs) =
    ap₂ (λ y ys. y ∷ ys) (by (key x == k) ∙ ap (λ n. if n == k then remade (f x) else f x) (sym (same x))) (map-change_rows key shown k made remade f g same anew kept xs)
  where
    by : (b : Bool) → g (if b then made x else x) ≡ (if b then remade (f x) else f x)
    by true = anew x
    by false = kept x

-- a row that is found among those that are made is made of one
pub source : {X Y : Type 0} (f : X → Y) (o : Option X) (y : Y) → option_map f o ≡ Some y → (x : X) × ((o ≡ Some x) × (f x ≡ y))
source f None y is = absurd cc
source f (Some x) y is = (x, (refl, cc))

-- a key that is free among those that are made is free
pub IsFree-map : {X Y : Type 0} (key : Y → ℕ) (f : X → Y) (xs : List X) (k : ℕ) → IsFree key (map f xs) k → IsFree (λ x. key (f x)) xs k
IsFree-map key f xs k free = λ x there. free (f x) (Contains-map f xs x there)

-- ---- order

pub IsOrdered-add_row : {X : Type 0} (key : X → ℕ) (e : X) (xs : List X) → IsOrdered key xs → IsFree key xs (key e) → IsOrdered key (add_row key e xs)
IsOrdered-add_row key e xs was free = record { in_order = IsNonDecreasingBy-add_row key e xs was.in_order; distinct = AreDistinct-add_row key e xs was.distinct free }

pub IsOrdered-changed : {X : Type 0} (key : X → ℕ) (k : ℕ) (made : X → X) → ((x : X) → key (made x) ≡ key x) → (xs : List X) → IsOrdered key xs → IsOrdered key (change_rows key k made xs)
IsOrdered-changed key k made same xs was = record {
  in_order = IsNonDecreasingBy-made key (λ row. if key row == k then made row else row) (key-changed key made k same) xs was.in_order;
  distinct = subst AreDistinct (sym (map-changed key k made key same xs)) was.distinct;
}

-- the first row has no key of a row after it
AreDistinct-filter : {X : Type 0} (key : X → ℕ) (p : X → Bool) (xs : List X) → AreDistinct (map key xs) → AreDistinct (map key (filter p xs))
AreDistinct-filter key p [] distinct = tt
AreDistinct-filter {X = X} key p (x ∷ xs) distinct = go (p x) (AreDistinct-filter key p xs distinct.1)
  where
    go : (b : Bool) → AreDistinct (map key (filter p xs)) → AreDistinct (map key (cond b (x ∷ filter p xs) (filter p xs)))
    go true rest = (none_of_key key (key x) (filter p xs) (λ y there same. first_apart key x xs y distinct (from_filter p xs y there).0 (sym same)), rest)
    go false rest = rest

pub IsOrdered-filter : {X : Type 0} (key : X → ℕ) (p : X → Bool) (xs : List X) → IsOrdered key xs → IsOrdered key (filter p xs)
IsOrdered-filter key p xs was = record { in_order = IsNonDecreasingBy-filter key p xs was.in_order; distinct = AreDistinct-filter key p xs was.distinct }

-- ---- one row by its key

-- Of rows with distinct keys the one of a key is made anew, and every other stays: so that row stands in place of the one that was found.
pub set_by_key : {X Y : Type 0} (key : Y → ℕ) (f g : X → Y) (made : Y → Y) (k : ℕ) (old new : Y) (xs : List X) → AreDistinct (map key (map f xs)) → find (λ y. key y == k) (map f xs) ≡ Some old
    → ((y : Y) → key (made y) ≡ key y) → new ≡ made old → ((x : X) → Contains xs x → g x ≡ (if k == key (f x) then made (f x) else f x)) → map g xs ≡ set_row key new (map f xs)
set_by_key key f g made k old new xs distinct found keeps is each =
    let of : key old ≡ k = (found_row key k (map f xs) old found).1 in
    let of_new : key new ≡ k = ap key is ∙ keeps old ∙ of in
    map-set_row key f g old new xs distinct (ap (λ n. find (λ y. key y == n) (map f xs)) of_new ∙ found)
    (λ x there same. each x there ∙ ap (λ b. if b then made (f x) else f x) (eq-eqb k (key (f x)) (sym (ap key same ∙ of))) ∙ ap made same ∙ sym is)
    (λ x there apart. each x there ∙ ap (λ b. if b then made (f x) else f x) (ne_eqb k (key (f x)) (λ same. apart (sym same ∙ sym of_new))))
