-- Rows of one key made anew where they stand: what is made of none of their parts that are looked at stays.
use Rattle.std.proofs.Common.{◌≡◌, ℕ, ◌+◌, ◌≤◌, List, [], ◌∷◌, map, Bool, true, false, cond, refl, ap, sym, ◌∙◌, subst, ◌==◌, ◌&&◌, Some, Contains}
use Rattle.std.specs.Prelude.{if◌then◌else◌}
use Rattle.std.specs.List.{count_by, find}
use Rattle.std.specs.Option.{option_map_or}
use Rattle.std.proofs.lemmas.List.Sums.{sum_by-cons}
use Rattle.keyed_rows.specs.Changed.{change_rows}
use Rattle.keyed_rows.specs.Ordered.{HasRow}
use Rattle.bank_books.specs.Numbering.{AreNumbered}
use Rattle.keyed_rows.proofs.Rows.{Contains-map, Contains-map_source}

-- what is asked of a row that is made anew, or left alone
pub changed_same : {X Y : Type 0} (key : X → ℕ) (k : ℕ) (made : X → X) (f : X → Y) → ((x : X) → f (made x) ≡ f x) → (x : X) → f (if key x == k then made x else x) ≡ f x
changed_same {Y = Y} key k made f same x = by (key x == k)
  where
    by : (b : Bool) → f (if b then made x else x) ≡ f x
    by true = same x
    by false = refl

pub map-changed : {X Y : Type 0} (key : X → ℕ) (k : ℕ) (made : X → X) (f : X → Y) → ((x : X) → f (made x) ≡ f x) → (xs : List X) → map f (change_rows key k made xs) ≡ map f xs
map-changed key k made f same [] = refl
map-changed key k made f same (x ∷ xs) =
    ap (λ y. y ∷ map f (change_rows key k made xs)) (changed_same key k made f same x) ∙ ap (λ ys. f x ∷ ys) (map-changed key k made f same xs)

pub count-changed : {X : Type 0} (key : X → ℕ) (k : ℕ) (made : X → X) (p : X → Bool) → ((x : X) → p (made x) ≡ p x) → (xs : List X) → count_by p (change_rows key k made xs) ≡ count_by p xs
count-changed key k made p same [] = refl
count-changed key k made p same (x ∷ xs) =
    sum_by-cons (λ y. cond (p y) 1 0) (if key x == k then made x else x) (change_rows key k made xs)
    ∙ ap (λ b. cond b 1 0 + count_by p (change_rows key k made xs)) (changed_same key k made p same x)
    ∙ ap (λ n. cond (p x) 1 0 + n) (count-changed key k made p same xs)
    ∙ sym (sum_by-cons (λ y. cond (p y) 1 0) x xs)

-- each row of the changed list was made of one, or is one that was left alone
pub each_changed : {X : Type 0} (key : X → ℕ) (k : ℕ) (made : X → X) (xs : List X) (P : X → Type 0) → ((x : X) → Contains xs x → (key x == k) ≡ true → P (made x))
    → ((x : X) → Contains xs x → (key x == k) ≡ false → P x) → (y : X) → Contains (change_rows key k made xs) y → P y
each_changed {X = X} key k made xs P new old y there = go (Contains-map_source (λ x. if key x == k then made x else x) xs y there)
  where
    by : (x : X) → Contains xs x → (b : Bool) → (key x == k) ≡ b → P (if b then made x else x)
    by x among true is = new x among is
    by x among false is = old x among is

    go : (x : X) × (Contains xs x × ((if key x == k then made x else x) ≡ y)) → P y
    go (x, (among, is)) = subst P is (by x among (key x == k) refl)

-- rows that keep their keys are there still
pub HasRow-changed : {X : Type 0} (key : X → ℕ) (k : ℕ) (made : X → X) → ((x : X) → key (made x) ≡ key x) → (xs : List X) (n : ℕ) → HasRow key xs n → HasRow key (change_rows key k made xs) n
HasRow-changed key k made same xs n (row, (there, is)) =
    ((if key row == k then made row else row), (Contains-map (λ x. if key x == k then made x else x) xs row there, changed_same key k made key same row ∙ is))

-- what is looked up of a row by its key stays where what is made of it shows the same
pub find-changed : {X Y : Type 0} (key : X → ℕ) (k : ℕ) (made : X → X) (p : X → Bool) (f : X → Y) (none : Y) → ((x : X) → p (made x) ≡ p x) → ((x : X) → f (made x) ≡ f x) → (xs : List X)
    → option_map_or f (find p (change_rows key k made xs)) none ≡ option_map_or f (find p xs) none
find-changed key k made p f none passes same [] = refl
find-changed {X = X} {Y = Y} key k made p f none passes same (x ∷ xs) =
    ap (λ c. option_map_or f (cond c (Some (if key x == k then made x else x)) (find p (change_rows key k made xs))) none) (changed_same key k made p passes x)
    ∙ by (p x) (find-changed key k made p f none passes same xs)
  where
    by : (b : Bool) → option_map_or f (find p (change_rows key k made xs)) none ≡ option_map_or f (find p xs) none
        → option_map_or f (cond b (Some (if key x == k then made x else x)) (find p (change_rows key k made xs))) none ≡ option_map_or f (cond b (Some x) (find p xs)) none
    by true rest = changed_same key k made f same x
    by false rest = rest

-- rows that keep their group and their number are numbered still
pub AreNumbered-changed : {X : Type 0} (key : X → ℕ) (k : ℕ) (made : X → X) (group number : X → ℕ) → ((x : X) → group (made x) ≡ group x) → ((x : X) → number (made x) ≡ number x) → (xs : List X) (of : ℕ)
    → AreNumbered group number xs of → AreNumbered group number (change_rows key k made xs) of
AreNumbered-changed {X = X} key k made group number groups numbers xs of was =
    let count = count-changed key k made (λ r. group r == of) (λ x. ap (λ g. g == of) (groups x)) xs in
    record {
      low = λ y there is.
          each_changed key k made xs (λ r. group r ≡ of → 1 ≤ number r) (λ x among named same. subst (λ n. 1 ≤ n) (sym (numbers x)) (was.low x among (sym (groups x) ∙ same)))
          (λ x among other same. was.low x among same) y there is;
      high = λ y there is.
          subst (λ c. number y ≤ c) (sym count)
          (each_changed key k made xs (λ r. group r ≡ of → number r ≤ count_by (λ r. group r == of) xs)
          (λ x among named same. subst (λ n. n ≤ count_by (λ r. group r == of) xs) (sym (numbers x)) (was.high x among (sym (groups x) ∙ same))) (λ x among other same. was.high x among same) y there is);
      once = λ n.
          subst (λ c. c ≤ 1)
          (sym (count-changed key k made (λ r. group r == of && number r == n) (λ x. ap (λ g. g == of && number (made x) == n) (groups x) ∙ ap (λ m. group x == of && m == n) (numbers x)) xs)) (was.once n);
    }
