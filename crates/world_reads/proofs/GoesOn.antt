-- The rows above a key that pass a test: the first of them, and after it those above its own key.
use Rattle.std.proofs.Common.{◌≡◌, ℕ, ◌+◌, ◌<◌, ◌≤◌, suc, List, [], ◌∷◌, Bool, true, false, cond, ◌&&◌, ltb, Option, Some, None, map, take, option_map, All, refl, ap, sym, ◌∙◌, arith, add-one}
use Rattle.std.specs.List.{filter, find}
use Rattle.std.proofs.lemmas.Bool.{and_parts, le-ltb, lt-ltb, ltb-true}
use Rattle.std.proofs.lemmas.List.Elements.{All-head, All-tail}
use Rattle.bank_books.specs.Records.{account_record_of}
use Rattle.world_reads.specs.Laws.{ShownGoesOn}
use Rattle.world_reads.proofs.Rising.{Rises, rises}

-- above a key, and passes the test
abbrev pub passes : {X : Type 0} → (X → ℕ) → (X → Bool) → ℕ → X → Bool
passes key q a x = ltb a (key x) && q x

found-holds : {X : Type 0} (p : X → Bool) (P : X → Type 0) (xs : List X) (r : X) → All P xs → find p xs ≡ Some r → P r
found-holds p P [] r all e = cc
found-holds p P (x ∷ xs) r all e = tested (p x) (found-holds p P xs r (All-tail P x xs all)) e
  where
    tested : (b : Bool) → (find p xs ≡ Some r → P r) → cond b (Some x) (find p xs) ≡ Some r → P r
    tested true following found = let same : x ≡ r = cc in rw (← same) (All-head P x xs all)
    tested false following found = following found

same-above : {X : Type 0} (key : X → ℕ) (q : X → Bool) (a b : ℕ) (xs : List X) → a < b → All (λ y. b < key y) xs → filter (passes key q a) xs ≡ filter (passes key q b) xs
same-above key q a b [] below all = refl
same-above key q a b (x ∷ xs) below all =
    let high : b < key x = All-head (λ y. b < key y) x xs all in
    let over : ltb a (key x) ≡ ltb b (key x) = lt-ltb a (key x) (omega arith) ∙ sym (lt-ltb b (key x) high) in
    let rest = same-above key q a b xs below (All-tail (λ y. b < key y) x xs all) in
    ap (λ t. cond (t && q x) (x ∷ filter (passes key q a) xs) (filter (passes key q a) xs)) over
    ∙ ap (λ ys. cond (passes key q b x) (x ∷ ys) ys) rest

pub next-kept : {X : Type 0} (key : X → ℕ) (q : X → Bool) (a : ℕ) (xs : List X) (r : X) → Rises key xs → find (passes key q a) xs ≡ Some r →
    filter (passes key q a) xs ≡ r ∷ filter (passes key q (key r)) xs
next-kept key q a [] r order e = cc
next-kept key q a (x ∷ xs) r order e = tested (passes key q a x) refl (next-kept key q a xs r order.1) e
  where
    not_above : (b : ℕ) → key x ≤ b → passes key q b x ≡ false
    not_above b le = ap (λ t. t && q x) (le-ltb b (key x) le)

    here : (b : ℕ) → key x ≤ b → filter (passes key q b) (x ∷ xs) ≡ filter (passes key q b) xs
    here b le = ap (λ t. cond t (x ∷ filter (passes key q b) xs) (filter (passes key q b) xs)) (not_above b le)

    tested : (b : Bool) → passes key q a x ≡ b → (find (passes key q a) xs ≡ Some r → filter (passes key q a) xs ≡ r ∷ filter (passes key q (key r)) xs) →
        cond b (Some x) (find (passes key q a) xs) ≡ Some r →
        cond b (x ∷ filter (passes key q a) xs) (filter (passes key q a) xs) ≡ r ∷ filter (passes key q (key r)) (x ∷ xs)
    tested true is following found =
        let same : x ≡ r = cc in
        let over : a < key x = ltb-true a (key x) (and_parts (ltb a (key x)) (q x) is).0 in
        ap (λ ys. x ∷ ys) (same-above key q a (key x) xs over order.0 ∙ sym (here (key x) (omega arith)))
        ∙ ap (λ z. z ∷ filter (passes key q (key z)) (x ∷ xs)) same
    tested false is following found =
        let over : key x < key r = found-holds (passes key q a) (λ y. key x < key y) xs r order.0 found in
        following found ∙ ap (λ ys. r ∷ ys) (sym (here (key r) (omega arith)))

made-on : {X Y : Type 0} (f : X → Y) (back : Y → X) (again : (x : X) → back (f x) ≡ x) (key : X → ℕ) (q : X → Bool) (a n : ℕ) (xs : List X) (o : Option X) (y : Y) → Rises key xs →
    find (passes key q a) xs ≡ o → option_map f o ≡ Some y →
    map f (take (n + 1) (filter (passes key q a) xs)) ≡ y ∷ map f (take n (filter (passes key q (key (back y))) xs))
made-on f back again key q a n xs None y order found is = cc
made-on f back again key q a n xs (Some x) y order found is =
    let same : f x ≡ y = cc in
    rw add-one (
    ap (λ ys. map f (take (suc n) ys)) (next-kept key q a xs x order found)
    ∙ ap (λ k. f x ∷ map f (take n (filter (passes key q (key k)) xs))) (sym (again x))
    ∙ ap (λ z. z ∷ map f (take n (filter (passes key q (key (back z))) xs))) same)

pub shown_goes_on : ShownGoesOn
shown_goes_on w user after count moment row in_order distinct next =
    made-on (account_record_of w) (λ r. r.row) (λ a. refl) _ _ after count w.accounts _ row (rises _ w.accounts in_order distinct) refl next
