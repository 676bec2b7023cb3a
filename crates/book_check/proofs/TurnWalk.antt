-- Where the parts of a group are numbered, each stands at the place of its number, so a walk over the places meets all.
use Rattle.std.proofs.Common.{◌≡◌, ℕ, zero, suc, ◌+◌, ◌-◌, ◌<◌, ◌≤◌, ◌==◌, ◌&&◌, ℤ, pos, ◌+ℤ◌, List, [], ◌∷◌, length, take, map, get_or, Bool, true, false, cond, Contains, refl, ap, arith, sym, subst, ◌∙◌, inl, inr}
use Rattle.std.specs.Prelude.{nat_le}
use Rattle.std.specs.List.{filter}
use Rattle.std.specs.List.Sorted.{IsNonDecreasingBy}
use Rattle.std.proofs.lemmas.Bool.{and_from, cases_lt, eq-eqb, eqb-true, false≢true, le-leb, lt-leb}
use Rattle.std.proofs.lemmas.Int.{ints}
use Rattle.std.proofs.lemmas.List.{get_or_default}
use Rattle.std.proofs.lemmas.List.Elements.{Contains-get_or}
use Rattle.std.proofs.lemmas.List.Sums.{length-filter}
use Rattle.keyed_rows.specs.Totals.{total}
use Rattle.keyed_rows.proofs.DistinctKeys.{apart-from_AreDistinct}
use Rattle.keyed_rows.proofs.TotalLemmas.{total-take_more}
use Rattle.bank_books.specs.declared.rows.Account.{Account}
use Rattle.bank_books.specs.Numbering.{AreNumbered}
use Rattle.book_sums.specs.declared.shares.Part.{Part}
use Rattle.book_sums.specs.Shares.{part_key, total_up_to}
use Rattle.book_sums.proofs.Counting.{both_true}
use Rattle.book_sums.proofs.GroupRows.{from_filter, in_filter}
use Rattle.book_sums.proofs.SharesBetween.{PassBetween, total-PassBetween, where_passes}
use Rattle.book_check.specs.Turns.{AreBalancesAfter, AreBeside, IsAccountInTurns}
use Rattle.book_range.proofs.GroupKeys.{distinct_from_once}

abbrev pub of_group : ℕ → List Part → List Part
of_group g parts = filter (λ p. p.group == g) parts

-- the parts of a group, in order and numbered
pub record StandInTurn (parts : List Part) (g : ℕ) : Type 0 where
  pub in_order : IsNonDecreasingBy part_key (of_group g parts)
  pub numbered : AreNumbered (λ p. p.group) (λ p. p.number) parts g

inside : (parts : List Part) (g k : ℕ) (d : Part) → k < length (of_group g parts) → Contains parts (get_or (of_group g parts) k d) × ((get_or (of_group g parts) k d).group ≡ g)
inside parts g k d below =
    let found = from_filter (λ p. p.group == g) parts (get_or (of_group g parts) k d) (Contains-get_or (of_group g parts) k d below) in
    (found.0, eqb-true _ _ found.1)

lesser : (a b g h i : ℕ) → h ≡ g → i ≡ g → part_key record { group = h; number = a; amount = pos 0 } ≤ part_key record { group = i; number = b; amount = pos 0 } →
    (part_key record { group = h; number = a; amount = pos 0 } ≡ part_key record { group = i; number = b; amount = pos 0 } → ⊥) → a < b
lesser a b g h i first second up apart = elim (cases_lt a b) [
  | inl less ↦ less
  | inr more ↦ absurd (apart (omega (arith, up, more, first, second)))
]

rises : (parts : List Part) (g k : ℕ) (d : Part) → StandInTurn parts g → k + 1 < length (of_group g parts) → (get_or (of_group g parts) k d).number < (get_or (of_group g parts) (k + 1) d).number
rises parts g k d stand below =
    let first = get_or (of_group g parts) k d in
    let second = get_or (of_group g parts) (k + 1) d in
    lesser first.number second.number g first.group second.group (inside parts g k d (omega arith)).1 (inside parts g (k + 1) d below).1
    (stand.in_order k (k + 1) d (omega arith) below)
    (apart-from_AreDistinct part_key (of_group g parts) k (k + 1) d (distinct_from_once part_key (λ p. p.group) (λ p. p.number) (λ _. refl) parts g stand.numbered.once) (omega arith) below)

at_least : (parts : List Part) (g k : ℕ) (d : Part) → StandInTurn parts g → k < length (of_group g parts) → k + 1 ≤ (get_or (of_group g parts) k d).number
at_least parts g zero d stand below = let here = inside parts g 0 d below in stand.numbered.low _ here.0 here.1
at_least parts g (suc k) d stand below =
    let next : k + 1 ≡ suc k = omega arith in
    let P : ℕ → Type 0 = λ j. k + 2 ≤ (get_or (of_group g parts) j d).number in
    let up : k + 2 ≤ (get_or (of_group g parts) (k + 1) d).number = omega (arith, at_least parts g k d stand (omega arith), rises parts g k d stand (omega arith)) in
    omega (arith, subst P next up)

at_most : (parts : List Part) (g j k : ℕ) (d : Part) → StandInTurn parts g → k + j + 1 ≡ length (of_group g parts) → (get_or (of_group g parts) k d).number ≤ k + 1
at_most parts g zero k d stand last =
    let here = inside parts g k d (omega arith) in
    omega (arith, last, stand.numbered.high _ here.0 here.1, length-filter (λ p. p.group == g) parts)
at_most parts g (suc j) k d stand last = omega (arith, at_most parts g j (k + 1) d stand (omega arith), rises parts g k d stand (omega arith))

number_at : (parts : List Part) (g k : ℕ) (d : Part) → StandInTurn parts g → k < length (of_group g parts) → (get_or (of_group g parts) k d).number ≡ k + 1
number_at parts g k d stand below =
    omega (arith, at_least parts g k d stand below, at_most parts g (length (of_group g parts) - (k + 1)) k d stand (omega arith))

-- a sum over parts that pass a second test only where they pass the first is one over all parts
total_within : {X : Type 0} (p r : X → Bool) (f : X → ℤ) → ((x : X) → r x ≡ true → p x ≡ true) → (xs : List X) → total (map (where_passes r f) (filter p xs)) ≡ total (map (where_passes r f) xs)
total_within p r f implied [] = refl
total_within {X} p r f implied (x ∷ xs) = go (p x) (r x) refl refl (total_within p r f implied xs)
  where
    go : (a b : Bool) → p x ≡ a → r x ≡ b → total (map (where_passes r f) (filter p xs)) ≡ total (map (where_passes r f) xs) →
        total (map (where_passes r f) (cond a (x ∷ filter p xs) (filter p xs))) ≡ where_passes r f x +ℤ total (map (where_passes r f) xs)
    go true b passes is rest = ap (λ z. where_passes r f x +ℤ z) rest
    go false true fails is rest = absurd (false≢true (sym fails ∙ implied x is))
    go false false fails is rest =
        let none : where_passes r f x ≡ pos 0 = ap (λ b. cond b (f x) (pos 0)) is in
        omega (arith, ints, rest, none)

-- the parts in front of a place come to what those come to that are numbered up to it
up_to_place : (parts : List Part) (g k : ℕ) → StandInTurn parts g → k < length (of_group g parts) → total (map (λ p. p.amount) (take (k + 1) (of_group g parts))) ≡ total_up_to g (k + 1) parts
up_to_place parts g k stand below =
    let test : Part → Bool = λ p. p.group == g && nat_le p.number (k + 1) in
    let passes : (j : ℕ) (d : Part) → j < k + 1 → test (get_or (of_group g parts) j d) ≡ true =
    λ j d less.
    let part = get_or (of_group g parts) j d in
    let low : part.number ≤ k + 1 = omega (arith, number_at parts g j d stand (omega arith)) in
    and_from (part.group == g) (nat_le part.number (k + 1)) (eq-eqb part.group g (inside parts g j d (omega arith)).1) (le-leb part.number (k + 1) low) in
    let fails : (j : ℕ) (d : Part) → k + 1 ≤ j → j < length (of_group g parts) → test (get_or (of_group g parts) j d) ≡ false =
    λ j d more less.
    let part = get_or (of_group g parts) j d in
    let high : k + 1 < part.number = omega (arith, number_at parts g j d stand less) in
    and_false (part.group == g) (nat_le part.number (k + 1)) (lt-leb part.number (k + 1) high) in
    let between : PassBetween test (of_group g parts) 0 (k + 1) = record {
      in_order = omega arith;
      within = omega arith;
      before = λ j d less. absurd (omega arith);
      between = λ j d low less. passes j d less;
      after = fails;
    } in
    let sums = total-PassBetween test (λ p. p.amount) (of_group g parts) 0 (k + 1) between in
    omega (arith, ints, sums) ∙ total_within (λ p. p.group == g) test (λ p. p.amount) (λ p is. (both_true (p.group == g) (nat_le p.number (k + 1)) is).0) parts
  where
    and_false : (a b : Bool) → b ≡ false → (a && b) ≡ false
    and_false true b is = is
    and_false false b is = refl

-- what a walk over the places says of each balance
pub by_walk : (deltas balances : List Part) (a : Account) → StandInTurn deltas a.account → IsNonDecreasingBy part_key (of_group a.account balances) → AreBeside deltas balances a.account →
    AreBalancesAfter a.opening (of_group a.account deltas) (of_group a.account balances) → IsAccountInTurns deltas balances a
by_walk deltas balances a stand in_order beside after = record {
  turns = stand.numbered;
  amounts = λ p there of.
      let place = in_filter (λ q. q.group == a.account) balances p there (eq-eqb _ _ of) in
      let number : place.0 + 1 ≡ p.number =
      sym (number_at balances a.account place.0 p (record { in_order = in_order; numbered = beside.numbered stand.numbered }) place.1) ∙ ap (λ q. q.number) place.2 in
      let below : place.0 < length (of_group a.account deltas) = omega (arith, after.one_each, place.1) in
      sym (ap (λ q. q.amount) place.2) ∙ after.amounts place.0 p below ∙ ap (λ z. a.opening +ℤ z) (up_to_place deltas a.account place.0 stand below)
      ∙ ap (λ n. a.opening +ℤ total_up_to a.account n deltas) number;
}

-- and the way back
pub walk_by : (deltas balances : List Part) (a : Account) → IsNonDecreasingBy part_key (of_group a.account deltas) → IsNonDecreasingBy part_key (of_group a.account balances) →
    AreBeside deltas balances a.account → IsAccountInTurns deltas balances a → AreBalancesAfter a.opening (of_group a.account deltas) (of_group a.account balances)
walk_by deltas balances a deltas_order balances_order beside is =
    let stand : StandInTurn deltas a.account = record { in_order = deltas_order; numbered = is.turns } in
    let long : length (of_group a.account deltas) ≡ length (of_group a.account balances) =
    length-filter (λ p. p.group == a.account) deltas ∙ sym beside.count ∙ sym (length-filter (λ p. p.group == a.account) balances) in
    record {
      one_each = long;
      amounts = λ k d below.
          let within : k < length (of_group a.account balances) = omega (arith, long) in
          let here = inside balances a.account k d within in
          let number = number_at balances a.account k d (record { in_order = balances_order; numbered = beside.numbered is.turns }) within in
          is.amounts _ here.0 here.1 ∙ ap (λ n. a.opening +ℤ total_up_to a.account n deltas) number ∙ ap (λ z. a.opening +ℤ z) (sym (up_to_place deltas a.account k stand below));
    }

-- the same walk over lists that equal those
pub same_walk : (o p : ℤ) (deltas ds balances bs : List Part) → o ≡ p → deltas ≡ ds → balances ≡ bs → AreBalancesAfter o deltas balances → AreBalancesAfter p ds bs
same_walk o p deltas ds balances bs opening first second is =
    let O : ℤ → Type 0 = λ z. AreBalancesAfter z deltas balances in
    let D : List Part → Type 0 = λ xs. AreBalancesAfter p xs balances in
    let B : List Part → Type 0 = λ xs. AreBalancesAfter p ds xs in
    subst B second (subst D first (subst O opening is))

-- one place more of a walk
pub sum_more : (deltas : List Part) (i : ℕ) (opening before : ℤ) (d : Part) → i < length deltas → before ≡ opening +ℤ total (map (λ p. p.amount) (take i deltas)) →
    before +ℤ (get_or deltas i d).amount ≡ opening +ℤ total (map (λ p. p.amount) (take (i + 1) deltas))
sum_more deltas i opening before d below is =
    let delta = get_or deltas i d in
    omega (arith, ints, is, total-take_more (λ p. p.amount) deltas i delta below (get_or_default deltas i d delta below))

pub walk_more : (deltas balances : List Part) (i : ℕ) (opening before : ℤ) (d : Part) → i < length deltas → i < length balances → before ≡ opening +ℤ total (map (λ p. p.amount) (take i deltas)) →
    (get_or balances i d).amount ≡ before +ℤ (get_or deltas i d).amount → ((k : ℕ) (e : Part) → k < i → (get_or balances k e).amount ≡ opening +ℤ total (map (λ p. p.amount) (take (k + 1) deltas))) →
    (k : ℕ) (e : Part) → k < i + 1 → (get_or balances k e).amount ≡ opening +ℤ total (map (λ p. p.amount) (take (k + 1) deltas))
walk_more deltas balances i opening before d below within is stated earlier k e less = elim (cases_lt k i) [
  | inl front ↦ earlier k e front
  | inr last ↦
      let here : i ≡ k = omega arith in
      let P : ℕ → Type 0 = λ j. (get_or balances j e).amount ≡ opening +ℤ total (map (λ p. p.amount) (take (j + 1) deltas)) in
      subst P here (ap (λ p. p.amount) (get_or_default balances i e d within) ∙ stated ∙ sum_more deltas i opening before d below is)
]
