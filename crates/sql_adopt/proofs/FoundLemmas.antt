-- That the members of sets with numbers that differ are distinguished: each set has those that follow one another.
use Rattle.std.proofs.Common.{◌≡◌, ◌≢◌, ◌≤◌, ◌<◌, ◌+◌, ◌==◌, ℕ, zero, suc, false, true, List, [], ◌∷◌, ◌++◌, map, take, drop, length, get_or, refl, sym, ap, ap₂, subst, arith, ◌∙◌, Contains}
use Rattle.std.specs.Prelude.{None, Option, Some}
use Rattle.std.specs.Option.{IsSomeAnd}
use Rattle.std.specs.List.{enumerate_from, flat_map}
use Rattle.std.proofs.lemmas.Bool.{eq-eqb, eqb-true, false≢true}
use Rattle.std.proofs.lemmas.List.{append_cancel_left, drop_all, drop_more, get_or-map, length-map, length-take-le, take-append-drop, take_all, take_more}
use Rattle.std.proofs.lemmas.List.Concat.{flat_map-append}
use Rattle.keyed_rows.specs.Ordered.{AreDistinct}
use Rattle.bank_policy.specs.PolicyKeys.{set_key}
use Rattle.bank_policy.specs.SetRow.{SetRow}
use Rattle.bank_policy.specs.declared.rows.Member.{Member}
use Rattle.keyed_rows.proofs.Rows.{Contains-head, first_apart}
use Rattle.book_kept.proofs.MemberRows.{each_placed, member_source}
use Rattle.book_kept.specs.Records.{member_row, member_rows}
use Rattle.book_kept.specs.declared.records.MemberRow.{MemberRow}
use Rattle.sql_adopt.specs.ReadBack.{AreInFront, AreSetsOf}
use Rattle.sql_adopt.proofs.SetLemmas.{AreOwn, AreSoFar}

-- ---- the members of one set

-- they stand in front at their places, from this one on, and no row after them is of the set
abbrev Fronts : ℕ → ℕ → List MemberRow → List Member → List MemberRow → Type 0
Fronts set first rows members following = (map (member_row set) (enumerate_from first members) ++ following ≡ rows) × ((m : MemberRow) → Contains following m → m.set ≢ set)

-- a row of the set that comes next stands at the next place
next_is : (set first : ℕ) (own members : List Member) (row : MemberRow) (rest rows following : List MemberRow) → map (member_row set) (enumerate_from first own) ++ row ∷ rest ≡ rows
    → Fronts set first rows members following → row.set ≡ set → (m : Member) × (row ≡ member_row set (first + length own, m))
next_is set first [] [] row rest rows following here there of = absurd (there.1 row (subst (λ l. Contains l row) (here ∙ sym there.0) (Contains-head row rest)) of)
next_is set first [] (x ∷ members) row rest rows following here there of =
    let same : row ∷ rest ≡ member_row set (first, x) ∷ (map (member_row set) (enumerate_from (first + 1) members) ++ following) = here ∙ sym there.0 in
    let is : row ≡ member_row set (first, x) = cc in
    (x, is ∙ ap (λ n. member_row set (n, x)) (omega arith))
next_is set first (y ∷ own) [] row rest rows following here there of =
    absurd (there.1 (member_row set (first, y)) (subst (λ l. Contains l (member_row set (first, y))) (here ∙ sym there.0) (Contains-head (member_row set (first, y)) (map (member_row set) (enumerate_from (first + 1) own) ++ row ∷ rest))) refl)
next_is set first (y ∷ own) (x ∷ members) row rest rows following here there of =
    let found = next_is set (first + 1) own members row rest (map (member_row set) (enumerate_from (first + 1) own) ++ row ∷ rest) following refl (sym (ap (drop 1) (here ∙ sym there.0)), there.1) of in
    (found.0, found.1 ∙ ap (λ n. member_row set (n, found.0)) (omega arith))

-- the first of these rows, if there is one, is not of the set
abbrev Stops : ℕ → List MemberRow → Type 0
Stops set rest = (d : MemberRow) → 0 < length rest → (get_or rest 0 d).set ≢ set

-- where none of the set comes next, all its members were read
all_are : (set first : ℕ) (own members : List Member) (rest rows following : List MemberRow) → map (member_row set) (enumerate_from first own) ++ rest ≡ rows → Fronts set first rows members following → Stops set rest
    → own ≡ members
all_are set first [] [] rest rows following here there stops = refl
all_are set first [] (x ∷ members) rest rows following here there stops =
    absurd (subst (Stops set) (here ∙ sym there.0) stops (member_row set (first, x)) (omega arith) refl)
all_are set first (y ∷ own) [] rest rows following here there stops =
    absurd (there.1 (member_row set (first, y)) (subst (λ l. Contains l (member_row set (first, y))) (here ∙ sym there.0) (Contains-head (member_row set (first, y)) (map (member_row set) (enumerate_from (first + 1) own) ++ rest))) refl)
all_are set first (y ∷ own) (x ∷ members) rest rows following here there stops =
    let same : member_row set (first, y) ∷ (map (member_row set) (enumerate_from (first + 1) own) ++ rest) ≡ member_row set (first, x) ∷ (map (member_row set) (enumerate_from (first + 1) members) ++ following) = here ∙ sym there.0 in
    let is : y ≡ x = ap (λ l. (get_or l 0 (member_row set (first, x))).member) same in
    ap₂ (λ m ms. m ∷ ms) is (all_are set (first + 1) own members rest (map (member_row set) (enumerate_from (first + 1) own) ++ rest) following refl (sym (ap (drop 1) same), there.1) stops)

module _ (set : ℕ) (rows : List MemberRow) (i : ℕ) (own members : List Member) (read : AreOwn set rows i own) (front : AreInFront set rows members) where
  read_is : map (member_row set) (enumerate_from 1 own) ++ drop i rows ≡ rows
  read_is = ap (λ l. l ++ drop i rows) (sym read.front) ∙ take-append-drop i rows

  -- at a row of another set
  pub own_to_other : (row : MemberRow) → i < length rows → row ≡ get_or rows i row → (row.set == set) ≡ false → own ≡ members
  own_to_other row below at other =
      let left = drop_more rows i row below ∙ ap (λ r. r ∷ drop (i + 1) rows) (sym at) in
      all_are set 1 own members (row ∷ drop (i + 1) rows) rows front.following (ap (λ l. map (member_row set) (enumerate_from 1 own) ++ l) (sym left) ∙ read_is) (front.front, front.others)
      (λ d some same. false≢true (sym other ∙ eq-eqb row.set set same))

  -- past the last row
  pub own_to_end : length rows ≤ i → own ≡ members
  own_to_end past =
      all_are set 1 own members [] rows front.following (ap (λ l. map (member_row set) (enumerate_from 1 own) ++ l) (sym (drop_all i rows past)) ∙ read_is) (front.front, front.others)
      (λ d some. absurd (omega arith))

  -- a row of the set is at the next place
  pub own_next : (row : MemberRow) → i < length rows → row ≡ get_or rows i row → (row.set == set) ≡ true → (m : Member) × (row ≡ member_row set (length own + 1, m))
  own_next row below at of =
      let left = drop_more rows i row below ∙ ap (λ r. r ∷ drop (i + 1) rows) (sym at) in
      let found =
      next_is set 1 own members row (drop (i + 1) rows) rows front.following (ap (λ l. map (member_row set) (enumerate_from 1 own) ++ l) (sym left) ∙ read_is) (front.front, front.others) (eqb-true row.set set of)
      in
      (found.0, found.1 ∙ ap (λ n. member_row set (n, found.0)) (omega arith))

-- ---- the members of all sets

-- a set without members, for a place where there is none
pub no_set : SetRow
no_set = record { set = 0; members = [] }

-- the members of the first of some sets stand in front of those of all of them
in_front : (s : SetRow) (sets : List SetRow) (rows : List MemberRow) → AreDistinct (map set_key (s ∷ sets)) → flat_map member_rows (s ∷ sets) ≡ rows → AreInFront s.set rows s.members
in_front s sets rows distinct are = record {
  following = flat_map member_rows sets;
  front = are;
  others = λ m there same.
      let (z, (among, of)) = member_source sets m there in
      first_apart set_key s sets z distinct among (sym same ∙ (each_placed z.set 1 z.members m of).of);
}

distinct_after : (i : ℕ) (xs : List SetRow) → AreDistinct (map set_key xs) → AreDistinct (map set_key (drop i xs))
distinct_after zero xs distinct = distinct
distinct_after (suc i) [] distinct = tt
distinct_after (suc i) (x ∷ xs) distinct = distinct_after i xs distinct.1

rest_is : (sets : List SetRow) (members : List MemberRow) (i at : ℕ) → flat_map member_rows sets ≡ members → flat_map member_rows (take i sets) ≡ take at members → at ≤ length members
    → flat_map member_rows (drop i sets) ≡ drop at members
rest_is sets members i at all front within =
    let whole : take at members ++ flat_map member_rows (drop i sets) ≡ members =
    ap (λ l. l ++ flat_map member_rows (drop i sets)) (sym front) ∙ sym (flat_map-append member_rows (take i sets) (drop i sets)) ∙ ap (flat_map member_rows) (take-append-drop i sets) ∙ all
    in
    append_cancel_left (take at members) (flat_map member_rows (drop i sets)) (drop at members) (whole ∙ sym (take-append-drop at members))

module _ (numbers : List ℕ) (members : List MemberRow) (i at : ℕ) (sets own : List SetRow) (are : AreSetsOf numbers members own) (distinct : AreDistinct numbers)
    (so_far : AreSoFar numbers members i at sets) (same : sets ≡ take i own) where
  count_is : length own ≡ length numbers
  count_is = sym (length-map own (λ (s : SetRow). s.set)) ∙ ap length are.numbers_are

  -- the members of the next set stand in front of those that are left
  pub next_in_front : i < length numbers → AreInFront (get_or numbers i 0) (drop at members) (get_or own i no_set).members
  next_in_front below =
      let s = get_or own i no_set in
      let inside : i < length own = omega (arith, count_is) in
      let left = drop_more own i no_set inside in
      let number : s.set ≡ get_or numbers i 0 = sym (get_or-map (λ (z : SetRow). z.set) own i no_set 0 inside) ∙ ap (λ l. get_or l i 0) are.numbers_are in
      subst (λ n. AreInFront n (drop at members) s.members) number
      (in_front s (drop (i + 1) own) (drop at members) (subst (λ l. AreDistinct (map set_key l)) left (distinct_after i own (subst AreDistinct (sym are.numbers_are) distinct)))
      (ap (flat_map member_rows) (sym left) ∙ rest_is own members i at are.members_are (ap (flat_map member_rows) (sym same) ∙ so_far.members_are) so_far.within))

  -- one set more
  pub same_more : (mine : List Member) (new : List SetRow) → i < length numbers → mine ≡ (get_or own i no_set).members → new ≡ sets ++ record { set = get_or numbers i 0; members = mine } ∷ []
      → new ≡ take (i + 1) own
  same_more mine new below is made =
      let inside : i < length own = omega (arith, count_is) in
      let number : get_or numbers i 0 ≡ (get_or own i no_set).set = sym (ap (λ l. get_or l i 0) are.numbers_are) ∙ get_or-map (λ (z : SetRow). z.set) own i no_set 0 inside in
      made ∙ ap₂ (λ l s. l ++ s ∷ []) same (ap₂ (λ n ms. record { set = n; members = ms }) number is) ∙ sym (take_more own i no_set inside)

  -- all of them
  pub same_all : length numbers ≤ i → sets ≡ own
  same_all past = same ∙ take_all i own (omega (arith, count_is))

  pub no_more : length numbers ≤ i → at ≡ length members
  no_more past =
      let whole : members ≡ take at members = sym are.members_are ∙ ap (flat_map member_rows) (sym (same_all past)) ∙ so_far.members_are in
      let count = ap length whole ∙ length-take-le at members so_far.within in
      sym count

-- ---- what is found

pub there_is : {X : Type 0} (o : Option X) (x : X) (P : X → Type 0) → IsSomeAnd o P → o ≡ Some x → P x
there_is o x P h is = subst (λ found. IsSomeAnd found P) is h

pub not_none : {X : Type 0} (o : Option X) (P : X → Type 0) → IsSomeAnd o P → o ≡ None → ⊥
not_none o P h is = subst (λ found. IsSomeAnd found P) is h
