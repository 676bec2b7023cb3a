-- The members of sets, in order of set and place: with one more set, and that they determine the sets.
use Rattle.std.proofs.Common.{◌≡◌, ◌≢◌, ℕ, ◌+◌, ◌*◌, ◌^◌, ◌<◌, ◌≤◌, List, [], ◌∷◌, ◌++◌, length, map, Bool, true, false, cond, refl, ap, arith, sym, ◌∙◌, subst, Contains, inl, inr, append-nil}
use Rattle.std.specs.Prelude.{nat_le}
use Rattle.std.specs.List.{enumerate_from, flat_map}
use Rattle.std.specs.List.Sorted.{IsNonDecreasingBy}
use Rattle.std.proofs.lemmas.Bool.{le-leb}
use Rattle.std.proofs.lemmas.Bool.Decides.{nat_tests}
use Rattle.std.proofs.lemmas.List.Elements.{Contains-append_cases}
use Rattle.keyed_rows.specs.Ordered.{add_row}
use Rattle.bank_policy.specs.PolicyKeys.{set_key}
use Rattle.bank_policy.specs.SetRow.{SetRow}
use Rattle.bank_policy.specs.declared.rows.Member.{Member}
use Rattle.keyed_rows.proofs.Rows.{Contains-cons_cases, Contains-head, Contains-tail, none_there, rest_in_order}
use Rattle.book_kept.proofs.Rising.{Rises, Rises-append, first_lowest}
use Rattle.book_kept.specs.Changes.{add_rows}
use Rattle.book_kept.specs.Named.{IsFree}
use Rattle.book_kept.specs.Records.{member_row, member_rows}
use Rattle.book_kept.specs.Sheets.{member_no}
use Rattle.book_kept.specs.declared.records.MemberRow.{MemberRow}

-- ---- several rows, each put at its place

over : {X : Type 0} (key : X → ℕ) (e x : X) (xs : List X) → key x ≤ key e → add_row key e (x ∷ xs) ≡ x ∷ add_row key e xs
over key e x xs low = ap (λ b. cond b (x ∷ add_row key e xs) (e ∷ x ∷ xs)) (le-leb (key x) (key e) low)

-- after a row whose key is above none of theirs
add_rows-cons : {X : Type 0} (key : X → ℕ) (new : List X) (x : X) (xs : List X) → ((n : X) → Contains new n → key x ≤ key n) → add_rows key new (x ∷ xs) ≡ x ∷ add_rows key new xs
add_rows-cons key [] x xs low = refl
add_rows-cons key (n ∷ new) x xs low =
    ap (add_rows key new) (over key n x xs (low n (Contains-head n new))) ∙ add_rows-cons key new x (add_row key n xs) (λ m there. low m (Contains-tail n new m there))

-- and so after many
add_rows-append : {X : Type 0} (key : X → ℕ) (new xs ys : List X) → ((x : X) → Contains xs x → (n : X) → Contains new n → key x ≤ key n) → add_rows key new (xs ++ ys) ≡ xs ++ add_rows key new ys
add_rows-append key new [] ys low = refl
add_rows-append key new (x ∷ xs) ys low =
    add_rows-cons key new x (xs ++ ys) (low x (Contains-head x xs)) ∙ ap (λ zs. x ∷ zs) (add_rows-append key new xs ys (λ z there. low z (Contains-tail x xs z there)))

above_test : (a b : ℕ) → b < a → nat_le a b ≡ false
above_test a b low = grind (arith, nat_tests)

in_front : {X : Type 0} (key : X → ℕ) (e : X) (xs : List X) → ((x : X) → Contains xs x → key e < key x) → add_row key e xs ≡ e ∷ xs
in_front key e [] high = refl
in_front key e (x ∷ xs) high = ap (λ b. cond b (x ∷ add_row key e xs) (e ∷ x ∷ xs)) (above_test (key x) (key e) (high x (Contains-head x xs)))

weaker : (a b : ℕ) → a < b → a ≤ b
weaker a b low = omega arith

-- in front of rows whose keys are all above theirs
add_rows-front : {X : Type 0} (key : X → ℕ) (new xs : List X) → Rises key new → ((n : X) → Contains new n → (x : X) → Contains xs x → key n < key x) → add_rows key new xs ≡ new ++ xs
add_rows-front key [] xs rises high = refl
add_rows-front key (n ∷ new) xs rises high =
    ap (add_rows key new) (in_front key n xs (high n (Contains-head n new)))
    ∙ add_rows-cons key new n xs (λ m there. weaker (key n) (key m) (rises.0 m there))
    ∙ ap (λ zs. n ∷ zs) (add_rows-front key new xs rises.1 (λ m there. high m (Contains-tail n new m there)))

-- ---- the members of one set

-- they are of that set, and their places are as many as they are, from the first
pub record IsPlaced (set first : ℕ) (members : List Member) (m : MemberRow) : Type 0 where
  pub of : m.set ≡ set
  pub low : first ≤ m.place
  pub high : m.place < first + length members

abbrev pub placed_from : ℕ → ℕ → List Member → List MemberRow
placed_from set first members = map (member_row set) (enumerate_from first members)

pub each_placed : (set first : ℕ) (members : List Member) (m : MemberRow) → Contains (placed_from set first members) m → IsPlaced set first members m
each_placed set first [] m there = absurd (none_there there)
each_placed set first (x ∷ members) m there = elim (Contains-cons_cases (member_row set (first, x)) (placed_from set (first + 1) members) m there) [
  | inl is ↦ subst (IsPlaced set first (x ∷ members)) is (record { of = refl; low = omega arith; high = omega arith })
  | inr following ↦ by (each_placed set (first + 1) members m following)
]
  where
    by : IsPlaced set (first + 1) members m → IsPlaced set first (x ∷ members) m
    by was =
        let low = was.low in
        let high = was.high in
        record { of = was.of; low = omega arith; high = omega arith }

same_set : (s p q : ℕ) (s' : ℕ) → s' ≡ s → p < q → 2 ^ 32 * s + p < 2 ^ 32 * s' + q
same_set s p q s' same low = omega arith

next_place : (p q : ℕ) → p + 1 ≤ q → p < q
next_place p q low = omega arith

placed_rise : (set first : ℕ) (members : List Member) → Rises member_no (placed_from set first members)
placed_rise set first [] = tt
placed_rise set first (x ∷ members) = (
  λ y there.
      let is = each_placed set (first + 1) members y there in
      same_set set first y.place y.set is.of (next_place first y.place is.low),
  placed_rise set (first + 1) members,
)

-- ---- those of all sets

set_below : (s p s' p' n : ℕ) → s < s' → p < 1 + n → n < 2 ^ 32 → 2 ^ 32 * s + p < 2 ^ 32 * s' + p'
set_below s p s' p' n low high small = omega arith

-- the members of a set lie below those of one with a higher number
below : (x y : SetRow) (m n : MemberRow) → x.set < y.set → length x.members < 2 ^ 32 → Contains (member_rows x) m → Contains (member_rows y) n → member_no m < member_no n
below x y m n low small there here =
    let first = each_placed x.set 1 x.members m there in
    let second = each_placed y.set 1 y.members n here in
    set_below m.set m.place n.set n.place (length x.members) (subst (λ k. m.set < k) (sym second.of) (subst (λ k. k < y.set) (sym first.of) low)) first.high small

-- a member stands in one of the sets
pub member_source : (sets : List SetRow) (m : MemberRow) → Contains (flat_map member_rows sets) m → (s : SetRow) × (Contains sets s × Contains (member_rows s) m)
member_source [] m there = absurd (none_there there)
member_source (s ∷ sets) m there = elim (Contains-append_cases (member_rows s) (flat_map member_rows sets) m there) [
  | inl here ↦ (s, (Contains-head s sets, here))
  | inr following ↦ later (member_source sets m following)
]
  where
    later : (z : SetRow) × (Contains sets z × Contains (member_rows z) m) → (z : SetRow) × (Contains (s ∷ sets) z × Contains (member_rows z) m)
    later (z, (among, here)) = (z, (Contains-tail s sets z among, here))

lower : (a b : ℕ) → nat_le a b ≡ true → a ≢ b → a < b
lower a b low apart = grind (arith, nat_tests)

higher : (a b c : ℕ) → nat_le a b ≡ false → a ≤ c → b < c
higher a b c above low = grind (arith, nat_tests)

-- One set more: its members stand at their places.
pub members_added : (row : SetRow) (sets : List SetRow) → IsNonDecreasingBy set_key sets → ((s : SetRow) → Contains sets s → length s.members < 2 ^ 32) → IsFree set_key sets row.set → length row.members < 2 ^ 32
    → flat_map member_rows (add_row set_key row sets) ≡ add_rows member_no (member_rows row) (flat_map member_rows sets)
members_added row [] order small free few =
    append-nil (member_rows row) ∙ sym (add_rows-front member_no (member_rows row) [] (placed_rise row.set 1 row.members) (λ n there x here. absurd (none_there here)) ∙ append-nil (member_rows row))
members_added row (x ∷ sets) order small free few =
    go (nat_le x.set row.set) refl (members_added row sets (rest_in_order set_key x sets order) (λ s there. small s (Contains-tail x sets s there)) (λ s there. free s (Contains-tail x sets s there)) few)
  where
    go : (b : Bool) → nat_le x.set row.set ≡ b → flat_map member_rows (add_row set_key row sets) ≡ add_rows member_no (member_rows row) (flat_map member_rows sets)
        → flat_map member_rows (cond b (x ∷ add_row set_key row sets) (row ∷ x ∷ sets)) ≡ add_rows member_no (member_rows row) (flat_map member_rows (x ∷ sets))
    go true is rest =
        ap (λ zs. member_rows x ++ zs) rest
        ∙ sym (add_rows-append member_no (member_rows row) (member_rows x) (flat_map member_rows sets)
        (λ m there n here. weaker (member_no m) (member_no n) (below x row m n (lower x.set row.set is (free x (Contains-head x sets))) (small x (Contains-head x sets)) there here)))
    go false is rest =
        sym (add_rows-front member_no (member_rows row) (flat_map member_rows (x ∷ sets)) (placed_rise row.set 1 row.members) (λ n here m there.
        let (z, (among, of)) = member_source (x ∷ sets) m there in
        below row z n m (higher x.set row.set z.set is (first_lowest set_key x sets z order among)) few here of))

-- The members of all sets stand in order.
pub members_rise : (sets : List SetRow) → Rises set_key sets → ((s : SetRow) → Contains sets s → length s.members < 2 ^ 32) → Rises member_no (flat_map member_rows sets)
members_rise [] rises small = tt
members_rise (x ∷ sets) rises small =
    Rises-append member_no (member_rows x) (flat_map member_rows sets) (placed_rise x.set 1 x.members) (members_rise sets rises.1 (λ s there. small s (Contains-tail x sets s there)))
    (λ m there n here.
    let (z, (among, of)) = member_source sets n here in
    below x z m n (rises.0 z among) (small x (Contains-head x sets)) there of)
