-- The lines of a policy that is sound stand in order of their keys, so after the key of one the next is found.
use Rattle.std.proofs.Common.{◌≡◌, ℕ, ◌+◌, ◌*◌, ◌^◌, ◌<◌, ◌≤◌, zero, suc, List, [], ◌∷◌, ◌++◌, Bool, true, false, cond, ◌&&◌, ◌||◌, ltb, eqb, Some, map, length, get_or, All, refl, ap, sym, ◌∙◌, arith, add-one}
use Rattle.std.specs.List.{enumerate_from, find, flat_map, slice_get}
use Rattle.std.proofs.lemmas.Bool.{lt-ltb}
use Rattle.std.proofs.lemmas.Bool.Decides.{nat_tests}
use Rattle.std.proofs.lemmas.List.Elements.{All-append, All-cons, All-head, All-map, All-tail, All-weaker}
use Rattle.bank_policy.specs.Policy.{PolicyLists}
use Rattle.bank_policy.specs.PolicyKeys.{ArePolicyRowsInOrder, certifier_key, relation_key, set_key, triple_key, user_key}
use Rattle.bank_policy.specs.SetRow.{SetRow}
use Rattle.policy_check.specs.Soundness.{IsPolicySound, IsSetSound}
use Rattle.bank_policy.specs.declared.rows.Member.{Member}
use Rattle.world_reads.specs.Laws.{NextLineFollows}
use Rattle.world_reads.specs.PolicyListing.{is_before, key_of, kind_of, lines_after_users, placed_member, policy_rows, set_members}
use Rattle.world_reads.specs.declared.policy_row.PolicyRow.{PolicyRow}
use Rattle.world_reads.specs.declared.policy_row.PolicyRow.TheVariants as row
use Rattle.world_reads.specs.declared.policy_row.SetMember.{SetMember}
use Rattle.world_reads.proofs.Rising.{Rises, rises, rises-joined}

abbrev comes_before : PolicyRow → PolicyRow → Bool
comes_before a b = is_before (key_of a) (key_of b)

-- each line comes before all those after it
abbrev Ordered : List PolicyRow → Type 0
Ordered [] = Unit {0}
Ordered (x ∷ xs) = All (λ y. comes_before x y ≡ true) xs × Ordered xs

not-before-itself : (m n : ℕ) → (ltb m m || (eqb m m && ltb n n)) ≡ false
not-before-itself m n = grind (arith, nat_tests)

not-before-turned : (a b c d : ℕ) → (ltb a b || (eqb a b && ltb c d)) ≡ true → (ltb b a || (eqb b a && ltb d c)) ≡ false
not-before-turned a b c d e = grind (arith, nat_tests)

before-of-kind : (a c d : ℕ) → c < d → (ltb a a || (eqb a a && ltb c d)) ≡ true
before-of-kind a c d below = grind (arith, nat_tests)

before-by-kind : (a b c d : ℕ) → a < b → (ltb a b || (eqb a b && ltb c d)) ≡ true
before-by-kind a b c d below = ap (λ t. t || (eqb a b && ltb c d)) (lt-ltb a b below)

holds-at : {X : Type 0} (P : X → Type 0) (xs : List X) (k : ℕ) (x : X) → All P xs → slice_get xs k ≡ Some x → P x
holds-at P [] k x all e = cc
holds-at P (y ∷ ys) zero x all e = let same : y ≡ x = cc in rw (← same) (All-head P y ys all)
holds-at P (y ∷ ys) (suc k) x all e = holds-at P ys k x (All-tail P y ys all) e

first-following : (x : PolicyRow) (ys : List PolicyRow) → All (λ y. comes_before x y ≡ true) ys → find (comes_before x) ys ≡ slice_get ys 0
first-following x [] all = refl
first-following x (y ∷ ys) all = ap (λ b. cond b (Some y) (find (comes_before x) ys)) (All-head (λ z. comes_before x z ≡ true) y ys all)

follows : (xs : List PolicyRow) (k : ℕ) (x : PolicyRow) → Ordered xs → slice_get xs k ≡ Some x → find (comes_before x) xs ≡ slice_get xs (suc k)
follows [] k x order e = cc
follows (y ∷ ys) zero x order e =
    let same : y ≡ x = cc in
    ap (λ z. find (comes_before z) (y ∷ ys)) (sym same)
    ∙ ap (λ b. cond b (Some y) (find (comes_before y) ys)) (not-before-itself (kind_of (key_of y)) _)
    ∙ first-following y ys order.0
follows (y ∷ ys) (suc k) x order e =
    ap (λ b. cond b (Some y) (find (comes_before x) ys)) (not-before-turned (kind_of (key_of y)) (kind_of (key_of x)) _ _ (holds-at (λ z. comes_before y z ≡ true) ys k x order.0 e))
    ∙ follows ys k x order.1 e

of-kind : {X : Type 0} (f : X → PolicyRow) (key : X → ℕ) (xs : List X) → ((a b : X) → key a < key b → comes_before (f a) (f b) ≡ true) → Rises key xs → Ordered (map f xs)
of-kind f key [] step order = tt
of-kind f key (x ∷ xs) step order = (
  All-map (λ y. comes_before (f x) y ≡ true) f xs (λ k d below. step x (get_or xs k d) (order.0 k d below)),
  of-kind f key xs step order.1,
)

joined : (kind : ℕ) (xs ys : List PolicyRow) → Ordered xs → Ordered ys → All (λ x. kind_of (key_of x) ≡ kind) xs → All (λ y. kind < kind_of (key_of y)) ys → Ordered (xs ++ ys)
joined kind [] ys first second all above = second
joined kind (x ∷ xs) ys first second all above =
    let is : kind_of (key_of x) ≡ kind = All-head (λ z. kind_of (key_of z) ≡ kind) x xs all in (
      All-append (λ y. comes_before x y ≡ true) xs ys first.0
          (All-weaker (λ y. kind < kind_of (key_of y)) (λ y. comes_before x y ≡ true) (λ y h. before-by-kind (kind_of (key_of x)) (kind_of (key_of y)) _ _ (omega arith)) ys above),
      joined kind xs ys first.1 second (All-tail (λ z. kind_of (key_of z) ≡ kind) x xs all) above,
    )

abbrev column : SetMember → ℕ
column m = 2 ^ 64 * m.set + m.place

abbrev IsPlaced : ℕ → ℕ → ℕ → SetMember → Type 0
IsPlaced set low high m = (m.set ≡ set) × (low ≤ m.place) × (m.place < high)

placed : (set place : ℕ) (ms : List Member) → All (IsPlaced set place (place + length ms)) (map (placed_member set) (enumerate_from place ms))
placed set place [] = λ k d below. absurd (omega arith)
placed set place (m ∷ ms) =
    All-cons (IsPlaced set place (place + suc (length ms))) (placed_member set (place, m)) (map (placed_member set) (enumerate_from (place + 1) ms))
    (refl, omega arith, omega arith)
    (All-weaker (IsPlaced set (place + 1) (place + 1 + length ms)) (IsPlaced set place (place + suc (length ms))) (λ y h. (h.0, omega arith, omega arith)) _ (placed set (place + 1) ms))

placed-rise : (set place : ℕ) (ms : List Member) → Rises column (map (placed_member set) (enumerate_from place ms))
placed-rise set place [] = tt
placed-rise set place (m ∷ ms) = (
  All-weaker (IsPlaced set (place + 1) (place + 1 + length ms)) (λ y. 2 ^ 64 * set + place < column y) (λ y h. omega arith) _ (placed set (place + 1) ms),
  placed-rise set (place + 1) ms,
)

above-set : (set : ℕ) (ss : List SetRow) → All (λ s. set < s.set) ss → All (λ m. set < m.set) (flat_map set_members ss)
above-set set [] above = λ k d below. absurd (omega arith)
above-set set (s ∷ ss) above =
    let over : set < s.set = All-head (λ t. set < t.set) s ss above in
    All-append (λ m. set < m.set) (set_members s) (flat_map set_members ss)
    (All-weaker (IsPlaced s.set 1 (1 + length s.members)) (λ m. set < m.set) (λ m h. omega arith) _ (placed s.set 1 s.members))
    (above-set set ss (All-tail (λ t. set < t.set) s ss above))

members-rise : (ss : List SetRow) → Rises set_key ss → All IsSetSound ss → Rises column (flat_map set_members ss)
members-rise [] order sound = tt
members-rise (s ∷ ss) order sound =
    let few : length s.members ≤ 32 = (All-head IsSetSound s ss sound).few in
    rises-joined column (set_members s) (flat_map set_members ss) (placed-rise s.set 1 s.members) (members-rise ss order.1 (All-tail IsSetSound s ss sound))
    (All-weaker (IsPlaced s.set 1 (1 + length s.members)) (λ x. All (λ y. column x < column y) (flat_map set_members ss))
    (λ x h. All-weaker (λ m. s.set < m.set) (λ y. column x < column y) (λ y over. omega arith) _ (above-set s.set ss order.0))
    _ (placed s.set 1 s.members))

over : {X : Type 0} (kind : ℕ) (f : X → PolicyRow) (xs : List X) → ((x : X) → kind < kind_of (key_of (f x))) → All (λ y. kind < kind_of (key_of y)) (map f xs)
over kind f xs above = All-map (λ y. kind < kind_of (key_of y)) f xs (λ k d below. above (get_or xs k d))

also : (kind : ℕ) (xs ys : List PolicyRow) → All (λ y. kind < kind_of (key_of y)) xs → All (λ y. kind < kind_of (key_of y)) ys → All (λ y. kind < kind_of (key_of y)) (xs ++ ys)
also kind xs ys = All-append (λ y. kind < kind_of (key_of y)) xs ys

same : {X : Type 0} (kind : ℕ) (f : X → PolicyRow) (xs : List X) → ((x : X) → kind_of (key_of (f x)) ≡ kind) → All (λ y. kind_of (key_of y) ≡ kind) (map f xs)
same kind f xs is = All-map (λ y. kind_of (key_of y) ≡ kind) f xs (λ k d below. is (get_or xs k d))

lines-ordered : (p : PolicyLists) → ArePolicyRowsInOrder p.users p.sets p.relations p.triples p.certifiers → IsPolicySound p → Ordered (map row.User p.users ++ lines_after_users p)
lines-ordered p in_order sound =
    let users : Ordered (map row.User p.users) =
    of-kind row.User user_key p.users (λ a b h. before-of-kind 1 (user_key a) (user_key b) h) (rises user_key p.users in_order.users_in_order sound.users.distinct) in
    let certifiers : Ordered (map row.Certifier p.certifiers) =
    of-kind row.Certifier certifier_key p.certifiers (λ a b h. before-of-kind 2 (certifier_key a) (certifier_key b) h)
    (rises certifier_key p.certifiers in_order.certifiers_in_order sound.certifiers.distinct) in
    let members : Ordered (map row.Member (flat_map set_members p.sets)) =
    of-kind row.Member column (flat_map set_members p.sets) (λ a b h. before-of-kind 3 (column a) (column b) h)
    (members-rise p.sets (rises set_key p.sets in_order.sets_in_order sound.sets.distinct) sound.sets.each) in
    let relations : Ordered (map row.Relation p.relations) =
    of-kind row.Relation relation_key p.relations (λ a b h. before-of-kind 4 (relation_key a) (relation_key b) h)
    (rises relation_key p.relations in_order.relations_in_order sound.relations.distinct) in
    let triples : Ordered (map row.Triple p.triples) =
    of-kind row.Triple triple_key p.triples (λ a b h. before-of-kind 5 (triple_key a) (triple_key b) h)
    (rises triple_key p.triples in_order.triples_in_order sound.triples.distinct) in
    let ms = flat_map set_members p.sets in
    joined 1 _ _ users
    (joined 2 _ _ certifiers
    (joined 3 _ _ members
    (joined 4 _ _ relations triples (same 4 row.Relation p.relations (λ x. refl)) (over 4 row.Triple p.triples (λ x. omega arith)))
    (same 3 row.Member ms (λ x. refl))
    (also 3 _ _ (over 3 row.Relation p.relations (λ x. omega arith)) (over 3 row.Triple p.triples (λ x. omega arith))))
    (same 2 row.Certifier p.certifiers (λ x. refl))
    (also 2 _ _ (over 2 row.Member ms (λ x. omega arith))
    (also 2 _ _ (over 2 row.Relation p.relations (λ x. omega arith)) (over 2 row.Triple p.triples (λ x. omega arith)))))
    (same 1 row.User p.users (λ x. refl))
    (also 1 _ _ (over 1 row.Certifier p.certifiers (λ x. omega arith))
    (also 1 _ _ (over 1 row.Member ms (λ x. omega arith))
    (also 1 _ _ (over 1 row.Relation p.relations (λ x. omega arith)) (over 1 row.Triple p.triples (λ x. omega arith)))))

pub next_line_follows : NextLineFollows
next_line_follows w k line in_order sound found = follows (policy_rows w) k line (lines-ordered w.policy in_order sound) found ∙ ap (slice_get (policy_rows w)) (sym (add-one k))
