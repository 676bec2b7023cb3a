-- Members that were taken one after another, and the sets that they are of.
use Rattle.std.proofs.Common.{◌≡◌, ◌⊎◌, ◌==◌, ◌<◌, ◌≤◌, ◌+◌, ℕ, zero, suc, Bool, true, false, not, cond, List, [], ◌∷◌, ◌++◌, length, drop, get_or, refl, sym, ap, ap₂, subst, arith, ◌∙◌, inl, inr, append_assoc, append-nil, drop-cons}
use Rattle.std.proofs.lemmas.Bool.Decides.{nat_tests}
use Rattle.std.specs.List.{AllByRecursion}
use Rattle.std.specs.List.Sorted.{IsNonDecreasingBy}
use Rattle.bank_policy.specs.PolicyKeys.{set_key}
use Rattle.bank_policy.specs.SetRow.{SetRow}
use Rattle.list_order.proofs.SortLemmas.{Rises, from-rises, rises}
use Rattle.bank_policy.specs.declared.rows.Member.{Member}
use Rattle.list_opening.specs.Sets.{ends_set, grouped, is_last, with_member}
use Rattle.list_opening.specs.declared.set_member.SetMember.{SetMember}

-- ---- the place of a member

pub last_alone : (rows : List SetMember) (i : ℕ) → i < length rows → length rows ≤ i + 1 → true ≡ is_last (drop i rows)
last_alone [] i below last = absurd (omega arith)
last_alone (m ∷ []) zero below last = refl
last_alone (m ∷ n ∷ rest) zero below last = absurd (omega arith)
last_alone (m ∷ rest) (suc i) below last = last_alone rest i (omega arith) (omega arith)

-- ---- members that wait for their set to end

abbrev pub pend : ℕ → List Member → List SetRow → List SetRow
pend k [] sets = sets
pend k (m ∷ ms) sets = with_member (record { set = k; member = m }) (pend k ms sets)

-- the first of these members is of this set
abbrev pub StartsWith : ℕ → List SetMember → Type 0
StartsWith k [] = ⊥
StartsWith k (m ∷ rest) = k ≡ m.set

pend-more : (k : ℕ) (ms : List Member) (m : Member) (sets : List SetRow) → pend k ms (with_member (record { set = k; member = m }) sets) ≡ pend k (ms ++ m ∷ []) sets
pend-more k [] m sets = refl
pend-more k (n ∷ ms) m sets = ap (with_member (record { set = k; member = n })) (pend-more k ms m sets)

-- the first of these sets is not this one
abbrev Other : ℕ → List SetRow → Type 0
Other k [] = Unit {0}
Other k (s ∷ sets) = (s.set == k) ≡ false

whole : (k : ℕ) (m : Member) (ms : List Member) (sets : List SetRow) → Other k sets → pend k (m ∷ ms) sets ≡ record { set = k; members = m ∷ ms } ∷ sets
whole k m [] [] other = refl
whole k m [] (s ∷ sets) other = ap (λ b. cond b (record { set = k; members = m ∷ s.members } ∷ sets) (record { set = k; members = m ∷ [] } ∷ s ∷ sets)) other
whole k m (n ∷ ms) sets other =
    ap (with_member (record { set = k; member = m })) (whole k n ms sets other) ∙ ap (λ b. cond b (record { set = k; members = m ∷ n ∷ ms } ∷ sets) (record { set = k; members = m ∷ [] } ∷ record { set = k; members = n ∷ ms } ∷ sets)) (itself k)
  where
    itself : (j : ℕ) → (j == j) ≡ true
    itself j = grind (arith, nat_tests)

first_set : (m : SetMember) (sets : List SetRow) (k : ℕ) → (m.set == k) ≡ false → Other k (with_member m sets)
first_set m [] k other = other
first_set m (s ∷ sets) k other = go (s.set == m.set)
  where
    go : (b : Bool) → Other k (cond b (record { set = m.set; members = m.member ∷ s.members } ∷ sets) (record { set = m.set; members = m.member ∷ [] } ∷ s ∷ sets))
    go true = other
    go false = other

last_other : (m : SetMember) (rest : List SetMember) → true ≡ is_last (m ∷ rest) → Other m.set (grouped rest)
last_other m [] last = tt
last_other m (n ∷ rest) last = first_set n (grouped rest) m.set (flip (n.set == m.set) last)
  where
    flip : (b : Bool) → true ≡ not b → b ≡ false
    flip true e = cc
    flip false e = refl

next_same : (m : SetMember) (rest : List SetMember) → false ≡ is_last (m ∷ rest) → StartsWith m.set rest
next_same m [] last = cc
next_same m (n ∷ rest) last = same n.set m.set (flip (n.set == m.set) last)
  where
    flip : (b : Bool) → false ≡ not b → b ≡ true
    flip true e = refl
    flip false e = cc

    same : (a b : ℕ) → (a == b) ≡ true → b ≡ a
    same a b e = grind (arith, nat_tests)

-- ---- a loop over members

-- i members were taken: these sets are whole, and these members wait
pub record AreTaken (rows : List SetMember) (i : ℕ) (sets : List SetRow) (members : List Member) : Type 0 where
  pub set : ℕ
  pub stated : grouped rows ≡ sets ++ pend set members (grouped (drop i rows))
  pub waits : (members ≡ []) ⊎ StartsWith set (drop i rows)

pub taken-none : (rows : List SetMember) (sets : List SetRow) (members : List Member) → sets ≡ [] → members ≡ [] → AreTaken rows 0 sets members
taken-none rows sets members no_sets no_members = record {
  set = 0;
  stated = sym (ap₂ (λ s ms. s ++ pend 0 ms (grouped rows)) no_sets no_members);
  waits = inl no_members;
}

one_more : (k : ℕ) (ms : List Member) (m : SetMember) (rest : List SetMember) → (ms ≡ []) ⊎ StartsWith k (m ∷ rest) → pend k ms (grouped (m ∷ rest)) ≡ pend m.set (ms ++ m.member ∷ []) (grouped rest)
one_more k ms m rest (inl none) = rw none refl
one_more k ms m rest (inr same) = rw same (pend-more m.set ms m.member (grouped rest))

split : (rows : List SetMember) (i : ℕ) (m : SetMember) → i < length rows → m ≡ get_or rows i m → drop i rows ≡ m ∷ drop (i + 1) rows
split rows i m below is = let next : suc i ≡ i + 1 = omega arith in drop-cons rows i m below ∙ ap₂ (λ x n. x ∷ drop n rows) (sym is) next

pub taken-more : (rows : List SetMember) (i : ℕ) (m : SetMember) (sets : List SetRow) (members new : List Member) → i < length rows → m ≡ get_or rows i m → false ≡ ends_set rows i → new ≡ members ++ m.member ∷ []
    → AreTaken rows i sets members → AreTaken rows (i + 1) sets new
taken-more rows i m sets members new below is last pushed before =
    let rest = split rows i m below is in
    record {
      set = m.set;
      stated = before.stated ∙ ap (λ l. sets ++ l) (ap (λ l. pend before.set members (grouped l)) rest ∙ one_more before.set members m (drop (i + 1) rows) (subst (λ l. (members ≡ []) ⊎ StartsWith before.set l) rest before.waits)
          ∙ ap (λ ms. pend m.set ms (grouped (drop (i + 1) rows))) (sym pushed));
      waits = inr (next_same m (drop (i + 1) rows) (last ∙ ap is_last rest));
    }

pub taken-set : (rows : List SetMember) (i : ℕ) (m : SetMember) (sets new_sets : List SetRow) (members own new : List Member) → i < length rows → m ≡ get_or rows i m → true ≡ ends_set rows i → own ≡ members ++ m.member ∷ []
    → new_sets ≡ sets ++ record { set = m.set; members = own } ∷ [] → new ≡ [] → AreTaken rows i sets members → AreTaken rows (i + 1) new_sets new
taken-set rows i m sets new_sets members own new below is last pushed made none before =
    let rest = split rows i m below is in
    record {
      set = m.set;
      stated = before.stated ∙ ap (λ l. sets ++ l) (ap (λ l. pend before.set members (grouped l)) rest ∙ one_more before.set members m (drop (i + 1) rows) (subst (λ l. (members ≡ []) ⊎ StartsWith before.set l) rest before.waits)
          ∙ ended members m (drop (i + 1) rows) (last ∙ ap is_last rest) ∙ ap (λ ms. record { set = m.set; members = ms } ∷ grouped (drop (i + 1) rows)) (sym pushed))
          ∙ sym (append_assoc sets (record { set = m.set; members = own } ∷ []) (grouped (drop (i + 1) rows))) ∙ ap₂ (λ s ms. s ++ pend m.set ms (grouped (drop (i + 1) rows))) (sym made) (sym none);
      waits = inl none;
    }
  where
    ended : (ms : List Member) (m : SetMember) (rest : List SetMember) → true ≡ is_last (m ∷ rest) → pend m.set (ms ++ m.member ∷ []) (grouped rest) ≡ record { set = m.set; members = ms ++ m.member ∷ [] } ∷ grouped rest
    ended [] m rest last = whole m.set m.member [] (grouped rest) (last_other m rest last)
    ended (n ∷ ms) m rest last = whole m.set n (ms ++ m.member ∷ []) (grouped rest) (last_other m rest last)

none_left : (rows : List SetMember) (i : ℕ) → length rows ≤ i → drop i rows ≡ []
none_left [] zero past = refl
none_left [] (suc i) past = refl
none_left (m ∷ rows) zero past = absurd (omega arith)
none_left (m ∷ rows) (suc i) past = none_left rows i (omega arith)

pub taken-all : (rows : List SetMember) (i : ℕ) (sets : List SetRow) (members : List Member) → length rows ≤ i → AreTaken rows i sets members → sets ≡ grouped rows
taken-all rows i sets members past taken = go members taken.set taken.stated taken.waits
  where
    rest : drop i rows ≡ []
    rest = none_left rows i past

    go : (ms : List Member) (k : ℕ) → grouped rows ≡ sets ++ pend k ms (grouped (drop i rows)) → (ms ≡ []) ⊎ StartsWith k (drop i rows) → sets ≡ grouped rows
    go ms k stated (inl none) = sym (stated ∙ ap₂ (λ l r. sets ++ pend k l (grouped r)) none rest ∙ append-nil sets)
    go ms k stated (inr starts) = absurd (subst (StartsWith k) rest starts)

-- ---- the order of sets

all_sets : (k : ℕ) (rows : List SetMember) → AllByRecursion (λ m. k ≤ m.set) rows → AllByRecursion (λ (s : SetRow). k ≤ s.set) (grouped rows)
all_sets k [] all = tt
all_sets k (m ∷ rows) all = go (grouped rows) (all_sets k rows all.1)
  where
    pick : (s : SetRow) (sets : List SetRow) (b : Bool) → (k ≤ s.set) × AllByRecursion (λ (t : SetRow). k ≤ t.set) sets
        → AllByRecursion (λ (t : SetRow). k ≤ t.set) (cond b (record { set = m.set; members = m.member ∷ s.members } ∷ sets) (record { set = m.set; members = m.member ∷ [] } ∷ s ∷ sets))
    pick s sets true rest = (all.0, rest.1)
    pick s sets false rest = (all.0, rest)

    go : (sets : List SetRow) → AllByRecursion (λ (s : SetRow). k ≤ s.set) sets → AllByRecursion (λ (s : SetRow). k ≤ s.set) (with_member m sets)
    go [] rest = (all.0, tt)
    go (s ∷ sets) rest = pick s sets (s.set == m.set) rest

sets_rise : (rows : List SetMember) → Rises (λ m. m.set) rows → Rises set_key (grouped rows)
sets_rise [] up = tt
sets_rise (m ∷ rows) up = go (grouped rows) (all_sets m.set rows up.0) (sets_rise rows up.1)
  where
    go : (sets : List SetRow) → AllByRecursion (λ (s : SetRow). m.set ≤ s.set) sets → Rises set_key sets → Rises set_key (with_member m sets)
    go [] all rest = (tt, tt)
    go (s ∷ sets) all rest = pick (s.set == m.set)
      where
        pick : (b : Bool) → Rises set_key (cond b (record { set = m.set; members = m.member ∷ s.members } ∷ sets) (record { set = m.set; members = m.member ∷ [] } ∷ s ∷ sets))
        pick true = (all.1, rest.1)
        pick false = (all, rest)

pub sets_in_order : (rows : List SetMember) → IsNonDecreasingBy (λ m. m.set) rows → IsNonDecreasingBy set_key (grouped rows)
sets_in_order rows order = from-rises set_key (grouped rows) (sets_rise rows (rises (λ m. m.set) rows order))
