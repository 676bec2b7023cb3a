-- The line of the policy after a key, kind by kind.
use Rattle.std.proofs.Common.{◌≡◌, ◌<◌, ◌+◌, ◌*◌, ◌^◌, ◌-◌, ◌==◌, ◌&&◌, ◌||◌, ◌++◌, append-nil, ℕ, min, List, [], ◌∷◌, map, slice_get, Bool, true, false, cond, Option, Some, None, Contains, refl, ap, arith, sym, ◌∙◌}
use Rattle.std.specs.Prelude.{nat_lt}
use Rattle.std.specs.List.{find}
use Rattle.std.proofs.lemmas.Bool.Decides.{nat_tests}
use Rattle.sqlite.specs.Effect.{Database}
use Rattle.bank_policy.specs.declared.rows.Certifier.{Certifier}
use Rattle.bank_policy.specs.declared.rows.Relation.{Relation}
use Rattle.bank_policy.specs.declared.rows.Triple.{Triple}
use Rattle.bank_terms.specs.Procedure.{number_of}
use Rattle.keyed_rows.proofs.Rows.{Contains-head, Contains-tail}
use Rattle.book_kept.specs.Sheets.{Sheets}
use Rattle.book_kept.specs.declared.records.MemberRow.{MemberRow}
use Rattle.sql_schema.specs.Held.{HoldsTables}
use Rattle.sql_schema.specs.Held.Sheet.{members as in_members, relations as in_relations, triples as in_triples}
use Rattle.bank_terms.proofs.Procedures.{small_number}
use Rattle.world_reads.specs.PolicyListing.{is_row_after}
use Rattle.world_reads.specs.declared.policy_row.PolicyKey.{PolicyKey}
use Rattle.world_reads.specs.declared.policy_row.PolicyKey.TheVariants as key
use Rattle.world_reads.specs.declared.policy_row.PolicyRow.{PolicyRow}
use Rattle.sql_listing.specs.Columns.{FitsKey, key_columns, is_less, is_past, key_kind, or_first}
use Rattle.sql_listing.specs.Lines.{line_of, lines_after, lines_in, lines_of}
use Rattle.sql_listing.specs.declared.kinds.LineKind.TheVariants as kind
use Rattle.std.proofs.Math.Bool.{and-false, or-false}
use Rattle.sql_listing.proofs.LineLemmas.{first_of_all}

-- ---- columns as one number

by_one : (n a : ℕ) → nat_lt n a ≡ is_less (record { first = n; second = 0; third = 0 }) (record { first = a; second = 0; third = 0 })
by_one n a = sym (ap (λ t. nat_lt n a || t) (and-false (n == a)) ∙ or-false (nat_lt n a))

two_less : (n m a b : ℕ) → m < 2 ^ 32 → b < 2 ^ 32 → nat_lt (2 ^ 32 * n + m) (2 ^ 32 * a + b) ≡ (nat_lt n a || (n == a && nat_lt m b))
two_less n m a b p q = grind (arith, nat_tests)

without_third : (n m a b : ℕ) → (nat_lt n a || (n == a && nat_lt m b)) ≡ is_less (record { first = n; second = m; third = 0 }) (record { first = a; second = b; third = 0 })
without_third n m a b = sym (ap (λ t. nat_lt n a || (n == a && t)) (ap (λ t. nat_lt m b || t) (and-false (m == b)) ∙ or-false (nat_lt m b)))

by_two : (n m a b : ℕ) → m < 2 ^ 32 → b < 2 ^ 32 → nat_lt (2 ^ 32 * n + m) (2 ^ 32 * a + b) ≡ is_less (record { first = n; second = m; third = 0 }) (record { first = a; second = b; third = 0 })
by_two n m a b p q = two_less n m a b p q ∙ without_third n m a b

-- no place is above 32 bits
place_less : (n m a b : ℕ) → m < 2 ^ 64 → b < 2 ^ 32 → nat_lt (2 ^ 64 * n + m) (2 ^ 64 * a + b) ≡ (nat_lt n a || (n == a && nat_lt m b))
place_less n m a b p q = grind (arith, nat_tests)

cut_place : (m b : ℕ) → b < 2 ^ 32 → nat_lt m b ≡ nat_lt (min m (2 ^ 32 - 1)) b
cut_place m b q = grind (arith, nat_tests)

by_place : (n m a b : ℕ) → m < 2 ^ 64 → b < 2 ^ 32 → nat_lt (2 ^ 64 * n + m) (2 ^ 64 * a + b) ≡ is_less (record { first = n; second = min m (2 ^ 32 - 1); third = 0 }) (record { first = a; second = b; third = 0 })
by_place n m a b p q = place_less n m a b p q ∙ ap (λ t. nat_lt n a || (n == a && t)) (cut_place m b q) ∙ without_third n (min m (2 ^ 32 - 1)) a b

by_three : (n m k a b c : ℕ) → m < 2 ^ 32 → k < 2 ^ 32 → b < 2 ^ 32 → c < 2 ^ 32 → nat_lt (2 ^ 64 * n + 2 ^ 32 * m + k) (2 ^ 64 * a + 2 ^ 32 * b + c) ≡ is_less (record { first = n; second = m; third = k }) (record { first = a; second = b; third = c })
by_three n m k a b c p q r s = grind (arith, nat_tests)

-- ---- the first that passes

-- of lines that pass, the first of all
every_one : {X : Type 0} (f : X → PolicyRow) (p : PolicyRow → Bool) (xs : List X) → ((x : X) → p (f x) ≡ true) → find p (map f xs) ≡ slice_get (map f xs) 0
every_one f p [] all = refl
every_one f p (x ∷ xs) all = ap (λ b. cond b (Some (f x)) (find p (map f xs))) (all x)

every_one_and : {X : Type 0} (f : X → PolicyRow) (p : PolicyRow → Bool) (xs : List X) (ys : List PolicyRow) → ((x : X) → p (f x) ≡ true) → find p ys ≡ slice_get ys 0 → find p (map f xs ++ ys) ≡ slice_get (map f xs ++ ys) 0
every_one_and f p [] ys all rest = rest
every_one_and f p (x ∷ xs) ys all rest = ap (λ b. cond b (Some (f x)) (find p (map f xs ++ ys))) (all x)

no_one_and : {X : Type 0} (f : X → PolicyRow) (p : PolicyRow → Bool) (xs : List X) (ys : List PolicyRow) → ((x : X) → p (f x) ≡ false) → find p (map f xs ++ ys) ≡ find p ys
no_one_and f p [] ys none = refl
no_one_and f p (x ∷ xs) ys none = ap (λ b. cond b (Some (f x)) (find p (map f xs ++ ys))) (none x) ∙ no_one_and f p xs ys none

-- where a test is made by columns
some_one_and : {X : Type 0} (f : X → PolicyRow) (p q : PolicyRow → Bool) (xs : List X) (ys : List PolicyRow) → ((x : X) → Contains xs x → p (f x) ≡ q (f x)) → find p ys ≡ slice_get ys 0 → or_first (find q (map f xs)) ys ≡ find p (map f xs ++ ys)
some_one_and f p q [] ys alike rest = sym rest
some_one_and f p q (x ∷ xs) ys alike rest =
    go (q (f x)) (some_one_and f p q xs ys (λ y there. alike y (Contains-tail x xs y there)) rest) ∙ sym (ap (λ b. cond b (Some (f x)) (find p (map f xs ++ ys))) (alike x (Contains-head x xs)))
  where
    go : (b : Bool) → or_first (find q (map f xs)) ys ≡ find p (map f xs ++ ys) → or_first (cond b (Some (f x)) (find q (map f xs))) ys ≡ cond b (Some (f x)) (find p (map f xs ++ ys))
    go true later = refl
    go false later = later

-- ---- by kinds

module _ (s : Sheets) where
  abbrev users : List PolicyRow
  users = lines_in s kind.User

  abbrev certifiers : List PolicyRow
  certifiers = lines_in s kind.Certifier

  abbrev members : List PolicyRow
  members = lines_in s kind.Member

  abbrev relations : List PolicyRow
  relations = lines_in s kind.Relation

  abbrev triples : List PolicyRow
  triples = lines_in s kind.Triple

  abbrev Follow : (PolicyRow → Bool) → List PolicyRow → Type 0
  Follow p lines = find p lines ≡ slice_get lines 0

  module _ (p : PolicyRow → Bool) where
    from_triples : ((t : Triple) → p (line_of kind.Triple t) ≡ true) → Follow p triples
    from_triples t = every_one (line_of kind.Triple) p s.triples t

    from_relations : ((r : Relation) → p (line_of kind.Relation r) ≡ true) → ((t : Triple) → p (line_of kind.Triple t) ≡ true) → Follow p (relations ++ triples)
    from_relations r t = every_one_and (line_of kind.Relation) p s.relations triples r (from_triples t)

    from_members : ((m : MemberRow) → p (line_of kind.Member m) ≡ true) → ((r : Relation) → p (line_of kind.Relation r) ≡ true) → ((t : Triple) → p (line_of kind.Triple t) ≡ true) → Follow p (members ++ (relations ++ triples))
    from_members m r t = every_one_and (line_of kind.Member) p s.members (relations ++ triples) m (from_relations r t)

    from_certifiers : ((c : Certifier) → p (line_of kind.Certifier c) ≡ true) → ((m : MemberRow) → p (line_of kind.Member m) ≡ true) → ((r : Relation) → p (line_of kind.Relation r) ≡ true) → ((t : Triple) → p (line_of kind.Triple t) ≡ true)
        → Follow p (certifiers ++ (members ++ (relations ++ triples)))
    from_certifiers c m r t = every_one_and (line_of kind.Certifier) p s.certifiers (members ++ (relations ++ triples)) c (from_members m r t)

  abbrev kinds_after : PolicyKey → PolicyRow → Bool
  kinds_after k = is_row_after (Some k)

  abbrev found : PolicyKey → Option PolicyRow
  found k = or_first (find (is_past (Some (key_columns k))) (lines_in s (key_kind k))) (lines_after s (key_kind k))

  -- the line after a key is the first of its kind after its columns, or else the first of the kinds that follow
  pub next_is : (db : Database) → HoldsTables db s → (k : PolicyKey) → FitsKey k → found k ≡ find (kinds_after k) (lines_of s)
  next_is db holds (key.User user) fits =
      let k : PolicyKey = key.User user in
      some_one_and (line_of kind.User) (kinds_after k) (is_past (Some (key_columns k))) s.users _ (λ u there. by_one user u.row.user) (from_certifiers (kinds_after k) (λ c. refl) (λ m. refl) (λ r. refl) (λ t. refl))
  next_is db holds (key.Certifier user procedure) fits =
      let k : PolicyKey = key.Certifier user procedure in
      some_one_and (line_of kind.Certifier) (kinds_after k) (is_past (Some (key_columns k))) s.certifiers _ (λ c there. by_two user (number_of procedure) c.user (number_of c.procedure) (small_number procedure) (small_number c.procedure))
      (from_members (kinds_after k) (λ m. refl) (λ r. refl) (λ t. refl))
      ∙ sym (no_one_and (line_of kind.User) (kinds_after k) s.users (certifiers ++ (members ++ (relations ++ triples))) (λ u. refl))
  next_is db holds (key.Member set place) fits =
      let k : PolicyKey = key.Member set place in
      some_one_and (line_of kind.Member) (kinds_after k) (is_past (Some (key_columns k))) s.members _ (λ m there. by_place set place m.set m.place fits ((holds.rows in_members).fit m there))
      (from_relations (kinds_after k) (λ r. refl) (λ t. refl))
      ∙ sym (no_one_and (line_of kind.User) (kinds_after k) s.users (certifiers ++ (members ++ (relations ++ triples))) (λ u. refl)
      ∙ no_one_and (line_of kind.Certifier) (kinds_after k) s.certifiers (members ++ (relations ++ triples)) (λ c. refl))
  next_is db holds (key.Relation procedure set) fits =
      let k : PolicyKey = key.Relation procedure set in
      some_one_and (line_of kind.Relation) (kinds_after k) (is_past (Some (key_columns k))) s.relations _ (λ r there. by_two (number_of procedure) set (number_of r.procedure) r.set fits ((holds.rows in_relations).fit r there))
      (from_triples (kinds_after k) (λ t. refl))
      ∙ sym (no_one_and (line_of kind.User) (kinds_after k) s.users (certifiers ++ (members ++ (relations ++ triples))) (λ u. refl)
      ∙ no_one_and (line_of kind.Certifier) (kinds_after k) s.certifiers (members ++ (relations ++ triples)) (λ c. refl)
      ∙ no_one_and (line_of kind.Member) (kinds_after k) s.members (relations ++ triples) (λ m. refl))
  next_is db holds (key.Triple user procedure set) fits =
      let k : PolicyKey = key.Triple user procedure set in
      some_one_and (line_of kind.Triple) (kinds_after k) (is_past (Some (key_columns k))) s.triples []
      (λ t there. by_three user (number_of procedure) set t.user (number_of t.procedure) t.set (small_number procedure) fits (small_number t.procedure) ((holds.rows in_triples).fit t there)) refl
      ∙ ap (find (kinds_after k)) (append-nil triples)
      ∙ sym (no_one_and (line_of kind.User) (kinds_after k) s.users (certifiers ++ (members ++ (relations ++ triples))) (λ u. refl)
      ∙ no_one_and (line_of kind.Certifier) (kinds_after k) s.certifiers (members ++ (relations ++ triples)) (λ c. refl)
      ∙ no_one_and (line_of kind.Member) (kinds_after k) s.members (relations ++ triples) (λ m. refl)
      ∙ no_one_and (line_of kind.Relation) (kinds_after k) s.relations triples (λ r. refl))

  -- and after none it is the first of all
  pub first_is : or_first (find (is_past None) (lines_in s kind.User)) (lines_after s kind.User) ≡ find (is_row_after None) (lines_of s)
  first_is = first_of_all users (lines_after s kind.User) ∙ sym (first_found (lines_of s))
    where
      first_found : (lines : List PolicyRow) → find (λ _. true) lines ≡ slice_get lines 0
      first_found [] = refl
      first_found (x ∷ lines) = refl
