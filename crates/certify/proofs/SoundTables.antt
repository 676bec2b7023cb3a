-- The tables of a policy that has no dangling rows, where what they name stays; and keys that determine their parts.
use Rattle.std.proofs.Common.{◌≡◌, ℕ, ◌+◌, ◌*◌, ◌^◌, ◌≤◌, List, get_or, Bool, true, false, subst, arith, inl, inr, ◌==◌, Contains, refl}
use Rattle.std.specs.Prelude.{Any, nat_le}
use Rattle.std.specs.List.{count_by, filter}
use Rattle.std.proofs.lemmas.Bool.{cases_eq, eq-eqb, ne_eqb}
use Rattle.std.proofs.lemmas.List.Elements.{All-filter}
use Rattle.bank_terms.specs.Limits.{max_key, max_limit, max_relations, max_triples}
use Rattle.bank_terms.specs.Procedure.{number_of}
use Rattle.keyed_rows.specs.Ordered.{HasRow, add_row}
use Rattle.bank_policy.proofs.RowsTell.{from_filter}
use Rattle.bank_policy.specs.Policy.{PolicyLists}
use Rattle.bank_policy.specs.PolicyKeys.{certifier_key, relation_key, set_key, triple_key, user_key}
use Rattle.bank_policy.specs.SetRow.{SetRow}
use Rattle.bank_policy.specs.declared.rows.Certifier.{Certifier}
use Rattle.bank_policy.specs.declared.rows.Relation.{Relation}
use Rattle.bank_policy.specs.declared.rows.Triple.{Triple}
use Rattle.bank_policy.specs.declared.rows.User.{User}
use Rattle.keyed_rows.proofs.Rows.{count_named, count_other}
use Rattle.rule_tests.proofs.RuleTests.{one_fits}
use Rattle.policy_check.specs.Soundness.{AreCertifiersSound, AreRelationsSound, AreTriplesSound, HasFewOfEachProcedure, HasFewOfEachUser, IsNumber, IsRelated, IsSet, IsSpan, IsUser}
use Rattle.certify.proofs.RemovedRows.{AreDistinct-filter, count-filter}
use Rattle.certify.proofs.SomeRows.{all_of, any_still, each_of}

-- ---- keys

pub relation_of_key : (p s q t : ℕ) → 2 ^ 32 * p + s ≡ 2 ^ 32 * q + t → s ≤ max_key → t ≤ max_key → (p ≡ q) × (s ≡ t)
relation_of_key p s q t same low high = (omega arith, omega arith)

pub triple_of_key : (u p s v q t : ℕ) → 2 ^ 64 * u + 2 ^ 32 * p + s ≡ 2 ^ 64 * v + 2 ^ 32 * q + t → s ≤ max_key → t ≤ max_key → p ≤ 13 → q ≤ 13 → (u ≡ v) × (p ≡ q) × (s ≡ t)
triple_of_key u p s v q t same low high few some = (omega arith, omega arith, omega arith)

pub certifier_of_key : (u p v q : ℕ) → 2 ^ 32 * u + p ≡ 2 ^ 32 * v + q → p ≤ 13 → q ≤ 13 → (u ≡ v) × (p ≡ q)
certifier_of_key u p v q same few some = (omega arith, omega arith)

-- ---- counts

pub counted : (before after most : ℕ) → after ≡ before + 1 → before + 1 ≤ most → after ≤ most
counted before after most more room = omega arith

same_count : (before after most : ℕ) → after ≡ before → before ≤ most → after ≤ most
same_count before after most same few = omega arith

-- of no group are there too many, where there was room for one more of the new row's
pub few_more : {X : Type 0} (key group : X → ℕ) (e : X) (xs : List X) (most : ℕ) → ((n : ℕ) → count_by (λ x. group x == n) xs ≤ most) → nat_le most (count_by (λ x. group x == group e) xs) ≡ false
    → (n : ℕ) → count_by (λ x. group x == n) (add_row key e xs) ≤ most
few_more key group e xs most few room n = elim (cases_eq (group e) n) [
  | inl same ↦
      subst (λ m. count_by (λ x. group x == m) (add_row key e xs) ≤ most) same
      (counted _ _ most (count_named key (λ x. group x == group e) e xs (eq-eqb (group e) (group e) refl)) (one_fits most _ room))
  | inr apart ↦ same_count _ _ most (count_other key (λ x. group x == n) e xs (ne_eqb (group e) n apart)) (few n)
]

fewer : (before after most : ℕ) → after ≤ before → before ≤ most → after ≤ most
fewer before after most less few = omega arith

-- ---- tables that stay, while others have more rows

pub relations_still : (p : PolicyLists) (users : List User) (sets : List SetRow) (triples : List Triple) (certifiers : List Certifier)
    → ((n : ℕ) → HasRow user_key p.users n → HasRow user_key users n) → ((n : ℕ) → HasRow set_key p.sets n → HasRow set_key sets n) → AreRelationsSound p
    → AreRelationsSound (record p { users = users; sets = sets; triples = triples; certifiers = certifiers })
unfolding IsSet IsUser
relations_still p users sets triples certifiers users_stay sets_stay was = record {
  distinct = was.distinct;
  numbers = was.numbers;
  few = was.few;
  sets = λ k d below. sets_stay (get_or p.relations k d).set (was.sets k d below);
  by = λ k d below. users_stay (get_or p.relations k d).by (was.by k d below);
}

pub triples_still : (p : PolicyLists) (users : List User) (sets : List SetRow) (relations : List Relation) (certifiers : List Certifier)
    → ((n : ℕ) → HasRow user_key p.users n → HasRow user_key users n) → ((r : Relation) → Contains p.relations r → Contains relations r) → AreTriplesSound p
    → AreTriplesSound (record p { users = users; sets = sets; relations = relations; certifiers = certifiers })
unfolding IsRelated IsUser
triples_still p users sets relations certifiers users_stay relations_stay was = record {
  distinct = was.distinct;
  numbers = was.numbers;
  few = was.few;
  users = λ k d below. users_stay (get_or p.triples k d).user (was.users k d below);
  relations = λ k d below.
      any_still (λ r. (r.procedure ≡ (get_or p.triples k d).procedure) × (r.set ≡ (get_or p.triples k d).set)) p.relations relations (λ r there is. relations_stay r there) (was.relations k d below);
  limits = was.limits;
  moments = was.moments;
}

pub certifiers_still : (p : PolicyLists) (users : List User) (sets : List SetRow) (relations : List Relation) (triples : List Triple)
    → ((n : ℕ) → HasRow user_key p.users n → HasRow user_key users n) → AreCertifiersSound p
    → AreCertifiersSound (record p { users = users; sets = sets; relations = relations; triples = triples })
unfolding IsUser
certifiers_still p users sets relations triples users_stay was = record {
  distinct = was.distinct;
  users = λ k d below. users_stay (get_or p.certifiers k d).user (was.users k d below);
}

-- ---- tables that have fewer rows

pub relations_fewer : (p : PolicyLists) (triples : List Triple) (test : Relation → Bool) → AreRelationsSound p → AreRelationsSound (record p { relations = filter test p.relations; triples = triples })
unfolding HasFewOfEachProcedure IsSet IsUser
relations_fewer p triples test was = record {
  distinct = AreDistinct-filter relation_key test p.relations was.distinct;
  numbers = All-filter test (λ r. IsNumber r.set) p.relations was.numbers;
  few = λ number. fewer _ _ max_relations (count-filter test (λ r. number_of r.procedure == number) p.relations) (was.few number);
  sets = All-filter test (λ r. HasRow set_key p.sets r.set) p.relations was.sets;
  by = All-filter test (λ r. HasRow user_key p.users r.by) p.relations was.by;
}

-- the relations of those that stay are there still
pub triples_fewer : (p : PolicyLists) (relations : List Relation) (test : Triple → Bool)
    → ((t : Triple) → test t ≡ true → (r : Relation) → Contains p.relations r → (r.procedure ≡ t.procedure) × (r.set ≡ t.set) → Contains relations r)
    → AreTriplesSound p → AreTriplesSound (record p { relations = relations; triples = filter test p.triples })
unfolding HasFewOfEachUser IsRelated IsUser
triples_fewer p relations test stay was = record {
  distinct = AreDistinct-filter triple_key test p.triples was.distinct;
  numbers = All-filter test (λ t. IsNumber t.set) p.triples was.numbers;
  few = λ user. fewer _ _ max_triples (count-filter test (λ t. t.user == user) p.triples) (was.few user);
  users = All-filter test (λ t. HasRow user_key p.users t.user) p.triples was.users;
  relations =
      all_of (λ t. Any (λ r. (r.procedure ≡ t.procedure) × (r.set ≡ t.set)) relations) (filter test p.triples) (λ t there.
      let old = from_filter test p.triples t there in
      any_still (λ r. (r.procedure ≡ t.procedure) × (r.set ≡ t.set)) p.relations relations (stay t old.1)
      (each_of (λ x. Any (λ r. (r.procedure ≡ x.procedure) × (r.set ≡ x.set)) p.relations) p.triples was.relations t old.0));
  limits = All-filter test (λ t. t.limit ≤ max_limit) p.triples was.limits;
  moments = All-filter test IsSpan p.triples was.moments;
}

pub certifiers_fewer : (p : PolicyLists) (test : Certifier → Bool) → AreCertifiersSound p → AreCertifiersSound (record p { certifiers = filter test p.certifiers })
unfolding IsUser
certifiers_fewer p test was = record {
  distinct = AreDistinct-filter certifier_key test p.certifiers was.distinct;
  users = All-filter test (λ c. HasRow user_key p.users c.user) p.certifiers was.users;
}
