-- Where a store answers of a policy, the rows of each command are those of the policy.
use Rattle.std.proofs.Common.{◌≡◌, ℕ, suc, ◌==◌, ◌&&◌, ◌||◌, List, [], ◌∷◌, Bool, true, false, not, cond, map, length, count_by, refl, ap, ◌∙◌}
use Rattle.std.proofs.Math.Dec.{eqb-suc-zero}
use Rattle.std.specs.List.{filter, list_any}
use Rattle.std.proofs.lemmas.List.{length-map}
use Rattle.std.proofs.lemmas.List.Sums.{length-filter}
use Rattle.bank_policy.specs.HeldRows.{certified_set, held_triple, is_relation_of, is_triple_of, relations_of, standing, triples_of}
use Rattle.bank_policy.specs.Policy.{PolicyLists}
use Rattle.bank_policy.specs.declared.policy_write.RelationKey.{RelationKey}
use Rattle.bank_policy.specs.declared.policy_write.TripleKey.{TripleKey}
use Rattle.bank_policy.specs.declared.rows.Certifier.{Certifier}
use Rattle.bank_policy.specs.declared.rows.Triple.{Triple}
use Rattle.bank_terms.proofs.Procedures.{among_all}
use Rattle.bank_terms.specs.Procedure.{number_of, procedures}
use Rattle.bank_terms.specs.declared.procedure.Procedure.{Procedure}
use Rattle.policy_commands.specs.declared.policy_op.PolicyOp.TheVariants as asked
use Rattle.certify.specs.CommandRows.{certifies_any, command_rows, executes, has_certified, has_relation, has_set, has_triple, is_certifier, is_officer, of_certifier, of_officer}
use Rattle.certify.specs.StoredRows.{appoint_rows, certify_rows, grant_rows, has_one_by, is_among, is_held_on, revoke_rows, withdraw_rows}
use Rattle.certify.specs.declared.command_rows.CommandRows.{CommandRows}

-- ---- tests over what is made of the rows that pass another test

any_made : {X Y : Type 0} (f : X → Y) (p : Y → Bool) (xs : List X) → list_any p (map f xs) ≡ list_any (λ x. p (f x)) xs
any_made f p [] = refl
any_made f p (x ∷ xs) = ap (λ b. p (f x) || b) (any_made f p xs)

any_passed : {X : Type 0} (q p : X → Bool) (xs : List X) → list_any p (filter q xs) ≡ list_any (λ x. q x && p x) xs
any_passed q p [] = refl
any_passed {X} q p (x ∷ xs) = go (q x) (any_passed q p xs)
  where
    go : (b : Bool) → list_any p (filter q xs) ≡ list_any (λ y. q y && p y) xs → list_any p (cond b (x ∷ filter q xs) (filter q xs)) ≡ ((b && p x) || list_any (λ y. q y && p y) xs)
    go true rest = ap (λ b. p x || b) rest
    go false rest = rest

not_none : (n : ℕ) → not (suc n == 0) ≡ true
not_none n = ap not (eqb-suc-zero n)

-- some row passes where there are any that do
some_passed : {X : Type 0} (q : X → Bool) (xs : List X) → not (length (filter q xs) == 0) ≡ list_any q xs
some_passed q [] = refl
some_passed {X} q (x ∷ xs) = go (q x) (some_passed q xs)
  where
    go : (b : Bool) → not (length (filter q xs) == 0) ≡ list_any q xs → not (length (cond b (x ∷ filter q xs) (filter q xs)) == 0) ≡ (b || list_any q xs)
    go true rest = not_none (length (filter q xs))
    go false rest = rest

-- ---- the relations of a procedure, and the triples of a user for it

pub relation_among : (policy : PolicyLists) (procedure : Procedure) (set : ℕ) → is_among set (relations_of policy procedure) ≡ has_relation policy procedure set
relation_among policy procedure set =
    any_made (certified_set policy) (λ row. row.relation.set == set) (filter (is_relation_of procedure) policy.relations)
    ∙ any_passed (is_relation_of procedure) (λ row. row.set == set) policy.relations

pub certified_by : (policy : PolicyLists) (procedure : Procedure) (user : ℕ) → has_one_by user (relations_of policy procedure) ≡ has_certified policy user procedure
certified_by policy procedure user =
    any_made (certified_set policy) (λ row. row.relation.by == user) (filter (is_relation_of procedure) policy.relations)
    ∙ any_passed (is_relation_of procedure) (λ row. row.by == user) policy.relations

pub relation_count : (policy : PolicyLists) (procedure : Procedure) → length (relations_of policy procedure) ≡ count_by (is_relation_of procedure) policy.relations
relation_count policy procedure =
    length-map (filter (is_relation_of procedure) policy.relations) (certified_set policy) ∙ length-filter (is_relation_of procedure) policy.relations

pub triple_among : (policy : PolicyLists) (user : ℕ) (procedure : Procedure) (set : ℕ) → is_held_on set (triples_of policy user procedure) ≡ has_triple policy user procedure set
triple_among policy user procedure set =
    any_made (held_triple policy) (λ row. row.triple.set == set) (filter (is_triple_of user procedure) policy.triples)
    ∙ any_passed (is_triple_of user procedure) (λ row. row.set == set) policy.triples

pub executes_some : (policy : PolicyLists) (user : ℕ) (procedure : Procedure) → not (length (triples_of policy user procedure) == 0) ≡ executes policy user procedure
executes_some policy user procedure =
    ap (λ n. not (n == 0)) (length-map (filter (is_triple_of user procedure) policy.triples) (held_triple policy)) ∙ some_passed (is_triple_of user procedure) policy.triples

-- ---- a certifier of some procedure is one of any

either_any : {X Y : Type 0} (test : Y → X → Bool) (x : X) (xs : List X) (ys : List Y) →
    list_any (λ y. test y x || list_any (test y) xs) ys ≡ (list_any (λ y. test y x) ys || list_any (λ y. list_any (test y) xs) ys)
either_any test x xs [] = refl
either_any test x xs (y ∷ ys) = ap (λ b. (test y x || list_any (test y) xs) || b) (either_any test x xs ys) ∙ apart (test y x) (list_any (test y) xs) _ _
  where
    apart : (a b c d : Bool) → ((a || b) || (c || d)) ≡ ((a || c) || (b || d))
    apart true b c d = refl
    apart false true true d = refl
    apart false true false d = refl
    apart false false c d = refl

of_some_number : (is_his : Bool) (p : Procedure) → list_any (λ q. is_his && number_of p == number_of q) procedures ≡ is_his
of_some_number true p = among_all p
of_some_number false p = refl

some_procedure : (user : ℕ) (rows : List Certifier) →
    list_any (λ p. list_any (λ row. row.user == user && number_of row.procedure == number_of p) rows) procedures ≡ list_any (λ row. row.user == user) rows
some_procedure user [] = refl
some_procedure user (row ∷ rows) =
    either_any (λ p row. row.user == user && number_of row.procedure == number_of p) row rows procedures
    ∙ ap (λ b. b || list_any (λ p. list_any (λ row. row.user == user && number_of row.procedure == number_of p) rows) procedures) (of_some_number (row.user == user) row.procedure)
    ∙ ap (λ b. (row.user == user) || b) (some_procedure user rows)

pub certifies_some : (policy : PolicyLists) (user : ℕ) → list_any (is_certifier policy user) procedures ≡ certifies_any policy user
certifies_some policy user = some_procedure user policy.certifiers

-- ---- the rows of each command are those of the policy

pub certify_stated : (policy : PolicyLists) (by : ℕ) (k : RelationKey) →
    certify_rows (is_certifier policy by k.procedure) (has_set policy k.set) (relations_of policy k.procedure) k ≡ command_rows policy by (asked.Certify k)
certify_stated policy by k =
    let rows : Bool → ℕ → CommandRows = λ there n. record (of_certifier (is_certifier policy by k.procedure)) { has_set = has_set policy k.set; is_there = there; count = n } in
    ap (λ there. rows there (length (relations_of policy k.procedure))) (relation_among policy k.procedure k.set)
    ∙ ap (rows (has_relation policy k.procedure k.set)) (relation_count policy k.procedure)

pub withdraw_stated : (policy : PolicyLists) (by : ℕ) (k : RelationKey) →
    withdraw_rows (is_certifier policy by k.procedure) (relations_of policy k.procedure) k ≡ command_rows policy by (asked.Withdraw k)
withdraw_stated policy by k = ap (λ there. record (of_certifier (is_certifier policy by k.procedure)) { is_there = there }) (relation_among policy k.procedure k.set)

pub grant_stated : (policy : PolicyLists) (by : ℕ) (t : Triple) →
    grant_rows (is_certifier policy by t.procedure) (standing policy t.user) (is_certifier policy t.user t.procedure) (relations_of policy t.procedure) (triples_of policy t.user t.procedure)
    (count_by (λ row. row.user == t.user) policy.triples) t
    ≡ command_rows policy by (asked.Grant t)
grant_stated policy by t =
    let rows : Bool → Bool → Bool → CommandRows = λ stands related there. record (of_certifier (is_certifier policy by t.procedure)) {
      user = standing policy t.user;
      has_certified = is_certifier policy t.user t.procedure || stands;
      is_related = related;
      is_there = there;
      count = count_by (λ row. row.user == t.user) policy.triples;
    } in
    ap (λ stands. rows stands (is_among t.set (relations_of policy t.procedure)) (is_held_on t.set (triples_of policy t.user t.procedure))) (certified_by policy t.procedure t.user)
    ∙ ap (λ related. rows (has_certified policy t.user t.procedure) related (is_held_on t.set (triples_of policy t.user t.procedure))) (relation_among policy t.procedure t.set)
    ∙ ap (rows (has_certified policy t.user t.procedure) (has_relation policy t.procedure t.set)) (triple_among policy t.user t.procedure t.set)

pub revoke_stated : (policy : PolicyLists) (by : ℕ) (k : TripleKey) →
    revoke_rows (is_certifier policy by k.procedure) (triples_of policy k.user k.procedure) k ≡ command_rows policy by (asked.Revoke k)
revoke_stated policy by k = ap (λ there. record (of_certifier (is_certifier policy by k.procedure)) { is_there = there }) (triple_among policy k.user k.procedure k.set)

pub appoint_stated : (policy : PolicyLists) (by : ℕ) (c : Certifier) →
    appoint_rows (standing policy by) (standing policy c.user) (triples_of policy c.user c.procedure) (is_certifier policy c.user c.procedure) ≡ command_rows policy by (asked.Appoint c)
appoint_stated policy by c =
    ap (λ executes. record (of_officer (is_officer policy by)) { user = standing policy c.user; executes = executes; is_there = is_certifier policy c.user c.procedure })
    (executes_some policy c.user c.procedure)
