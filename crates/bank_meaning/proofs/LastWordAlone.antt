-- No two sound policies in order are in force after the same requests.
use Rattle.std.proofs.Common.{◌≡◌, ℕ, ◌+◌, ◌*◌, ◌^◌, ◌==◌, ◌&&◌, Bool, false, List, Contains, Option, Some, None, refl, ap, sym, ◌∙◌}
use Rattle.std.specs.Prelude.{option_map}
use Rattle.std.specs.Option.{option_map_or}
use Rattle.std.proofs.lemmas.Bool.{and_from, and_parts, eq-eqb, eqb-true}
use Rattle.bank_terms.specs.Procedure.{number_of}
use Rattle.bank_policy.specs.HeldRows.{is_relation_of, is_triple_of, user_row}
use Rattle.bank_policy.specs.Policy.{PolicyLists}
use Rattle.bank_policy.specs.PolicyKeys.{certifier_key, relation_key, set_key, triple_key, user_key}
use Rattle.bank_policy.specs.SetRow.{SetRow}
use Rattle.bank_policy.specs.declared.rows.Certifier.{Certifier}
use Rattle.bank_policy.specs.declared.rows.Relation.{Relation}
use Rattle.bank_policy.specs.declared.rows.Triple.{Triple}
use Rattle.bank_policy.specs.declared.rows.User.{User}
use Rattle.policy_check.specs.Soundness.{IsPolicySound}
use Rattle.policy_commands.specs.declared.policy_op.Enrolment.{Enrolment}
use Rattle.bank_meaning.specs.InForce.{IsInForce, enrolment_of}
use Rattle.bank_meaning.specs.Order.{IsPolicyInOrder}
use Rattle.bank_meaning.specs.declared.request.Request.{Request}
use Rattle.bank_meaning.proofs.LastWordRows.{found_among, same_rows}

-- ---- one policy is in force

-- a user's row, of all that it says
abbrev row_of : Enrolment → Bool → Bool → ℕ → User
row_of e suspended on session = record { user = e.user; name = e.name; officer = e.officer; suspended = suspended; session = session; on = on }

same_user : (a b : User) → enrolment_of a ≡ enrolment_of b → a.suspended ≡ b.suspended → a.on ≡ b.on → a.session ≡ b.session → a ≡ b
same_user a b who suspended on session =
    ap (λ e. row_of e a.suspended a.on a.session) who
    ∙ ap (λ s. row_of (enrolment_of b) s a.on a.session) suspended
    ∙ ap (λ o. row_of (enrolment_of b) b.suspended o a.session) on
    ∙ ap (λ n. row_of (enrolment_of b) b.suspended b.on n) session

same_user_row : (o o' : Option User) → option_map enrolment_of o ≡ option_map enrolment_of o' → option_map_or (λ r. r.suspended) o false ≡ option_map_or (λ r. r.suspended) o' false
    → option_map_or (λ r. r.on) o false ≡ option_map_or (λ r. r.on) o' false → option_map_or (λ r. r.session) o 0 ≡ option_map_or (λ r. r.session) o' 0 → o ≡ o'
same_user_row None None who suspended on session = refl
same_user_row None (Some b) who suspended on session = absurd cc
same_user_row (Some a) None who suspended on session = absurd cc
same_user_row (Some a) (Some b) who suspended on session =
    let same : enrolment_of a ≡ enrolment_of b = cc in
    ap Some (same_user a b same suspended on session)

-- of two policies in force, one's rows are among the other's
record IsForced (opening : PolicyLists) (requests : List Request) (p : PolicyLists) : Type 0 where
  sound : IsPolicySound p
  order : IsPolicyInOrder p
  rows : IsInForce opening requests p

module _ (opening : PolicyLists) (requests : List Request) (p q : PolicyLists) (forced : IsForced opening requests p) (other : IsForced opening requests q) where
  found_user : (user : ℕ) → user_row p user ≡ user_row q user
  found_user user =
      same_user_row (user_row p user) (user_row q user) (forced.rows.users user ∙ sym (other.rows.users user)) (forced.rows.suspended user ∙ sym (other.rows.suspended user))
      (forced.rows.in_session user ∙ sym (other.rows.in_session user)) (forced.rows.sessions user ∙ sym (other.rows.sessions user))

  users_among : (u : User) → Contains p.users u → Contains q.users u
  users_among =
      found_among user_key (λ u v. user_key v == user_key u) p.users q.users (λ u. eq-eqb u.user u.user refl) (λ u v is. eqb-true v.user u.user is) forced.sound.users.distinct
      (λ u. found_user u.user)

  sets_among : (s : SetRow) → Contains p.sets s → Contains q.sets s
  sets_among =
      found_among set_key (λ s t. t.set == s.set) p.sets q.sets (λ s. eq-eqb s.set s.set refl) (λ s t is. eqb-true t.set s.set is) forced.sound.sets.distinct
      (λ s. forced.rows.sets s.set ∙ sym (other.rows.sets s.set))

  relations_among : (r : Relation) → Contains p.relations r → Contains q.relations r
  relations_among =
      found_among relation_key (λ r s. is_relation_of r.procedure s && s.set == r.set) p.relations q.relations
      (λ r. and_from (is_relation_of r.procedure r) (r.set == r.set) (eq-eqb (number_of r.procedure) (number_of r.procedure) refl) (eq-eqb r.set r.set refl))
      (λ r s is.
      let parts = and_parts (is_relation_of r.procedure s) (s.set == r.set) is in
      ap (λ n. 2 ^ 32 * n + s.set) (eqb-true (number_of s.procedure) (number_of r.procedure) parts.0) ∙ ap (λ n. 2 ^ 32 * number_of r.procedure + n) (eqb-true s.set r.set parts.1))
      forced.sound.relations.distinct (λ r. forced.rows.relations r.procedure r.set ∙ sym (other.rows.relations r.procedure r.set))

  triples_among : (t : Triple) → Contains p.triples t → Contains q.triples t
  triples_among =
      found_among triple_key (λ t r. is_triple_of t.user t.procedure r && r.set == t.set) p.triples q.triples
      (λ t.
      and_from (is_triple_of t.user t.procedure t) (t.set == t.set)
      (and_from (t.user == t.user) (number_of t.procedure == number_of t.procedure) (eq-eqb t.user t.user refl) (eq-eqb (number_of t.procedure) (number_of t.procedure) refl)) (eq-eqb t.set t.set refl))
      (λ t r is.
      let parts = and_parts (is_triple_of t.user t.procedure r) (r.set == t.set) is in
      let first = and_parts (r.user == t.user) (number_of r.procedure == number_of t.procedure) parts.0 in
      ap (λ n. 2 ^ 64 * n + 2 ^ 32 * number_of r.procedure + r.set) (eqb-true r.user t.user first.0)
      ∙ ap (λ n. 2 ^ 64 * t.user + 2 ^ 32 * n + r.set) (eqb-true (number_of r.procedure) (number_of t.procedure) first.1)
      ∙ ap (λ n. 2 ^ 64 * t.user + 2 ^ 32 * number_of t.procedure + n) (eqb-true r.set t.set parts.1))
      forced.sound.triples.distinct (λ t. forced.rows.triples t.user t.procedure t.set ∙ sym (other.rows.triples t.user t.procedure t.set))

  certifiers_among : (c : Certifier) → Contains p.certifiers c → Contains q.certifiers c
  certifiers_among =
      found_among certifier_key (λ c d. d.user == c.user && number_of d.procedure == number_of c.procedure) p.certifiers q.certifiers
      (λ c. and_from (c.user == c.user) (number_of c.procedure == number_of c.procedure) (eq-eqb c.user c.user refl) (eq-eqb (number_of c.procedure) (number_of c.procedure) refl))
      (λ c d is.
      let parts = and_parts (d.user == c.user) (number_of d.procedure == number_of c.procedure) is in
      ap (λ n. 2 ^ 32 * n + number_of d.procedure) (eqb-true d.user c.user parts.0) ∙ ap (λ n. 2 ^ 32 * c.user + n) (eqb-true (number_of d.procedure) (number_of c.procedure) parts.1))
      forced.sound.certifiers.distinct (λ c. forced.rows.certifiers c.user c.procedure ∙ sym (other.rows.certifiers c.user c.procedure))

same_lists : (p q : PolicyLists) → p.users ≡ q.users → p.sets ≡ q.sets → p.relations ≡ q.relations → p.triples ≡ q.triples → p.certifiers ≡ q.certifiers → p ≡ q
same_lists p q users sets relations triples certifiers =
    ap (λ rows. record p { users = rows }) users
    ∙ ap (λ rows. record p { users = q.users; sets = rows }) sets
    ∙ ap (λ rows. record p { users = q.users; sets = q.sets; relations = rows }) relations
    ∙ ap (λ rows. record p { users = q.users; sets = q.sets; relations = q.relations; triples = rows }) triples
    ∙ ap (λ rows. record q { certifiers = rows }) certifiers

pub one_in_force : (opening : PolicyLists) (requests : List Request) (p q : PolicyLists) → IsPolicySound p → IsPolicyInOrder p → IsInForce opening requests p
    → IsPolicySound q → IsPolicyInOrder q → IsInForce opening requests q → p ≡ q
one_in_force opening requests p q sound order rows sound' order' rows' =
    let here : IsForced opening requests p = record { sound = sound; order = order; rows = rows } in
    let there : IsForced opening requests q = record { sound = sound'; order = order'; rows = rows' } in
    same_lists p q
    (same_rows user_key p.users q.users order.users_in_order order'.users_in_order sound.users.distinct sound'.users.distinct (users_among opening requests p q here there)
    (users_among opening requests q p there here))
    (same_rows set_key p.sets q.sets order.sets_in_order order'.sets_in_order sound.sets.distinct sound'.sets.distinct (sets_among opening requests p q here there)
    (sets_among opening requests q p there here))
    (same_rows relation_key p.relations q.relations order.relations_in_order order'.relations_in_order sound.relations.distinct sound'.relations.distinct
    (relations_among opening requests p q here there) (relations_among opening requests q p there here))
    (same_rows triple_key p.triples q.triples order.triples_in_order order'.triples_in_order sound.triples.distinct sound'.triples.distinct (triples_among opening requests p q here there)
    (triples_among opening requests q p there here))
    (same_rows certifier_key p.certifiers q.certifiers order.certifiers_in_order order'.certifiers_in_order sound.certifiers.distinct sound'.certifiers.distinct
    (certifiers_among opening requests p q here there) (certifiers_among opening requests q p there here))
