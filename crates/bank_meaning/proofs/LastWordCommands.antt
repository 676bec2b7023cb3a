-- What each command of the policy that no rule denies says of the policy.
use Rattle.std.proofs.Common.{◌≡◌, ℕ, ◌+◌, ◌*◌, ◌^◌, ◌==◌, ◌≤◌, ◌&&◌, Bool, true, false, not, refl, ap, arith, sym, ◌∙◌}
use Rattle.std.specs.Prelude.{nat_le, length}
use Rattle.std.proofs.lemmas.Bool.{and_from, and_parts, eq-eqb, eqb-true, or_parts}
use Rattle.bank_terms.specs.Limits.{max_key, max_relations, max_sets, max_triples}
use Rattle.bank_terms.specs.Procedure.{number_of}
use Rattle.bank_policy.specs.HeldRows.{is_relation_of, is_triple_of}
use Rattle.bank_policy.specs.Policy.{PolicyLists}
use Rattle.bank_policy.specs.PolicyKeys.{certifier_key, relation_key, relation_number, set_key, triple_key, triple_number}
use Rattle.bank_policy.specs.PolicyWrites.{is_triple_on, policy_written}
use Rattle.bank_policy.specs.SetRow.{SetRow}
use Rattle.bank_policy.specs.declared.policy_write.PolicyWrite.TheVariants as change
use Rattle.bank_policy.specs.declared.policy_write.RelationKey.{RelationKey}
use Rattle.bank_policy.specs.declared.policy_write.TripleKey.{TripleKey}
use Rattle.bank_policy.specs.declared.rows.Certifier.{Certifier}
use Rattle.bank_policy.specs.declared.rows.Relation.{Relation}
use Rattle.bank_policy.specs.declared.rows.Triple.{Triple}
use Rattle.bank_terms.proofs.Procedures.{at_most_thirteen}
use Rattle.policy_check.specs.Soundness.{IsNumber, IsPolicySound}
use Rattle.policy_commands.specs.Ranges.{IsPolicyOp}
use Rattle.policy_commands.specs.declared.policy_op.PolicyOp.{PolicyOp}
use Rattle.policy_commands.specs.declared.policy_op.PolicyOp.TheVariants as command
use Rattle.certify.proofs.SomeRows.{each_of}
use Rattle.certify.proofs.SoundTables.{certifier_of_key, relation_of_key, triple_of_key}
use Rattle.certify.specs.CommandRows.{command_rows, has_relation, has_set, has_triple}
use Rattle.certify.specs.Commands.{change_of, is_out_of_place, is_unknown}
use Rattle.bank_meaning.specs.InForce.{is_same, session_number}
use Rattle.bank_meaning.specs.PolicyRules.{asker}
use Rattle.bank_meaning.specs.declared.request.Asked.TheVariants as asked
use Rattle.bank_meaning.specs.declared.who.Who.{Who}
use Rattle.bank_meaning.proofs.LastWordRows.{found_beside, found_left, none_found, same_turned}
use Rattle.bank_meaning.proofs.LastWordSaid.{IsSaid, none_more}
use Rattle.bank_meaning.proofs.LastWordUsers.{enrolled, restored, suspended}

-- ---- tests of keys

-- one test of numbers for another, where each passes with the other
both_ways : (a b : Bool) → (a ≡ true → b ≡ true) → (b ≡ true → a ≡ true) → a ≡ b
both_ways true b there back = sym (there refl)
both_ways false true there back = back refl
both_ways false false there back = refl

-- the test of the key of a relation is that of its procedure and its set, which name the key that is asked for
relation_test : (p s q t : ℕ) → s ≤ max_key → t ≤ max_key → (2 ^ 32 * p + s == 2 ^ 32 * q + t) ≡ (q == p && t == s)
relation_test p s q t low high = both_ways _ _
    (λ same. let parts = relation_of_key p s q t (eqb-true _ _ same) low high in and_from (q == p) (t == s) (eq-eqb q p (sym parts.0)) (eq-eqb t s (sym parts.1)))
    (λ both. let parts = and_parts (q == p) (t == s) both in eq-eqb _ _ (joined p s q t (eqb-true q p parts.0) (eqb-true t s parts.1)))
  where
    joined : (p s q t : ℕ) → q ≡ p → t ≡ s → 2 ^ 32 * p + s ≡ 2 ^ 32 * q + t
    joined p s q t first last = omega arith

triple_test : (u p s v q t : ℕ) → s ≤ max_key → t ≤ max_key → p ≤ 13 → q ≤ 13 → (2 ^ 64 * u + 2 ^ 32 * p + s == 2 ^ 64 * v + 2 ^ 32 * q + t) ≡ ((v == u && q == p) && t == s)
triple_test u p s v q t low high few some = both_ways _ _
    (λ same.
    let parts = triple_of_key u p s v q t (eqb-true _ _ same) low high few some in
    and_from (v == u && q == p) (t == s) (and_from (v == u) (q == p) (eq-eqb v u (sym parts.0)) (eq-eqb q p (sym parts.1))) (eq-eqb t s (sym parts.2)))
    (λ both.
    let parts = and_parts (v == u && q == p) (t == s) both in
    let first = and_parts (v == u) (q == p) parts.0 in
    eq-eqb _ _ (joined u p s v q t (eqb-true v u first.0) (eqb-true q p first.1) (eqb-true t s parts.1)))
  where
    joined : (u p s v q t : ℕ) → v ≡ u → q ≡ p → t ≡ s → 2 ^ 64 * u + 2 ^ 32 * p + s ≡ 2 ^ 64 * v + 2 ^ 32 * q + t
    joined u p s v q t first second last = omega arith

certifier_test : (u p v q : ℕ) → p ≤ 13 → q ≤ 13 → (2 ^ 32 * u + p == 2 ^ 32 * v + q) ≡ (v == u && q == p)
certifier_test u p v q few some = both_ways _ _
    (λ same. let parts = certifier_of_key u p v q (eqb-true _ _ same) few some in and_from (v == u) (q == p) (eq-eqb v u (sym parts.0)) (eq-eqb q p (sym parts.1)))
    (λ both. let parts = and_parts (v == u) (q == p) both in eq-eqb _ _ (joined u p v q (eqb-true v u parts.0) (eqb-true q p parts.1)))
  where
    joined : (u p v q : ℕ) → v ≡ u → q ≡ p → 2 ^ 32 * u + p ≡ 2 ^ 32 * v + q
    joined u p v q first last = omega arith

-- ---- one row more

defined : (p : PolicyLists) (who : Who) (s : SetRow) → is_out_of_place (command_rows p (asker who) (command.DefineSet s)) (asker who) (command.DefineSet s) ≡ false
    → IsSaid who (asked.Command (command.DefineSet s)) p (policy_written (change.Set s) p)
defined p who s placed =
    let free = none_found (λ row. row.set == s.set) p.sets (or_parts (has_set p s.set) (nat_le max_sets (length p.sets)) placed).0 in
    record {
      sets = λ set. found_beside set_key (λ row. row.set == s.set) (λ row. row.set == set) s p.sets free (λ is. ap (λ n. λ row. row.set == n) (sym (eqb-true s.set set is)));
      relations = λ procedure set. refl;
      triples = λ user procedure set. refl;
      certifiers = λ user procedure. refl;
      users = λ user. refl;
      suspended = λ user. refl;
      in_session = λ user. refl;
      sessions = λ user. none_more (session_number p user);
    }

certified : (p : PolicyLists) (who : Who) (k : RelationKey) → is_out_of_place (command_rows p (asker who) (command.Certify k)) (asker who) (command.Certify k) ≡ false
    → IsSaid who (asked.Command (command.Certify k)) p (policy_written (change_of (command.Certify k) (asker who)) p)
certified p who k placed =
    let row : Relation = record { procedure = k.procedure; set = k.set; by = asker who } in
    let of : Relation → Bool = λ r. is_relation_of k.procedure r && r.set == k.set in
    let free = none_found of p.relations (or_parts (has_relation p k.procedure k.set) (nat_le max_relations _) placed).0 in
    record {
      sets = λ set. refl;
      relations = λ procedure set.
          found_beside relation_key of (λ r. is_relation_of procedure r && r.set == set) row p.relations free (λ is.
          let parts = and_parts (is_same k.procedure procedure) (k.set == set) is in
          ap (λ n. λ r. (number_of r.procedure == n && r.set == set)) (sym (eqb-true _ _ parts.0))
          ∙ ap (λ n. λ r. (number_of r.procedure == number_of k.procedure && r.set == n)) (sym (eqb-true k.set set parts.1)));
      triples = λ user procedure set. refl;
      certifiers = λ user procedure. refl;
      users = λ user. refl;
      suspended = λ user. refl;
      in_session = λ user. refl;
      sessions = λ user. none_more (session_number p user);
    }

granted : (p : PolicyLists) (who : Who) (t : Triple) → is_out_of_place (command_rows p (asker who) (command.Grant t)) (asker who) (command.Grant t) ≡ false
    → IsSaid who (asked.Command (command.Grant t)) p (policy_written (change.Triple t) p)
granted p who t placed =
    let of : Triple → Bool = λ r. is_triple_of t.user t.procedure r && r.set == t.set in
    let free = none_found of p.triples (or_parts (has_triple p t.user t.procedure t.set) (nat_le max_triples _) placed).0 in
    record {
      sets = λ set. refl;
      relations = λ procedure set. refl;
      triples = λ user procedure set.
          found_beside triple_key of (λ r. is_triple_of user procedure r && r.set == set) t p.triples free (λ is.
          let parts = and_parts (t.user == user && is_same t.procedure procedure) (t.set == set) is in
          let first = and_parts (t.user == user) (is_same t.procedure procedure) parts.0 in
          ap (λ n. λ r. ((r.user == n && number_of r.procedure == number_of procedure) && r.set == set)) (sym (eqb-true t.user user first.0))
          ∙ ap (λ n. λ r. ((r.user == t.user && number_of r.procedure == n) && r.set == set)) (sym (eqb-true _ _ first.1))
          ∙ ap (λ n. λ r. ((r.user == t.user && number_of r.procedure == number_of t.procedure) && r.set == n)) (sym (eqb-true t.set set parts.1)));
      certifiers = λ user procedure. refl;
      users = λ user. refl;
      suspended = λ user. refl;
      in_session = λ user. refl;
      sessions = λ user. none_more (session_number p user);
    }

appointed : (p : PolicyLists) (who : Who) (c : Certifier) → is_out_of_place (command_rows p (asker who) (command.Appoint c)) (asker who) (command.Appoint c) ≡ false
    → IsSaid who (asked.Command (command.Appoint c)) p (policy_written (change.Certifier c) p)
appointed p who c placed =
    let of : Certifier → Bool = λ r. r.user == c.user && number_of r.procedure == number_of c.procedure in
    record {
      sets = λ set. refl;
      relations = λ procedure set. refl;
      triples = λ user procedure set. refl;
      certifiers = λ user procedure.
          found_beside certifier_key of (λ r. r.user == user && number_of r.procedure == number_of procedure) c p.certifiers (none_found of p.certifiers placed) (λ is.
          let parts = and_parts (c.user == user) (is_same c.procedure procedure) is in
          ap (λ n. λ r. (r.user == n && number_of r.procedure == number_of procedure)) (sym (eqb-true c.user user parts.0))
          ∙ ap (λ n. λ r. (r.user == c.user && number_of r.procedure == n)) (sym (eqb-true _ _ parts.1)));
      users = λ user. refl;
      suspended = λ user. refl;
      in_session = λ user. refl;
      sessions = λ user. none_more (session_number p user);
    }

-- ---- rows taken away

withdrawn : (p : PolicyLists) (who : Who) (k : RelationKey) → IsPolicySound p → IsNumber k.set → IsSaid who (asked.Command (command.Withdraw k)) p (policy_written (change.NoRelation k) p)
withdrawn p who k sound within = record {
  sets = λ set. refl;
  relations = λ procedure set.
      found_left (λ r. not (relation_key r == relation_number k.procedure k.set)) (λ r. is_relation_of procedure r && r.set == set) (is_same k.procedure procedure && k.set == set) p.relations
      (λ r there passes.
      let parts = and_parts (is_relation_of procedure r) (r.set == set) passes in
      let number = each_of (λ x. IsNumber x.set) p.relations sound.relations.numbers r there in
      ap not
      (relation_test (number_of r.procedure) r.set (number_of k.procedure) k.set number.1 within.1
      ∙ ap (λ n. (number_of k.procedure == n && k.set == r.set)) (eqb-true _ _ parts.0)
      ∙ ap (λ n. (is_same k.procedure procedure && k.set == n)) (eqb-true r.set set parts.1)));
  triples = λ user procedure set.
      found_left (λ t. not (is_triple_on k t)) (λ t. is_triple_of user procedure t && t.set == set) (is_same k.procedure procedure && k.set == set) p.triples
      (λ t there passes.
      let parts = and_parts (is_triple_of user procedure t) (t.set == set) passes in
      let first = and_parts (t.user == user) (number_of t.procedure == number_of procedure) parts.0 in
      ap not
      (ap (λ n. (n == number_of k.procedure && t.set == k.set)) (eqb-true _ _ first.1)
      ∙ ap (λ n. (number_of procedure == number_of k.procedure && n == k.set)) (eqb-true t.set set parts.1)
      ∙ ap (λ b. b && set == k.set) (same_turned (number_of procedure) (number_of k.procedure))
      ∙ ap (λ b. is_same k.procedure procedure && b) (same_turned set k.set)));
  certifiers = λ user procedure. refl;
  users = λ user. refl;
  suspended = λ user. refl;
  in_session = λ user. refl;
  sessions = λ user. none_more (session_number p user);
}

revoked : (p : PolicyLists) (who : Who) (k : TripleKey) → IsPolicySound p → IsNumber k.set → IsSaid who (asked.Command (command.Revoke k)) p (policy_written (change.NoTriple k) p)
revoked p who k sound within = record {
  sets = λ set. refl;
  relations = λ procedure set. refl;
  triples = λ user procedure set.
      found_left (λ t. not (triple_key t == triple_number k.user k.procedure k.set)) (λ t. is_triple_of user procedure t && t.set == set)
      ((k.user == user && is_same k.procedure procedure) && k.set == set) p.triples
      (λ t there passes.
      let parts = and_parts (is_triple_of user procedure t) (t.set == set) passes in
      let first = and_parts (t.user == user) (number_of t.procedure == number_of procedure) parts.0 in
      let number = each_of (λ x. IsNumber x.set) p.triples sound.triples.numbers t there in
      ap not
      (triple_test t.user (number_of t.procedure) t.set k.user (number_of k.procedure) k.set number.1 within.1 (at_most_thirteen t.procedure) (at_most_thirteen k.procedure)
      ∙ ap (λ n. ((k.user == n && number_of k.procedure == number_of t.procedure) && k.set == t.set)) (eqb-true t.user user first.0)
      ∙ ap (λ n. ((k.user == user && number_of k.procedure == n) && k.set == t.set)) (eqb-true _ _ first.1)
      ∙ ap (λ n. ((k.user == user && is_same k.procedure procedure) && k.set == n)) (eqb-true t.set set parts.1)));
  certifiers = λ user procedure. refl;
  users = λ user. refl;
  suspended = λ user. refl;
  in_session = λ user. refl;
  sessions = λ user. none_more (session_number p user);
}

dismissed : (p : PolicyLists) (who : Who) (c : Certifier) → IsSaid who (asked.Command (command.Dismiss c)) p (policy_written (change.NoCertifier c) p)
dismissed p who c = record {
  sets = λ set. refl;
  relations = λ procedure set. refl;
  triples = λ user procedure set. refl;
  certifiers = λ user procedure.
      found_left (λ r. not (certifier_key r == certifier_key c)) (λ r. r.user == user && number_of r.procedure == number_of procedure) (c.user == user && is_same c.procedure procedure) p.certifiers
      (λ r there passes.
      let parts = and_parts (r.user == user) (number_of r.procedure == number_of procedure) passes in
      ap not
      (certifier_test r.user (number_of r.procedure) c.user (number_of c.procedure) (at_most_thirteen r.procedure) (at_most_thirteen c.procedure)
      ∙ ap (λ n. (c.user == n && number_of c.procedure == number_of r.procedure)) (eqb-true r.user user parts.0)
      ∙ ap (λ n. (c.user == user && number_of c.procedure == n)) (eqb-true _ _ parts.1)));
  users = λ user. refl;
  suspended = λ user. refl;
  in_session = λ user. refl;
  sessions = λ user. none_more (session_number p user);
}

-- ---- each command, by the rules of the policy that do not deny it

pub commanded : (p : PolicyLists) (who : Who) (c : PolicyOp) → IsPolicySound p → IsPolicyOp c → is_unknown (command_rows p (asker who) c) c ≡ false
    → is_out_of_place (command_rows p (asker who) c) (asker who) c ≡ false → IsSaid who (asked.Command c) p (policy_written (change_of c (asker who)) p)
commanded p who (command.DefineSet s) sound within known placed = defined p who s placed
commanded p who (command.Certify k) sound within known placed = certified p who k placed
commanded p who (command.Withdraw k) sound within known placed = withdrawn p who k sound within
commanded p who (command.Grant t) sound within known placed = granted p who t placed
commanded p who (command.Revoke k) sound within known placed = revoked p who k sound within.set
commanded p who (command.Appoint c) sound within known placed = appointed p who c placed
commanded p who (command.Dismiss c) sound within known placed = dismissed p who c
commanded p who (command.Enrol e) sound within known placed = enrolled p who e placed
commanded p who (command.Suspend k) sound within known placed = suspended p who k known
commanded p who (command.Restore k) sound within known placed = restored p who k
