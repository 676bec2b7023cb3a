-- A policy without dangling rows is one after each command that no rule denies.
use Rattle.std.proofs.Common.{◌≡◌, ℕ, ◌==◌, ◌&&◌, not, List, length, Bool, true, false, refl, sym, ap, ◌∙◌, subst, ◌≤◌}
use Rattle.std.specs.Prelude.{is_none, nat_le}
use Rattle.std.specs.List.{filter}
use Rattle.std.proofs.lemmas.Bool.{and_from, and_parts, eq-eqb, eqb-true, false_from_ne_true, false≢true, not_from_false, or_parts}
use Rattle.bank_terms.specs.Limits.{max_limit, max_relations, max_sets, max_triples}
use Rattle.bank_terms.specs.Procedure.{number_of}
use Rattle.keyed_rows.proofs.AddRow.{length-add_row}
use Rattle.keyed_rows.specs.Ordered.{AreDistinct, HasRow, add_row}
use Rattle.bank_policy.proofs.RowsTell.{in_filter}
use Rattle.bank_policy.specs.HeldRows.{is_relation_of, is_triple_of, standing}
use Rattle.bank_policy.specs.Policy.{PolicyLists}
use Rattle.bank_policy.specs.PolicyKeys.{certifier_key, relation_key, relation_number, set_key, triple_key, triple_number, user_key}
use Rattle.bank_policy.specs.PolicyWrites.{in_suspension, is_triple_on, policy_written, with_suspension}
use Rattle.bank_policy.specs.SetRow.{SetRow}
use Rattle.bank_policy.specs.declared.policy_write.PolicyWrite.TheVariants as change
use Rattle.bank_policy.specs.declared.policy_write.RelationKey.{RelationKey}
use Rattle.bank_policy.specs.declared.policy_write.Suspension.{Suspension}
use Rattle.bank_policy.specs.declared.policy_write.TripleKey.{TripleKey}
use Rattle.bank_policy.specs.declared.rows.Certifier.{Certifier}
use Rattle.bank_policy.specs.declared.rows.Relation.{Relation}
use Rattle.bank_policy.specs.declared.rows.Triple.{Triple}
use Rattle.bank_policy.specs.declared.rows.User.{User}
use Rattle.book_laws.proofs.ChangedRows.{HasRow-changed, each_changed, map-changed}
use Rattle.keyed_rows.proofs.Rows.{AreDistinct-add_row, Contains-add_row, HasRow-add_row}
use Rattle.rule_tests.proofs.RuleTests.{one_fits}
use Rattle.bank_terms.proofs.Procedures.{at_most_thirteen, one_procedure}
use Rattle.policy_check.specs.Soundness.{AreUsersSound, HasFewOfEachProcedure, HasFewOfEachUser, IsNumber, IsPolicySound, IsRelated, IsSet, IsSetSound, IsSpan, IsUser, IsUserSound}
use Rattle.policy_commands.specs.Ranges.{IsEnrolment, IsTriple}
use Rattle.policy_commands.specs.declared.policy_op.Enrolment.{Enrolment}
use Rattle.policy_commands.specs.declared.policy_op.PolicyOp.TheVariants as asked
use Rattle.certify.proofs.CommandRules.{IsPassed, not_false, not_true, passed, user_missing, user_there}
use Rattle.certify.proofs.SomeRows.{all_added, all_of, any_of, each_of, none_passes, some_passes}
use Rattle.certify.proofs.SoundTables.{certifier_of_key, certifiers_fewer, certifiers_still, counted, few_more, relation_of_key, relations_fewer, relations_still, triple_of_key, triples_fewer, triples_still}
use Rattle.certify.specs.CommandRows.{command_rows, has_relation, has_set, has_triple}
use Rattle.certify.specs.Commands.{change_of}
use Rattle.certify.specs.Laws.{CommandKeepsSoundness}

-- ---- one row more

set_defined : (p : PolicyLists) (by : ℕ) (s : SetRow) → IsPolicySound p → IsSetSound s → IsPassed (command_rows p by (asked.DefineSet s)) by (asked.DefineSet s)
    → IsPolicySound (policy_written (change.Set s) p)
set_defined p by s sound within passes =
    let free = or_parts (has_set p s.set) (nat_le max_sets (length p.sets)) passes.state in
    let sets : List SetRow = add_row set_key s p.sets in
    record {
      users = sound.users;
      sets = record {
        distinct =
            AreDistinct-add_row set_key s p.sets sound.sets.distinct (λ row there same. none_passes (λ r. r.set == s.set) p.sets free.0 row there (eq-eqb row.set s.set same));
        few = counted (length p.sets) (length sets) max_sets (length-add_row set_key s p.sets) (one_fits max_sets (length p.sets) free.1);
        each = all_added set_key s p.sets IsSetSound within sound.sets.each;
      };
      relations = relations_still p p.users sets p.triples p.certifiers (λ n there. there) (HasRow-add_row set_key s p.sets) sound.relations;
      triples = triples_still p p.users sets p.relations p.certifiers (λ n there. there) (λ r there. there) sound.triples;
      certifiers = certifiers_still p p.users sets p.relations p.triples (λ n there. there) sound.certifiers;
    }

certified : (p : PolicyLists) (by : ℕ) (k : RelationKey) → IsPolicySound p → HasRow user_key p.users by → IsNumber k.set
    → IsPassed (command_rows p by (asked.Certify k)) by (asked.Certify k) → IsPolicySound (policy_written (change_of (asked.Certify k) by) p)
unfolding HasFewOfEachProcedure IsSet IsUser
certified p by k sound asking within passes =
    let free = or_parts (has_relation p k.procedure k.set) (nat_le max_relations _) passes.state in
    let set = some_passes (λ r. r.set == k.set) p.sets (not_false _ passes.known) in
    let row : Relation = record { procedure = k.procedure; set = k.set; by = by } in
    let was = sound.relations in
    record {
      users = sound.users;
      sets = sound.sets;
      relations = record {
        distinct =
            AreDistinct-add_row relation_key row p.relations was.distinct (λ r there same.
            let number = each_of (λ x. IsNumber x.set) p.relations was.numbers r there in
            let parts = relation_of_key (number_of r.procedure) r.set (number_of k.procedure) k.set same number.1 within.1 in
            none_passes (λ x. is_relation_of k.procedure x && x.set == k.set) p.relations free.0 r there
            (and_from (number_of r.procedure == number_of k.procedure) (r.set == k.set) (eq-eqb _ _ parts.0) (eq-eqb _ _ parts.1)));
        numbers = all_added relation_key row p.relations (λ r. IsNumber r.set) within was.numbers;
        few = few_more relation_key (λ r. number_of r.procedure) row p.relations max_relations was.few free.1;
        sets = all_added relation_key row p.relations (λ r. HasRow set_key p.sets r.set) (set.0, (set.1.0, eqb-true set.0.set k.set set.1.1)) was.sets;
        by = all_added relation_key row p.relations (λ r. HasRow user_key p.users r.by) asking was.by;
      };
      triples = triples_still p p.users p.sets (add_row relation_key row p.relations) p.certifiers (λ n there. there) (Contains-add_row relation_key row p.relations) sound.triples;
      certifiers = certifiers_still p p.users p.sets (add_row relation_key row p.relations) p.triples (λ n there. there) sound.certifiers;
    }

granted : (p : PolicyLists) (by : ℕ) (t : Triple) → IsPolicySound p → IsTriple t → IsPassed (command_rows p by (asked.Grant t)) by (asked.Grant t)
    → IsPolicySound (policy_written (change.Triple t) p)
unfolding HasFewOfEachUser IsRelated IsUser
granted p by t sound within passes =
    let free = or_parts (has_triple p t.user t.procedure t.set) (nat_le max_triples _) passes.state in
    let known = or_parts (is_none (standing p t.user)) (not (has_relation p t.procedure t.set)) passes.known in
    let related = some_passes (λ r. is_relation_of t.procedure r && r.set == t.set) p.relations (not_false _ known.1) in
    let tests = and_parts (number_of related.0.procedure == number_of t.procedure) (related.0.set == t.set) related.1.1 in
    let was = sound.triples in
    record {
      users = sound.users;
      sets = sound.sets;
      relations = relations_still p p.users p.sets (add_row triple_key t p.triples) p.certifiers (λ n there. there) (λ n there. there) sound.relations;
      triples = record {
        distinct =
            AreDistinct-add_row triple_key t p.triples was.distinct (λ r there same.
            let number = each_of (λ x. IsNumber x.set) p.triples was.numbers r there in
            let parts = triple_of_key r.user (number_of r.procedure) r.set t.user (number_of t.procedure) t.set same number.1 within.set.1 (at_most_thirteen r.procedure) (at_most_thirteen t.procedure) in
            none_passes (λ x. is_triple_of t.user t.procedure x && x.set == t.set) p.triples free.0 r there
            (and_from (r.user == t.user && number_of r.procedure == number_of t.procedure) (r.set == t.set)
            (and_from (r.user == t.user) (number_of r.procedure == number_of t.procedure) (eq-eqb _ _ parts.0) (eq-eqb _ _ parts.1)) (eq-eqb _ _ parts.2)));
        numbers = all_added triple_key t p.triples (λ r. IsNumber r.set) within.set was.numbers;
        few = few_more triple_key (λ r. r.user) t p.triples max_triples was.few free.1;
        users = all_added triple_key t p.triples (λ r. HasRow user_key p.users r.user) (user_there p t.user known.0) was.users;
        relations =
            all_added triple_key t p.triples (λ r. IsRelated p r.procedure r.set)
            (any_of (λ r. (r.procedure ≡ t.procedure) × (r.set ≡ t.set)) p.relations related.0 related.1.0 (one_procedure related.0.procedure t.procedure (eqb-true _ _ tests.0), eqb-true _ _ tests.1))
            was.relations;
        limits = all_added triple_key t p.triples (λ r. r.limit ≤ max_limit) within.limit was.limits;
        moments = all_added triple_key t p.triples IsSpan within.moments was.moments;
      };
      certifiers = certifiers_still p p.users p.sets p.relations (add_row triple_key t p.triples) (λ n there. there) sound.certifiers;
    }

appointed : (p : PolicyLists) (by : ℕ) (c : Certifier) → IsPolicySound p → IsPassed (command_rows p by (asked.Appoint c)) by (asked.Appoint c)
    → IsPolicySound (policy_written (change.Certifier c) p)
unfolding IsUser
appointed p by c sound passes =
    let certifiers : List Certifier = add_row certifier_key c p.certifiers in
    record {
      users = sound.users;
      sets = sound.sets;
      relations = relations_still p p.users p.sets p.triples certifiers (λ n there. there) (λ n there. there) sound.relations;
      triples = triples_still p p.users p.sets p.relations certifiers (λ n there. there) (λ r there. there) sound.triples;
      certifiers = record {
        distinct =
            AreDistinct-add_row certifier_key c p.certifiers sound.certifiers.distinct (λ r there same.
            let parts = certifier_of_key r.user (number_of r.procedure) c.user (number_of c.procedure) same (at_most_thirteen r.procedure) (at_most_thirteen c.procedure) in
            none_passes (λ x. x.user == c.user && number_of x.procedure == number_of c.procedure) p.certifiers passes.state r there
            (and_from (r.user == c.user) (number_of r.procedure == number_of c.procedure) (eq-eqb _ _ parts.0) (eq-eqb _ _ parts.1)));
        users = all_added certifier_key c p.certifiers (λ r. HasRow user_key p.users r.user) (user_there p c.user passes.known) sound.certifiers.users;
      };
    }

-- other users are there still
users_grow : (p : PolicyLists) (users : List User) → ((n : ℕ) → HasRow user_key p.users n → HasRow user_key users n) → AreUsersSound users → IsPolicySound p → IsPolicySound (record p { users = users })
users_grow p users stay now sound = record {
  users = now;
  sets = sound.sets;
  relations = relations_still p users p.sets p.triples p.certifiers stay (λ n there. there) sound.relations;
  triples = triples_still p users p.sets p.relations p.certifiers stay (λ r there. there) sound.triples;
  certifiers = certifiers_still p users p.sets p.relations p.triples stay sound.certifiers;
}

enrolled : (p : PolicyLists) (by : ℕ) (e : Enrolment) → IsPolicySound p → IsEnrolment e → IsPassed (command_rows p by (asked.Enrol e)) by (asked.Enrol e)
    → IsPolicySound (policy_written (change_of (asked.Enrol e) by) p)
enrolled p by e sound within passes =
    let row : User = record { user = e.user; name = e.name; officer = e.officer; suspended = false; session = 0; on = false } in
    users_grow p (add_row user_key row p.users) (HasRow-add_row user_key row p.users)
    (record {
      distinct = AreDistinct-add_row user_key row p.users sound.users.distinct (user_missing p e.user passes.state);
      each = all_added user_key row p.users IsUserSound (record { low = within.user.0; high = within.user.1; named = within.name }) sound.users.each;
    })
    sound

-- ---- rows made anew

suspension_set : (p : PolicyLists) (s : Suspension) → IsPolicySound p → IsPolicySound (policy_written (change.Suspended s) p)
suspension_set p s sound =
    let users : List User = with_suspension s p.users in
    users_grow p users (HasRow-changed user_key s.user (in_suspension s) (λ u. refl) p.users)
    (record {
      distinct = subst AreDistinct (sym (map-changed user_key s.user (in_suspension s) user_key (λ u. refl) p.users)) sound.users.distinct;
      each =
          all_of IsUserSound users (each_changed user_key s.user (in_suspension s) p.users IsUserSound
          (λ u there of.
          let was = each_of IsUserSound p.users sound.users.each u there in
          record { low = was.low; high = was.high; named = was.named }) (λ u there other. each_of IsUserSound p.users sound.users.each u there));
    })
    sound

-- ---- rows taken away

-- a relation of a triple that stays is not the one that goes
not_withdrawn : (k : RelationKey) (t : Triple) (r : Relation) → IsNumber k.set → IsNumber r.set → not (is_triple_on k t) ≡ true → (r.procedure ≡ t.procedure) × (r.set ≡ t.set)
    → not (relation_key r == relation_number k.procedure k.set) ≡ true
not_withdrawn k t r within number other of =
    not_from_false (relation_key r == relation_number k.procedure k.set) (false_from_ne_true _ (λ same.
    let parts = relation_of_key (number_of r.procedure) r.set (number_of k.procedure) k.set (eqb-true (relation_key r) (relation_number k.procedure k.set) same) number.1 within.1 in
    let on = and_from (number_of t.procedure == number_of k.procedure) (t.set == k.set) (eq-eqb _ _ (ap number_of (sym of.0) ∙ parts.0)) (eq-eqb _ _ (sym of.1 ∙ parts.1)) in
    false≢true (sym (not_true _ other) ∙ on)))

withdrawn : (p : PolicyLists) (k : RelationKey) → IsPolicySound p → IsNumber k.set → IsPolicySound (policy_written (change.NoRelation k) p)
withdrawn p k sound within =
    let stays : Relation → Bool = λ r. not (relation_key r == relation_number k.procedure k.set) in
    let held : Triple → Bool = λ t. not (is_triple_on k t) in
    record {
      users = sound.users;
      sets = sound.sets;
      relations = relations_fewer p (filter held p.triples) stays sound.relations;
      triples =
          triples_fewer p (filter stays p.relations) held
          (λ t other r there of.
          in_filter stays p.relations r there (not_withdrawn k t r within (each_of (λ x. IsNumber x.set) p.relations sound.relations.numbers r there) other of)) sound.triples;
      certifiers = certifiers_still p p.users p.sets (filter stays p.relations) (filter held p.triples) (λ n there. there) sound.certifiers;
    }

revoked : (p : PolicyLists) (k : TripleKey) → IsPolicySound p → IsPolicySound (policy_written (change.NoTriple k) p)
revoked p k sound =
    let held : Triple → Bool = λ t. not (triple_key t == triple_number k.user k.procedure k.set) in
    record {
      users = sound.users;
      sets = sound.sets;
      relations = relations_still p p.users p.sets (filter held p.triples) p.certifiers (λ n there. there) (λ n there. there) sound.relations;
      triples = triples_fewer p p.relations held (λ t other r there of. there) sound.triples;
      certifiers = certifiers_still p p.users p.sets p.relations (filter held p.triples) (λ n there. there) sound.certifiers;
    }

dismissed : (p : PolicyLists) (c : Certifier) → IsPolicySound p → IsPolicySound (policy_written (change.NoCertifier c) p)
dismissed p c sound =
    let stays : Certifier → Bool = λ r. not (certifier_key r == certifier_key c) in
    record {
      users = sound.users;
      sets = sound.sets;
      relations = relations_still p p.users p.sets p.triples (filter stays p.certifiers) (λ n there. there) (λ n there. there) sound.relations;
      triples = triples_still p p.users p.sets p.relations (filter stays p.certifiers) (λ n there. there) (λ r there. there) sound.triples;
      certifiers = certifiers_fewer p stays sound.certifiers;
    }

-- ---- each command

pub command_keeps_soundness : CommandKeepsSoundness
command_keeps_soundness w by (asked.DefineSet s) sound asking within none = set_defined w.policy by s sound within (passed _ by (asked.DefineSet s) none)
command_keeps_soundness w by (asked.Certify k) sound asking within none = certified w.policy by k sound asking within (passed _ by (asked.Certify k) none)
command_keeps_soundness w by (asked.Withdraw k) sound asking within none = withdrawn w.policy k sound within
command_keeps_soundness w by (asked.Grant t) sound asking within none = granted w.policy by t sound within (passed _ by (asked.Grant t) none)
command_keeps_soundness w by (asked.Revoke k) sound asking within none = revoked w.policy k sound
command_keeps_soundness w by (asked.Appoint c) sound asking within none = appointed w.policy by c sound (passed _ by (asked.Appoint c) none)
command_keeps_soundness w by (asked.Dismiss c) sound asking within none = dismissed w.policy c sound
command_keeps_soundness w by (asked.Enrol e) sound asking within none = enrolled w.policy by e sound within (passed _ by (asked.Enrol e) none)
command_keeps_soundness w by (asked.Suspend k) sound asking within none = suspension_set w.policy (record { user = k.user; suspended = true }) sound
command_keeps_soundness w by (asked.Restore k) sound asking within none = suspension_set w.policy (record { user = k.user; suspended = false }) sound
