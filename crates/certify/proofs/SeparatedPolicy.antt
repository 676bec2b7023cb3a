-- Who certifies what executes none of it, and an officer does neither: so it stays with each command that no rule denies.
use Rattle.std.proofs.Common.{◌≡◌, ℕ, ◌==◌, ◌&&◌, ◌||◌, not, Bool, true, false, sym, ap, ◌∙◌, subst, Contains, inl, inr, IsTrue}
use Rattle.std.specs.Option.{option_map_or}
use Rattle.std.proofs.lemmas.Bool.{and_from, and_parts, eq-eqb, eqb-true, or_parts}
use Rattle.bank_terms.specs.Procedure.{number_of}
use Rattle.bank_terms.specs.declared.procedure.Procedure.{Procedure}
use Rattle.keyed_rows.specs.Ordered.{HasRow}
use Rattle.bank_policy.specs.HeldRows.{is_relation_of, is_triple_of, standing}
use Rattle.bank_policy.specs.Policy.{PolicyLists}
use Rattle.bank_policy.specs.PolicyKeys.{certifier_key, relation_key, relation_number, triple_key, triple_number, user_key}
use Rattle.bank_policy.specs.PolicyWrites.{in_suspension, is_triple_on, policy_written, with_suspension}
use Rattle.bank_policy.specs.declared.policy_write.PolicyWrite.TheVariants as change
use Rattle.bank_policy.specs.declared.policy_write.RelationKey.{RelationKey}
use Rattle.bank_policy.specs.declared.policy_write.Suspension.{Suspension}
use Rattle.bank_policy.specs.declared.policy_write.TripleKey.{TripleKey}
use Rattle.bank_policy.specs.declared.rows.Certifier.{Certifier}
use Rattle.bank_policy.specs.declared.rows.Relation.{Relation}
use Rattle.bank_policy.specs.declared.rows.Triple.{Triple}
use Rattle.bank_policy.specs.declared.rows.User.{User}
use Rattle.book_laws.proofs.ChangedRows.{each_changed}
use Rattle.policy_check.specs.Separation.{Certifies, HasCertified, Holds, IsCertifier, IsOfficer, MayExecute, Separated}
use Rattle.policy_check.specs.Soundness.{IsPolicySound, IsUser}
use Rattle.policy_commands.specs.declared.policy_op.Enrolment.{Enrolment}
use Rattle.policy_commands.specs.declared.policy_op.PolicyOp.TheVariants as asked
use Rattle.certify.proofs.CommandRules.{IsPassed, not_false, not_officer, passed, user_missing}
use Rattle.bank_terms.proofs.Procedures.{one_procedure}
use Rattle.certify.proofs.SomeRows.{any_added, any_filter, any_of, any_weaker, each_of, none_passes, some_of, some_passes}
use Rattle.certify.specs.CommandRows.{command_rows, executes, has_certified, is_certifier}
use Rattle.certify.specs.Commands.{change_of, names_officer}
use Rattle.certify.specs.Laws.{CommandKeepsSeparation}

-- ---- what follows from the tests

certifier_of_test : (p : PolicyLists) (user : ℕ) (procedure : Procedure) → is_certifier p user procedure ≡ true → IsCertifier p user procedure
certifier_of_test p user procedure is =
    let row = some_passes (λ r. r.user == user && number_of r.procedure == number_of procedure) p.certifiers is in
    let tests = and_parts (row.0.user == user) (number_of row.0.procedure == number_of procedure) row.1.1 in
    any_of (λ r. (r.user ≡ user) × (r.procedure ≡ procedure)) p.certifiers row.0 row.1.0 (eqb-true _ _ tests.0, one_procedure row.0.procedure procedure (eqb-true _ _ tests.1))

no_certifier : (p : PolicyLists) (user : ℕ) (procedure : Procedure) → is_certifier p user procedure ≡ false → ¬ IsCertifier p user procedure
no_certifier p user procedure is some =
    let row = some_of (λ r. (r.user ≡ user) × (r.procedure ≡ procedure)) p.certifiers some in
    none_passes (λ r. r.user == user && number_of r.procedure == number_of procedure) p.certifiers is row.0 row.1.0
    (and_from (row.0.user == user) (number_of row.0.procedure == number_of procedure) (eq-eqb _ _ row.1.1.0) (eq-eqb _ _ (ap number_of row.1.1.1)))

not_certified : (p : PolicyLists) (user : ℕ) (procedure : Procedure) → has_certified p user procedure ≡ false → ¬ HasCertified p user procedure
not_certified p user procedure is some =
    let row = some_of (λ r. (r.by ≡ user) × (r.procedure ≡ procedure)) p.relations some in
    none_passes (λ r. is_relation_of procedure r && r.by == user) p.relations is row.0 row.1.0
    (and_from (number_of row.0.procedure == number_of procedure) (row.0.by == user) (eq-eqb _ _ (ap number_of row.1.1.1)) (eq-eqb _ _ row.1.1.0))

no_triple : (p : PolicyLists) (user : ℕ) (procedure : Procedure) → executes p user procedure ≡ false → ¬ MayExecute p user procedure
no_triple p user procedure is some =
    let row = some_of (λ r. (r.user ≡ user) × (r.procedure ≡ procedure)) p.triples some in
    none_passes (is_triple_of user procedure) p.triples is row.0 row.1.0
    (and_from (row.0.user == user) (number_of row.0.procedure == number_of procedure) (eq-eqb _ _ row.1.1.0) (eq-eqb _ _ (ap number_of row.1.1.1)))

no_officer : (p : PolicyLists) (user : ℕ) → IsPolicySound p → option_map_or (λ s. s.officer) (standing p user) false ≡ false → ¬ IsOfficer p user
no_officer p user sound is some =
    let row = some_of (λ r. (r.user ≡ user) × IsTrue r.officer) p.users some in
    not_officer p user sound.users.distinct is row.0 row.1.0 row.1.1.0 row.1.1.1

-- who holds anything is there
holder_there : (p : PolicyLists) (user : ℕ) → IsPolicySound p → Holds p user → HasRow user_key p.users user
unfolding IsUser
holder_there p user sound (inl some) =
    let row = some_of (λ r. r.user ≡ user) p.triples some in
    subst (HasRow user_key p.users) row.1.1 (each_of (λ r. HasRow user_key p.users r.user) p.triples sound.triples.users row.0 row.1.0)
holder_there p user sound (inr (inl some)) =
    let row = some_of (λ r. r.user ≡ user) p.certifiers some in
    subst (HasRow user_key p.users) row.1.1 (each_of (λ r. HasRow user_key p.users r.user) p.certifiers sound.certifiers.users row.0 row.1.0)
holder_there p user sound (inr (inr some)) =
    let row = some_of (λ r. r.by ≡ user) p.relations some in
    subst (HasRow user_key p.users) row.1.1 (each_of (λ r. HasRow user_key p.users r.by) p.relations sound.relations.by row.0 row.1.0)

-- ---- one row more

certified : (p : PolicyLists) (by : ℕ) (k : RelationKey) → Separated p → IsPassed (command_rows p by (asked.Certify k)) by (asked.Certify k)
    → Separated (policy_written (change_of (asked.Certify k) by) p)
certified p by k was passes =
    let row : Relation = record { procedure = k.procedure; set = k.set; by = by } in
    let may : IsCertifier p by k.procedure = certifier_of_test p by k.procedure (not_false _ passes.certifier) in
    record {
      officers = λ user (officer, holds). elim holds [
        | inl triple ↦ was.officers user (officer, inl triple)
        | inr others ↦ elim others [
          | inl certifier ↦ was.officers user (officer, inr (inl certifier))
          | inr relation ↦ elim (any_added relation_key row p.relations (λ r. r.by ≡ user) relation) [
            | inl new ↦
                was.officers user
                (officer, inr (inl (any_weaker (λ r. (r.user ≡ by) × (r.procedure ≡ k.procedure)) (λ r. r.user ≡ user) p.certifiers (λ r is. is.0 ∙ new) may)))
            | inr old ↦ was.officers user (officer, inr (inr old))
          ]
        ]
      ];
      others = λ user procedure (certifies, executes). elim certifies [
        | inl certifier ↦ was.others user procedure (inl certifier, executes)
        | inr relation ↦ elim (any_added relation_key row p.relations (λ r. (r.by ≡ user) × (r.procedure ≡ procedure)) relation) [
          | inl new ↦
              was.others user procedure
              (inl (any_weaker (λ r. (r.user ≡ by) × (r.procedure ≡ k.procedure)) (λ r. (r.user ≡ user) × (r.procedure ≡ procedure)) p.certifiers (λ r is. (is.0 ∙ new.0, is.1 ∙ new.1)) may), executes)
          | inr old ↦ was.others user procedure (inr old, executes)
        ]
      ];
    }

granted : (p : PolicyLists) (by : ℕ) (t : Triple) → IsPolicySound p → Separated p → IsPassed (command_rows p by (asked.Grant t)) by (asked.Grant t)
    → Separated (policy_written (change.Triple t) p)
granted p by t sound was passes =
    let first = or_parts (names_officer (command_rows p by (asked.Grant t))) (is_certifier p t.user t.procedure || has_certified p t.user t.procedure) passes.separation in
    let second = or_parts (is_certifier p t.user t.procedure) (has_certified p t.user t.procedure) first.1 in
    record {
      officers = λ user (officer, holds). elim holds [
        | inl triple ↦ elim (any_added triple_key t p.triples (λ r. r.user ≡ user) triple) [
          | inl new ↦ no_officer p t.user sound first.0 (subst (IsOfficer p) (sym new) officer)
          | inr old ↦ was.officers user (officer, inl old)
        ]
        | inr others ↦ was.officers user (officer, inr others)
      ];
      others = λ user procedure (certifies, executes). elim (any_added triple_key t p.triples (λ r. (r.user ≡ user) × (r.procedure ≡ procedure)) executes) [
        | inl new ↦ elim (subst (λ u. Certifies p u t.procedure) (sym new.0) (subst (Certifies p user) (sym new.1) certifies)) [
          | inl certifier ↦ no_certifier p t.user t.procedure second.0 certifier
          | inr relation ↦ not_certified p t.user t.procedure second.1 relation
        ]
        | inr old ↦ was.others user procedure (certifies, old)
      ];
    }

appointed : (p : PolicyLists) (by : ℕ) (c : Certifier) → IsPolicySound p → Separated p → IsPassed (command_rows p by (asked.Appoint c)) by (asked.Appoint c)
    → Separated (policy_written (change.Certifier c) p)
appointed p by c sound was passes =
    let free = or_parts (names_officer (command_rows p by (asked.Appoint c))) (executes p c.user c.procedure) passes.separation in
    record {
      officers = λ user (officer, holds). elim holds [
        | inl triple ↦ was.officers user (officer, inl triple)
        | inr others ↦ elim others [
          | inl certifier ↦ elim (any_added certifier_key c p.certifiers (λ r. r.user ≡ user) certifier) [
            | inl new ↦ no_officer p c.user sound free.0 (subst (IsOfficer p) (sym new) officer)
            | inr old ↦ was.officers user (officer, inr (inl old))
          ]
          | inr relation ↦ was.officers user (officer, inr (inr relation))
        ]
      ];
      others = λ user procedure (certifies, held). elim certifies [
        | inl certifier ↦ elim (any_added certifier_key c p.certifiers (λ r. (r.user ≡ user) × (r.procedure ≡ procedure)) certifier) [
          | inl new ↦
              no_triple p c.user c.procedure free.1 (subst (λ u. MayExecute p u c.procedure) (sym new.0) (subst (MayExecute p user) (sym new.1) held))
          | inr old ↦ was.others user procedure (inl old, held)
        ]
        | inr relation ↦ was.others user procedure (inr relation, held)
      ];
    }

enrolled : (p : PolicyLists) (by : ℕ) (e : Enrolment) → IsPolicySound p → Separated p → IsPassed (command_rows p by (asked.Enrol e)) by (asked.Enrol e)
    → Separated (policy_written (change_of (asked.Enrol e) by) p)
enrolled p by e sound was passes =
    let row : User = record { user = e.user; name = e.name; officer = e.officer; suspended = false; session = 0; on = false } in
    record {
      officers = λ user (officer, holds). elim (any_added user_key row p.users (λ r. (r.user ≡ user) × IsTrue r.officer) officer) [
        | inl new ↦
            let there = holder_there p user sound holds in
            user_missing p e.user passes.state there.0 there.1.0 (there.1.1 ∙ sym new.0)
        | inr old ↦ was.officers user (old, holds)
      ];
      others = was.others;
    }

-- ---- rows made anew

-- who is an officer then was one before
suspension_set : (p : PolicyLists) (s : Suspension) → Separated p → Separated (policy_written (change.Suspended s) p)
suspension_set p s was = record {
  officers = λ user (officer, holds).
      let row = some_of (λ r. (r.user ≡ user) × IsTrue r.officer) (with_suspension s p.users) officer in
      let before : (r : User) → Contains (with_suspension s p.users) r → (r.user ≡ user) × IsTrue r.officer → IsOfficer p user =
      each_changed user_key s.user (in_suspension s) p.users (λ r. (r.user ≡ user) × IsTrue r.officer → IsOfficer p user)
      (λ r there named is. any_of (λ x. (x.user ≡ user) × IsTrue x.officer) p.users r there is) (λ r there other is. any_of (λ x. (x.user ≡ user) × IsTrue x.officer) p.users r there is) in
      was.officers user (before row.0 row.1.0 row.1.1, holds);
  others = was.others;
}

-- ---- rows taken away

withdrawn : (p : PolicyLists) (k : RelationKey) → Separated p → Separated (policy_written (change.NoRelation k) p)
withdrawn p k was =
    let stays : Relation → Bool = λ r. not (relation_key r == relation_number k.procedure k.set) in
    let held : Triple → Bool = λ t. not (is_triple_on k t) in
    record {
      officers = λ user (officer, holds). elim holds [
        | inl triple ↦ was.officers user (officer, inl (any_filter held (λ r. r.user ≡ user) p.triples triple))
        | inr others ↦ elim others [
          | inl certifier ↦ was.officers user (officer, inr (inl certifier))
          | inr relation ↦ was.officers user (officer, inr (inr (any_filter stays (λ r. r.by ≡ user) p.relations relation)))
        ]
      ];
      others = λ user procedure (certifies, executes).
          let triple = any_filter held (λ r. (r.user ≡ user) × (r.procedure ≡ procedure)) p.triples executes in
          elim certifies [
            | inl certifier ↦ was.others user procedure (inl certifier, triple)
            | inr relation ↦ was.others user procedure (inr (any_filter stays (λ r. (r.by ≡ user) × (r.procedure ≡ procedure)) p.relations relation), triple)
          ];
    }

revoked : (p : PolicyLists) (k : TripleKey) → Separated p → Separated (policy_written (change.NoTriple k) p)
revoked p k was =
    let held : Triple → Bool = λ t. not (triple_key t == triple_number k.user k.procedure k.set) in
    record {
      officers = λ user (officer, holds). elim holds [
        | inl triple ↦ was.officers user (officer, inl (any_filter held (λ r. r.user ≡ user) p.triples triple))
        | inr others ↦ was.officers user (officer, inr others)
      ];
      others = λ user procedure (certifies, executes).
          was.others user procedure (certifies, any_filter held (λ r. (r.user ≡ user) × (r.procedure ≡ procedure)) p.triples executes);
    }

dismissed : (p : PolicyLists) (c : Certifier) → Separated p → Separated (policy_written (change.NoCertifier c) p)
dismissed p c was =
    let stays : Certifier → Bool = λ r. not (certifier_key r == certifier_key c) in
    record {
      officers = λ user (officer, holds). elim holds [
        | inl triple ↦ was.officers user (officer, inl triple)
        | inr others ↦ elim others [
          | inl certifier ↦ was.officers user (officer, inr (inl (any_filter stays (λ r. r.user ≡ user) p.certifiers certifier)))
          | inr relation ↦ was.officers user (officer, inr (inr relation))
        ]
      ];
      others = λ user procedure (certifies, executes). elim certifies [
        | inl certifier ↦ was.others user procedure (inl (any_filter stays (λ r. (r.user ≡ user) × (r.procedure ≡ procedure)) p.certifiers certifier), executes)
        | inr relation ↦ was.others user procedure (inr relation, executes)
      ];
    }

-- ---- each command

pub command_keeps_separation : CommandKeepsSeparation
command_keeps_separation w by (asked.DefineSet s) sound was none = record { officers = was.officers; others = was.others }
command_keeps_separation w by (asked.Certify k) sound was none = certified w.policy by k was (passed _ by (asked.Certify k) none)
command_keeps_separation w by (asked.Withdraw k) sound was none = withdrawn w.policy k was
command_keeps_separation w by (asked.Grant t) sound was none = granted w.policy by t sound was (passed _ by (asked.Grant t) none)
command_keeps_separation w by (asked.Revoke k) sound was none = revoked w.policy k was
command_keeps_separation w by (asked.Appoint c) sound was none = appointed w.policy by c sound was (passed _ by (asked.Appoint c) none)
command_keeps_separation w by (asked.Dismiss c) sound was none = dismissed w.policy c was
command_keeps_separation w by (asked.Enrol e) sound was none = enrolled w.policy by e sound was (passed _ by (asked.Enrol e) none)
command_keeps_separation w by (asked.Suspend k) sound was none = suspension_set w.policy (record { user = k.user; suspended = true }) was
command_keeps_separation w by (asked.Restore k) sound was none = suspension_set w.policy (record { user = k.user; suspended = false }) was
