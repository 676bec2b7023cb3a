-- Who asks for a command that no rule denies, has the policy listed, or opens or ends a session is who may; what the command speaks of is there or is not, as it has
-- to be; and who executes is kept apart from who certifies.
use Rattle.std.proofs.Common.{◌≡◌, inl, inr, ℕ, ◌==◌, ◌&&◌, Bool, true, false, not, Option, Some, None, Ok, refl, ap, sym, subst, ◌∙◌}
use Rattle.std.specs.Prelude.{is_none, is_some, nat_le, option_and_then, option_map}
use Rattle.std.specs.Option.{option_map_or}
use Rattle.std.proofs.lemmas.Bool.{and_from, and_parts, eq-eqb, eqb-false, eqb-true, leb-false, not-false, or_parts}
use Rattle.bank_policy.specs.HeldRows.{is_relation_of, is_triple_of, standing, standing_of, user_row}
use Rattle.bank_terms.specs.Limits.{max_key}
use Rattle.bank_policy.specs.declared.rows.Standing.{Standing}
use Rattle.bank_policy.specs.Policy.{PolicyLists}
use Rattle.bank_policy.specs.PolicyKeys.{user_key}
use Rattle.bank_policy.specs.declared.rows.User.{User}
use Rattle.bank_terms.specs.Procedure.{number_of}
use Rattle.bank_terms.specs.declared.procedure.Procedure.{Procedure}
use Rattle.bank_terms.specs.declared.rule.Rule.{Rule}
use Rattle.bank_terms.specs.declared.rule.Rule.TheVariants as rule
use Rattle.bank_books.specs.WorldLists.{WorldLists}
use Rattle.bank_terms.proofs.Procedures.{one_procedure}
use Rattle.certify.proofs.CommandRules.{user_missing, user_there}
use Rattle.certify.proofs.SomeRows.{any_of, none_passes, some_of, some_passes}
use Rattle.certify.specs.CommandRows.{certifies_any, executes, has_certified, has_relation, has_set, has_triple, is_certifier, is_officer}
use Rattle.keyed_rows.proofs.Rows.{find-found}
use Rattle.policy_check.specs.Separation.{Certifies, HasCertified, IsCertifier, IsOfficer, MayExecute}
use Rattle.policy_check.specs.Soundness.{IsRelated, IsSet, IsUser}
use Rattle.policy_commands.specs.declared.policy_op.PolicyOp.{PolicyOp}
use Rattle.policy_commands.specs.declared.policy_op.PolicyOp.TheVariants as command
use Rattle.bank_meaning.specs.CommandsJudged.{CommandsAreJudged, HasTriple, IsCertifierOfAny, IsCommandJudged, IsInPlace, IsListingJudged, IsNoOfficer, IsOpeningJudged, IsSuspended, KeepsApart, MayCommand}
use Rattle.bank_meaning.specs.Laws.{IsIdentified, MayOpen}
use Rattle.bank_meaning.specs.Listing.{is_officer_row}
use Rattle.bank_meaning.specs.Meaning.{ReplyText}
use Rattle.bank_meaning.specs.PolicyRules.{asker}
use Rattle.bank_meaning.specs.Requests.{commands, denies, ends_session, first, lists, opens_session, reply_text}
use Rattle.bank_meaning.specs.Run.{reply, stated}
use Rattle.bank_meaning.specs.Sessions.{standing_of_asker}
use Rattle.bank_meaning.specs.declared.request.Asked.{Asked}
use Rattle.bank_meaning.specs.declared.request.Request.{Request}
use Rattle.bank_meaning.specs.declared.who.Who.{Who}
use Rattle.bank_meaning.proofs.FirstRule.{none_denies}
use Rattle.bank_meaning.proofs.JudgedPolicy.{identity_is_judged, known_passed}

-- ---- what the tests of rows show

officer_of_test : (p : PolicyLists) (user : ℕ) → is_officer p user ≡ true → IsOfficer p user
officer_of_test p user is = go (user_row p user) refl is
  where
    go : (o : Option User) → user_row p user ≡ o → option_map_or (λ s. s.officer) (option_map standing_of o) false ≡ true → IsOfficer p user
    go None at passes = absurd cc
    go (Some row) at passes =
        let found = find-found (λ r. user_key r == user) p.users row at in
        any_of (λ (r : User). (r.user ≡ user) × (r.officer ≡ true)) p.users row found.0 (eqb-true (user_key row) user found.1, passes)

pub certifier_of_test : (p : PolicyLists) (user : ℕ) (procedure : Procedure) → is_certifier p user procedure ≡ true → IsCertifier p user procedure
certifier_of_test p user procedure is =
    let row = some_passes (λ r. r.user == user && number_of r.procedure == number_of procedure) p.certifiers is in
    let tests = and_parts (row.0.user == user) (number_of row.0.procedure == number_of procedure) row.1.1 in
    any_of (λ r. (r.user ≡ user) × (r.procedure ≡ procedure)) p.certifiers row.0 row.1.0 (eqb-true _ _ tests.0, one_procedure row.0.procedure procedure (eqb-true _ _ tests.1))

any_of_test : (p : PolicyLists) (user : ℕ) → certifies_any p user ≡ true → IsCertifierOfAny p user
any_of_test p user is =
    let row = some_passes (λ r. r.user == user) p.certifiers is in
    (row.0.procedure, any_of (λ r. (r.user ≡ user) × (r.procedure ≡ row.0.procedure)) p.certifiers row.0 row.1.0 (eqb-true _ _ row.1.1, refl))

-- ---- a command

identified : (w : WorldLists) (c : PolicyOp) (who : Who) → first w (commands c who) ≡ None → IsIdentified w who
identified w c who is = (known_passed w who).0 (none_denies w (commands c who) rule.Identity is)

by_officer : (w : WorldLists) (who : Who) → not (is_officer w.policy (asker who)) ≡ false → IsOfficer w.policy (asker who)
by_officer w who is = officer_of_test w.policy (asker who) (not-false _ is)

by_certifier : (w : WorldLists) (who : Who) (procedure : Procedure) → not (is_certifier w.policy (asker who) procedure) ≡ false → IsCertifier w.policy (asker who) procedure
by_certifier w who procedure is = certifier_of_test w.policy (asker who) procedure (not-false _ is)

may_command : (w : WorldLists) (c : PolicyOp) (who : Who) → ((r : Rule) → denies r w (commands c who) ≡ false) → MayCommand w.policy (asker who) c
may_command w (command.DefineSet s) who none = any_of_test w.policy (asker who) (not-false _ (none rule.Certifier))
may_command w (command.Certify k) who none = by_certifier w who k.procedure (none rule.Certifier)
may_command w (command.Withdraw k) who none = by_certifier w who k.procedure (none rule.Certifier)
may_command w (command.Grant t) who none = by_certifier w who t.procedure (none rule.Certifier)
may_command w (command.Revoke k) who none = by_certifier w who k.procedure (none rule.Certifier)
may_command w (command.Appoint c) who none = by_officer w who (none rule.Officer)
may_command w (command.Dismiss c) who none = by_officer w who (none rule.Officer)
may_command w (command.Enrol e) who none = by_officer w who (none rule.Officer)
may_command w (command.Suspend k) who none = by_officer w who (none rule.Officer)
may_command w (command.Restore k) who none = by_officer w who (none rule.Officer)

-- ---- what is there, and what is not

pub is_of_key : (a b : ℕ) (p q : Procedure) → (a == b && number_of p == number_of q) ≡ true → (a ≡ b) × (p ≡ q)
is_of_key a b p q is =
    let tests = and_parts (a == b) (number_of p == number_of q) is in
    (eqb-true a b tests.0, one_procedure p q (eqb-true _ _ tests.1))

of_key : (a b : ℕ) (p q : Procedure) → a ≡ b → p ≡ q → (a == b && number_of p == number_of q) ≡ true
of_key a b p q same alike = and_from (a == b) (number_of p == number_of q) (eq-eqb a b same) (eq-eqb _ _ (ap number_of alike))

pub set_there : (p : PolicyLists) (set : ℕ) → has_set p set ≡ true → IsSet p set
unfolding IsSet
set_there p set is =
    let row = some_passes (λ r. r.set == set) p.sets is in
    (row.0, (row.1.0, eqb-true _ _ row.1.1))

pub no_set : (p : PolicyLists) (set : ℕ) → has_set p set ≡ false → ¬ IsSet p set
unfolding IsSet
no_set p set is there = none_passes (λ r. r.set == set) p.sets is there.0 there.1.0 (eq-eqb _ _ there.1.1)

pub related : (p : PolicyLists) (procedure : Procedure) (set : ℕ) → has_relation p procedure set ≡ true → IsRelated p procedure set
unfolding IsRelated
related p procedure set is =
    let row = some_passes (λ r. is_relation_of procedure r && r.set == set) p.relations is in
    let tests = and_parts (is_relation_of procedure row.0) (row.0.set == set) row.1.1 in
    any_of (λ r. (r.procedure ≡ procedure) × (r.set ≡ set)) p.relations row.0 row.1.0 (one_procedure row.0.procedure procedure (eqb-true _ _ tests.0), eqb-true _ _ tests.1)

pub not_related : (p : PolicyLists) (procedure : Procedure) (set : ℕ) → has_relation p procedure set ≡ false → ¬ IsRelated p procedure set
unfolding IsRelated
not_related p procedure set is there =
    let row = some_of (λ r. (r.procedure ≡ procedure) × (r.set ≡ set)) p.relations there in
    none_passes (λ r. is_relation_of procedure r && r.set == set) p.relations is row.0 row.1.0
    (and_from (is_relation_of procedure row.0) (row.0.set == set) (eq-eqb _ _ (ap number_of row.1.1.0)) (eq-eqb _ _ row.1.1.1))

pub triple_there : (p : PolicyLists) (user : ℕ) (procedure : Procedure) (set : ℕ) → has_triple p user procedure set ≡ true → HasTriple p user procedure set
triple_there p user procedure set is =
    let row = some_passes (λ r. is_triple_of user procedure r && r.set == set) p.triples is in
    let tests = and_parts (is_triple_of user procedure row.0) (row.0.set == set) row.1.1 in
    let named = is_of_key row.0.user user row.0.procedure procedure tests.0 in
    any_of (λ r. (r.user ≡ user) × (r.procedure ≡ procedure) × (r.set ≡ set)) p.triples row.0 row.1.0 (named.0, named.1, eqb-true _ _ tests.1)

pub no_triple : (p : PolicyLists) (user : ℕ) (procedure : Procedure) (set : ℕ) → has_triple p user procedure set ≡ false → ¬ HasTriple p user procedure set
no_triple p user procedure set is there =
    let row = some_of (λ r. (r.user ≡ user) × (r.procedure ≡ procedure) × (r.set ≡ set)) p.triples there in
    none_passes (λ r. is_triple_of user procedure r && r.set == set) p.triples is row.0 row.1.0
    (and_from (is_triple_of user procedure row.0) (row.0.set == set) (of_key row.0.user user row.0.procedure procedure row.1.1.0 row.1.1.1) (eq-eqb _ _ row.1.1.2))

pub no_certifier : (p : PolicyLists) (user : ℕ) (procedure : Procedure) → is_certifier p user procedure ≡ false → ¬ IsCertifier p user procedure
no_certifier p user procedure is there =
    let row = some_of (λ r. (r.user ≡ user) × (r.procedure ≡ procedure)) p.certifiers there in
    none_passes (λ r. r.user == user && number_of r.procedure == number_of procedure) p.certifiers is row.0 row.1.0
    (of_key row.0.user user row.0.procedure procedure row.1.1.0 row.1.1.1)

pub a_user : (p : PolicyLists) (user : ℕ) → is_none (standing p user) ≡ false → IsUser p user
unfolding IsUser
a_user p user is = user_there p user is

pub no_user : (p : PolicyLists) (user : ℕ) → is_some (standing p user) ≡ false → ¬ IsUser p user
unfolding IsUser
no_user p user is there = user_missing p user is there.0 there.1.0 there.1.1

stands : (p : PolicyLists) (user : ℕ) (suspended : Bool) → is_none (standing p user) ≡ false → option_map_or (λ s. s.suspended) (standing p user) false ≡ suspended
    → IsSuspended p user suspended
stands p user suspended some is = go (standing p user) refl some is
  where
    go : (o : Option Standing) → standing p user ≡ o → is_none o ≡ false → option_map_or (λ s. s.suspended) o false ≡ suspended → IsSuspended p user suspended
    go None at some is = absurd cc
    go (Some row) at some is = (row, at, is)

in_place : (w : WorldLists) (c : PolicyOp) (who : Who) → ((r : Rule) → denies r w (commands c who) ≡ false) → IsInPlace w.policy (asker who) c
in_place w (command.DefineSet s) who none =
    let state = or_parts (has_set w.policy s.set) _ (none rule.PolicyState) in
    (no_set w.policy s.set state.0, leb-false _ _ state.1)
in_place w (command.Certify k) who none =
    let state = or_parts (has_relation w.policy k.procedure k.set) _ (none rule.PolicyState) in
    (set_there w.policy k.set (not-false _ (none rule.PolicyUnknown)), not_related w.policy k.procedure k.set state.0, leb-false _ _ state.1)
in_place w (command.Withdraw k) who none = related w.policy k.procedure k.set (not-false _ (none rule.PolicyUnknown))
in_place w (command.Grant t) who none =
    let known = or_parts (is_none (standing w.policy t.user)) _ (none rule.PolicyUnknown) in
    let state = or_parts (has_triple w.policy t.user t.procedure t.set) _ (none rule.PolicyState) in (
      a_user w.policy t.user known.0,
      related w.policy t.procedure t.set (not-false _ known.1),
      no_triple w.policy t.user t.procedure t.set state.0,
      leb-false _ _ state.1,
    )
in_place w (command.Revoke k) who none = triple_there w.policy k.user k.procedure k.set (not-false _ (none rule.PolicyUnknown))
in_place w (command.Appoint c) who none = (a_user w.policy c.user (none rule.PolicyUnknown), no_certifier w.policy c.user c.procedure (none rule.PolicyState))
in_place w (command.Dismiss c) who none = certifier_of_test w.policy c.user c.procedure (not-false _ (none rule.PolicyUnknown))
in_place w (command.Enrol e) who none = no_user w.policy e.user (none rule.PolicyState)
in_place w (command.Suspend k) who none =
    let state = or_parts (option_map_or (λ s. s.suspended) (standing w.policy k.user) false) (k.user == asker who) (none rule.PolicyState) in
    (stands w.policy k.user false (none rule.PolicyUnknown) state.0, eqb-false _ _ state.1)
in_place w (command.Restore k) who none = stands w.policy k.user true (none rule.PolicyUnknown) (not-false _ (none rule.PolicyState))

-- ---- who executes is kept apart from who certifies

no_officer : (p : PolicyLists) (user : ℕ) → option_map_or (λ s. s.officer) (standing p user) false ≡ false → IsNoOfficer p user
no_officer p user is row at = sym (ap (λ o. option_map_or (λ (s : Standing). s.officer) o false) at) ∙ is

pub not_by : (p : PolicyLists) (user : ℕ) (procedure : Procedure) → has_certified p user procedure ≡ false → ¬ HasCertified p user procedure
not_by p user procedure is there =
    let row = some_of (λ r. (r.by ≡ user) × (r.procedure ≡ procedure)) p.relations there in
    none_passes (λ r. is_relation_of procedure r && r.by == user) p.relations is row.0 row.1.0
    (and_from (is_relation_of procedure row.0) (row.0.by == user) (eq-eqb _ _ (ap number_of row.1.1.1)) (eq-eqb _ _ row.1.1.0))

pub executes_none : (p : PolicyLists) (user : ℕ) (procedure : Procedure) → executes p user procedure ≡ false → ¬ MayExecute p user procedure
executes_none p user procedure is there =
    let row = some_of (λ r. (r.user ≡ user) × (r.procedure ≡ procedure)) p.triples there in
    none_passes (is_triple_of user procedure) p.triples is row.0 row.1.0 (of_key row.0.user user row.0.procedure procedure row.1.1.0 row.1.1.1)

certifies_not : (p : PolicyLists) (user : ℕ) (procedure : Procedure) → is_certifier p user procedure ≡ false → has_certified p user procedure ≡ false → ¬ Certifies p user procedure
certifies_not p user procedure is stands (inl certifier) = no_certifier p user procedure is certifier
certifies_not p user procedure is stands (inr certified) = not_by p user procedure stands certified

keeps_apart : (w : WorldLists) (c : PolicyOp) (who : Who) → ((r : Rule) → denies r w (commands c who) ≡ false) → KeepsApart w.policy c
keeps_apart w (command.DefineSet s) who none = tt
keeps_apart w (command.Certify k) who none = tt
keeps_apart w (command.Withdraw k) who none = tt
keeps_apart w (command.Grant t) who none =
    let parts = or_parts (option_map_or (λ s. s.officer) (standing w.policy t.user) false) _ (none rule.Separation) in
    let certifies = or_parts (is_certifier w.policy t.user t.procedure) _ parts.1 in
    (no_officer w.policy t.user parts.0, certifies_not w.policy t.user t.procedure certifies.0 certifies.1)
keeps_apart w (command.Revoke k) who none = tt
keeps_apart w (command.Appoint c) who none =
    let parts = or_parts (option_map_or (λ s. s.officer) (standing w.policy c.user) false) _ (none rule.Separation) in
    (no_officer w.policy c.user parts.0, executes_none w.policy c.user c.procedure parts.1)
keeps_apart w (command.Dismiss c) who none = tt
keeps_apart w (command.Enrol e) who none = tt
keeps_apart w (command.Suspend k) who none = tt
keeps_apart w (command.Restore k) who none = tt

command_judged : (w : WorldLists) (c : PolicyOp) (who : Who) → first w (commands c who) ≡ None → IsCommandJudged w who c
command_judged w c who is =
    let none : (r : Rule) → denies r w (commands c who) ≡ false = λ r. none_denies w (commands c who) r is in
    record { identified = identified w c who is; may = may_command w c who none; placed = in_place w c who none; apart = keeps_apart w c who none }

-- ---- the listing

-- the user who asks for it is an officer by their row, and so one of the policy's
officer_asks : (w : WorldLists) (who : Who) → IsIdentified w who → not (is_officer_row (standing_of_asker who w)) ≡ false → IsOfficer w.policy (asker who)
officer_asks w who known is =
    let named : standing_of_asker who w ≡ standing_of_asker (record who { user = Some known.user }) w = ap (λ o. standing_of_asker (record who { user = o }) w) known.named in
    subst (λ o. IsOfficer w.policy (asker (record who { user = o }))) (sym known.named)
    (officer_of_test w.policy known.user (not-false _ (subst (λ s. not (is_officer_row s) ≡ false) named is)))

listing_judged : (w : WorldLists) (who : Who) → first w (lists who) ≡ None → IsListingJudged w who
listing_judged w who is =
    let known = (known_passed w who).0 (none_denies w (lists who) rule.Identity is) in
    record { identified = known; officer = officer_asks w who known (none_denies w (lists who) rule.Officer is) }

-- ---- sessions

-- the row of the user who asks to open one is that which the rules look at
pub asks_to_open : (w : WorldLists) (user : Option ℕ) (may : MayOpen w user) → option_and_then (λ u. standing w.policy u) user ≡ Some may.row
asks_to_open w user may = ap (λ o. option_and_then (λ u. standing w.policy u) o) may.named ∙ may.there

opening_judged : (w : WorldLists) (user : Option ℕ) → first w (opens_session user) ≡ None → IsOpeningJudged w user
opening_judged w user is =
    let may = ((identity_is_judged w).opening user).0 (none_denies w (opens_session user) rule.Identity is) in
    let full : nat_le max_key may.row.session ≡ false =
    sym (ap (λ o. option_map_or (λ (s : Standing). nat_le max_key s.session) o false) (asks_to_open w user may)) ∙ none_denies w (opens_session user) rule.Full is in
    record { may = may; left = leb-false _ _ full }

-- ---- what is returned was denied by no rule

returned : (r : Option Rule) (text other : ReplyText) → stated r text ≡ Ok other → r ≡ None
returned None text other is = refl
returned (Some r) text other is = absurd cc

-- ---- all requests

abbrev pub at_any_moment : Request → Asked → Request
at_any_moment q what = record { who = q.who; moment = q.moment; asked = what }

pub commands_are_judged : CommandsAreJudged
commands_are_judged w = record {
  command = λ q c is none. command_judged w c q.who (subst (λ what. first w (at_any_moment q what) ≡ None) is none);
  listing = λ q is none. listing_judged w q.who (subst (λ what. first w (at_any_moment q what) ≡ None) is none);
  listed = λ q text is ok.
      listing_judged w q.who (returned (first w (lists q.who)) (reply_text w (lists q.who)) text (subst (λ what. reply w (at_any_moment q what) ≡ Ok text) is ok));
  opening = λ q is none. opening_judged w q.who.user (subst (λ what. first w (at_any_moment q what) ≡ None) is none);
  ending = λ q is none. (known_passed w q.who).0 (none_denies w (ends_session q.who) rule.Identity (subst (λ what. first w (at_any_moment q what) ≡ None) is none));
}
