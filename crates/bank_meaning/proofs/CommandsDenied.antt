-- Where who asks may, what is spoken of is there or is not, and who executes is kept apart from who certifies, no rule denies a command; nor the listing, nor the
-- opening or the ending of a session.
use Rattle.std.proofs.Common.{◌≡◌, inl, inr, ℕ, ◌==◌, ◌&&◌, ◌||◌, Bool, true, false, not, map, Option, Some, None, refl, ap, sym, ◌∙◌}
use Rattle.std.specs.Prelude.{is_none, is_some, nat_le, option_map}
use Rattle.std.specs.Option.{option_map_or}
use Rattle.std.proofs.lemmas.Bool.{eq-eqb, lt-leb, ne_eqb}
use Rattle.bank_policy.specs.HeldRows.{is_relation_of, is_triple_of, standing, standing_of}
use Rattle.bank_policy.specs.Policy.{PolicyLists}
use Rattle.bank_policy.specs.PolicyKeys.{user_key}
use Rattle.bank_policy.specs.declared.rows.Standing.{Standing}
use Rattle.bank_policy.specs.declared.rows.User.{User}
use Rattle.bank_terms.specs.Limits.{max_key}
use Rattle.bank_terms.specs.declared.procedure.Procedure.{Procedure}
use Rattle.bank_terms.specs.declared.rule.Rule.{Rule}
use Rattle.bank_terms.specs.declared.rule.Rule.TheVariants as rule
use Rattle.bank_books.specs.WorldLists.{WorldLists}
use Rattle.certify.proofs.SomeRows.{any_of, none_passes, some_of, some_passes}
use Rattle.certify.specs.CommandRows.{certifies_any, command_rows, executes, has_certified, is_certifier, is_officer}
use Rattle.certify.specs.Commands.{breaks_separation, is_of_officers, is_out_of_place, is_unknown}
use Rattle.keyed_rows.proofs.Rows.{find_of_key}
use Rattle.keyed_rows.specs.Ordered.{AreDistinct}
use Rattle.policy_check.specs.Separation.{HasCertified, IsCertifier, IsOfficer, MayExecute}
use Rattle.policy_check.specs.Soundness.{IsUser}
use Rattle.policy_commands.specs.declared.policy_op.PolicyOp.{PolicyOp}
use Rattle.policy_commands.specs.declared.policy_op.PolicyOp.TheVariants as command
use Rattle.bank_meaning.specs.CommandsJudged.{CommandsDenyNoMore, IsCertifierOfAny, IsCommandJudged, IsInPlace, IsNoOfficer, IsSuspended, KeepsApart, ListingIsDeniedNoMore, MayCommand, OpeningIsDeniedNoMore}
use Rattle.bank_meaning.specs.Laws.{IsIdentified}
use Rattle.bank_meaning.specs.Listing.{is_officer_row}
use Rattle.bank_meaning.specs.PolicyRules.{asker}
use Rattle.bank_meaning.specs.Requests.{commands, denies, ends_session, first, lists, opens_session, rules}
use Rattle.bank_meaning.specs.Sessions.{standing_of_asker}
use Rattle.bank_meaning.specs.declared.who.Who.{Who}
use Rattle.bank_meaning.proofs.CommandsJudged.{asks_to_open, certifier_of_test, is_of_key, no_certifier, no_set, no_triple, no_user, not_related, related, set_there, triple_there, a_user}
use Rattle.bank_meaning.proofs.JudgedPolicy.{identity_is_judged, known_passed, none_found}

-- ---- of a test whose outcome is known by what it shows

not_so : (b : Bool) → (b ≡ true → ⊥) → b ≡ false
not_so true never = absurd (never refl)
not_so false never = refl

so : (b : Bool) → (b ≡ false → ⊥) → b ≡ true
so true always = refl
so false always = absurd (always refl)

neither : (a b : Bool) → a ≡ false → b ≡ false → (a || b) ≡ false
neither a b first second = ap (λ c. c || b) first ∙ second

-- a test that passes does not deny
passes : (b : Bool) → b ≡ true → not b ≡ false
passes b is = ap not is

-- ---- what the tests find, by what is so of the rows

officer_found : (p : PolicyLists) (user : ℕ) → AreDistinct (map user_key p.users) → IsOfficer p user → is_officer p user ≡ true
officer_found p user distinct some =
    let row = some_of (λ (r : User). (r.user ≡ user) × (r.officer ≡ true)) p.users some in
    ap (λ o. option_map_or (λ (s : Standing). s.officer) (option_map standing_of o) false) (find_of_key user_key user p.users row.0 distinct row.1.0 row.1.1.0) ∙ row.1.1.1

certifier_found : (p : PolicyLists) (user : ℕ) (procedure : Procedure) → IsCertifier p user procedure → is_certifier p user procedure ≡ true
certifier_found p user procedure some = so _ (λ is. no_certifier p user procedure is some)

any_found : (p : PolicyLists) (user : ℕ) → IsCertifierOfAny p user → certifies_any p user ≡ true
any_found p user some =
    let row = some_of (λ r. (r.user ≡ user) × (r.procedure ≡ some.0)) p.certifiers some.1 in
    so _ (λ is. none_passes (λ r. r.user == user) p.certifiers is row.0 row.1.0 (eq-eqb _ _ row.1.1.0))

by_of_test : (p : PolicyLists) (user : ℕ) (procedure : Procedure) → has_certified p user procedure ≡ true → HasCertified p user procedure
by_of_test p user procedure is =
    let row = some_passes (λ r. is_relation_of procedure r && r.by == user) p.relations is in
    let key = is_of_key row.0.by user row.0.procedure procedure in
    any_of (λ r. (r.by ≡ user) × (r.procedure ≡ procedure)) p.relations row.0 row.1.0 (key (swapped (is_relation_of procedure row.0) (row.0.by == user) row.1.1))
  where
    swapped : (a b : Bool) → (a && b) ≡ true → (b && a) ≡ true
    swapped true true is = refl
    swapped true false is = absurd cc
    swapped false b is = absurd cc

executes_of_test : (p : PolicyLists) (user : ℕ) (procedure : Procedure) → executes p user procedure ≡ true → MayExecute p user procedure
executes_of_test p user procedure is =
    let row = some_passes (is_triple_of user procedure) p.triples is in
    any_of (λ r. (r.user ≡ user) × (r.procedure ≡ procedure)) p.triples row.0 row.1.0 (is_of_key row.0.user user row.0.procedure procedure row.1.1)

no_officer_found : (p : PolicyLists) (user : ℕ) → IsNoOfficer p user → option_map_or (λ s. s.officer) (standing p user) false ≡ false
no_officer_found p user none = go (standing p user) refl
  where
    go : (o : Option Standing) → standing p user ≡ o → option_map_or (λ s. s.officer) o false ≡ false
    go None at = refl
    go (Some row) at = none row at

user_found : (p : PolicyLists) (user : ℕ) → IsUser p user → is_none (standing p user) ≡ false
user_found p user there = go (standing p user) refl
  where
    go : (o : Option Standing) → standing p user ≡ o → is_none o ≡ false
    go None at = absurd (no_user p user (ap is_some at) there)
    go (Some row) at = refl

no_user_found : (p : PolicyLists) (user : ℕ) → ¬ IsUser p user → is_some (standing p user) ≡ false
no_user_found p user none = go (standing p user) refl
  where
    go : (o : Option Standing) → standing p user ≡ o → is_some o ≡ false
    go None at = refl
    go (Some row) at = absurd (none (a_user p user (ap is_none at)))

stands_there : (p : PolicyLists) (user : ℕ) (suspended : Bool) → IsSuspended p user suspended → is_none (standing p user) ≡ false
stands_there p user suspended is = ap is_none is.1

stands_as : (p : PolicyLists) (user : ℕ) (suspended : Bool) → IsSuspended p user suspended → option_map_or (λ s. s.suspended) (standing p user) false ≡ suspended
stands_as p user suspended is = ap (λ o. option_map_or (λ (s : Standing). s.suspended) o false) is.1 ∙ is.2

-- ---- the rules on commands, one by one

officer_passes : (w : WorldLists) (by : ℕ) (c : PolicyOp) → AreDistinct (map user_key w.policy.users) → MayCommand w.policy by c
    → (is_of_officers c && not (command_rows w.policy by c).officer) ≡ false
officer_passes w by (command.DefineSet s) distinct may = refl
officer_passes w by (command.Certify k) distinct may = refl
officer_passes w by (command.Withdraw k) distinct may = refl
officer_passes w by (command.Grant t) distinct may = refl
officer_passes w by (command.Revoke k) distinct may = refl
officer_passes w by (command.Appoint c) distinct may = passes _ (officer_found w.policy by distinct may)
officer_passes w by (command.Dismiss c) distinct may = passes _ (officer_found w.policy by distinct may)
officer_passes w by (command.Enrol e) distinct may = passes _ (officer_found w.policy by distinct may)
officer_passes w by (command.Suspend k) distinct may = passes _ (officer_found w.policy by distinct may)
officer_passes w by (command.Restore k) distinct may = passes _ (officer_found w.policy by distinct may)

certifier_passes : (w : WorldLists) (by : ℕ) (c : PolicyOp) → MayCommand w.policy by c → (not (is_of_officers c) && not (command_rows w.policy by c).certifies) ≡ false
certifier_passes w by (command.DefineSet s) may = passes _ (any_found w.policy by may)
certifier_passes w by (command.Certify k) may = passes _ (certifier_found w.policy by k.procedure may)
certifier_passes w by (command.Withdraw k) may = passes _ (certifier_found w.policy by k.procedure may)
certifier_passes w by (command.Grant t) may = passes _ (certifier_found w.policy by t.procedure may)
certifier_passes w by (command.Revoke k) may = passes _ (certifier_found w.policy by k.procedure may)
certifier_passes w by (command.Appoint c) may = refl
certifier_passes w by (command.Dismiss c) may = refl
certifier_passes w by (command.Enrol e) may = refl
certifier_passes w by (command.Suspend k) may = refl
certifier_passes w by (command.Restore k) may = refl

apart_passes : (w : WorldLists) (by : ℕ) (c : PolicyOp) → KeepsApart w.policy c → breaks_separation (command_rows w.policy by c) c ≡ false
apart_passes w by (command.DefineSet s) apart = refl
apart_passes w by (command.Certify k) apart = refl
apart_passes w by (command.Withdraw k) apart = refl
apart_passes w by (command.Grant t) apart =
    neither _ _ (no_officer_found w.policy t.user apart.0)
    (neither _ _ (not_so _ (λ is. apart.1 (inl (certifier_of_test w.policy t.user t.procedure is)))) (not_so _ (λ is. apart.1 (inr (by_of_test w.policy t.user t.procedure is)))))
apart_passes w by (command.Revoke k) apart = refl
apart_passes w by (command.Appoint c) apart =
    neither _ _ (no_officer_found w.policy c.user apart.0) (not_so _ (λ is. apart.1 (executes_of_test w.policy c.user c.procedure is)))
apart_passes w by (command.Dismiss c) apart = refl
apart_passes w by (command.Enrol e) apart = refl
apart_passes w by (command.Suspend k) apart = refl
apart_passes w by (command.Restore k) apart = refl

known_there : (w : WorldLists) (by : ℕ) (c : PolicyOp) → IsInPlace w.policy by c → is_unknown (command_rows w.policy by c) c ≡ false
known_there w by (command.DefineSet s) placed = refl
known_there w by (command.Certify k) placed = passes _ (so _ (λ is. no_set w.policy k.set is placed.0))
known_there w by (command.Withdraw k) placed = passes _ (so _ (λ is. not_related w.policy k.procedure k.set is placed))
known_there w by (command.Grant t) placed =
    neither _ _ (user_found w.policy t.user placed.0) (passes _ (so _ (λ is. not_related w.policy t.procedure t.set is placed.1)))
known_there w by (command.Revoke k) placed = passes _ (so _ (λ is. no_triple w.policy k.user k.procedure k.set is placed))
known_there w by (command.Appoint c) placed = user_found w.policy c.user placed.0
known_there w by (command.Dismiss c) placed = passes _ (certifier_found w.policy c.user c.procedure placed)
known_there w by (command.Enrol e) placed = refl
known_there w by (command.Suspend k) placed = stands_there w.policy k.user false placed.0
known_there w by (command.Restore k) placed = stands_there w.policy k.user true placed

state_passes : (w : WorldLists) (by : ℕ) (c : PolicyOp) → IsInPlace w.policy by c → is_out_of_place (command_rows w.policy by c) by c ≡ false
state_passes w by (command.DefineSet s) placed = neither _ _ (not_so _ (λ is. placed.0 (set_there w.policy s.set is))) (lt-leb _ _ placed.1)
state_passes w by (command.Certify k) placed = neither _ _ (not_so _ (λ is. placed.1 (related w.policy k.procedure k.set is))) (lt-leb _ _ placed.2)
state_passes w by (command.Withdraw k) placed = refl
state_passes w by (command.Grant t) placed =
    neither _ _ (not_so _ (λ is. placed.2 (triple_there w.policy t.user t.procedure t.set is))) (lt-leb _ _ placed.3)
state_passes w by (command.Revoke k) placed = refl
state_passes w by (command.Appoint c) placed = not_so _ (λ is. placed.1 (certifier_of_test w.policy c.user c.procedure is))
state_passes w by (command.Dismiss c) placed = refl
state_passes w by (command.Enrol e) placed = no_user_found w.policy e.user placed
state_passes w by (command.Suspend k) placed = neither _ _ (stands_as w.policy k.user false placed.0) (ne_eqb _ _ placed.1)
state_passes w by (command.Restore k) placed = passes _ (stands_as w.policy k.user true placed)

command_passes : (w : WorldLists) (c : PolicyOp) (who : Who) → AreDistinct (map user_key w.policy.users) → IsCommandJudged w who c → (r : Rule) → denies r w (commands c who) ≡ false
command_passes w c who distinct is rule.Identity = (known_passed w who).1 is.identified
command_passes w c who distinct is rule.Officer = officer_passes w (asker who) c distinct is.may
command_passes w c who distinct is rule.Certifier = certifier_passes w (asker who) c is.may
command_passes w c who distinct is rule.Separation = apart_passes w (asker who) c is.apart
command_passes w c who distinct is rule.PolicyUnknown = known_there w (asker who) c is.placed
command_passes w c who distinct is rule.PolicyState = state_passes w (asker who) c is.placed
command_passes w c who distinct is _ = refl

pub commands_deny_no_more : CommandsDenyNoMore
commands_deny_no_more w who c checks is = none_found (λ r. denies r w (commands c who)) rules (command_passes w c who checks.sound.users.distinct is)

-- ---- the listing

-- the row that the rules on the listing look at is that of the user who asks
asks_to_list : (w : WorldLists) (who : Who) → IsIdentified w who → standing_of_asker who w ≡ standing w.policy (asker who)
asks_to_list w who known =
    ap (λ o. standing_of_asker (record who { user = o }) w) known.named ∙ sym (ap (λ o. standing w.policy (asker (record who { user = o }))) known.named)

listing_passes : (w : WorldLists) (who : Who) → IsIdentified w who → is_officer w.policy (asker who) ≡ true → (r : Rule) → denies r w (lists who) ≡ false
listing_passes w who known officer rule.Identity = (known_passed w who).1 known
listing_passes w who known officer rule.Officer = passes _ (ap is_officer_row (asks_to_list w who known) ∙ officer)
listing_passes w who known officer _ = refl

pub listing_is_denied_no_more : ListingIsDeniedNoMore
listing_is_denied_no_more w who checks is =
    none_found (λ r. denies r w (lists who)) rules (listing_passes w who is.identified (officer_found w.policy (asker who) checks.sound.users.distinct is.officer))

-- ---- sessions

pub opening_is_denied_no_more : OpeningIsDeniedNoMore
opening_is_denied_no_more w user is = none_found (λ r. denies r w (opens_session user)) rules each
  where
    each : (r : Rule) → denies r w (opens_session user) ≡ false
    each rule.Identity = ((identity_is_judged w).opening user).1 is.may
    each rule.Full =
        ap (λ o. option_map_or (λ (s : Standing). nat_le max_key s.session) o false) (asks_to_open w user is.may) ∙ lt-leb _ _ is.left
    each _ = refl

pub ending_passes : (w : WorldLists) (who : Who) → IsIdentified w who → first w (ends_session who) ≡ None
ending_passes w who known = none_found (λ r. denies r w (ends_session who)) rules each
  where
    each : (r : Rule) → denies r w (ends_session who) ≡ false
    each rule.Identity = (known_passed w who).1 known
    each _ = refl
