-- The tests of the policy ask what the model asks.
use Rattle.std.proofs.Common.{◌≡◌, ◌≢◌, ◌⊎◌, inl, inr, ℕ, ◌==◌, ◌&&◌, Bool, true, false, not, List, [], ◌∷◌, Option, Some, None, refl, ap, ◌∙◌}
use Rattle.std.specs.Prelude.{option_and_then, if◌then◌else◌}
use Rattle.std.specs.List.{find}
use Rattle.std.proofs.lemmas.Bool.{and_parts, eq-eqb, eqb-false, eqb-true, ne_eqb, not-true}
use Rattle.bank_policy.specs.Execution.{Certified, Held}
use Rattle.bank_policy.specs.HeldRows.{relations_of, standing, triples_of}
use Rattle.bank_policy.specs.Tests.{current, is_certified, is_held}
use Rattle.bank_policy.specs.declared.rows.Standing.{Standing}
use Rattle.bank_terms.specs.declared.rule.Rule.{Rule}
use Rattle.bank_terms.specs.declared.rule.Rule.TheVariants as rule
use Rattle.bank_policy.proofs.RowsTell.{certified_by_rows, held_by_rows}
use Rattle.bank_policy.proofs.Tested.{certified_tested, certified_of_test, held_by_some, held_up_to, some_holds, up_to_holds}
use Rattle.bank_books.specs.WorldLists.{WorldLists}
use Rattle.counter_ops.specs.Op.{procedure_of}
use Rattle.counter_ops.specs.Touched.{amount, touched}
use Rattle.bank_meaning.specs.Laws.{AllowedExactlyWhenHeld, IdentityIsJudged, InLimit, InLimitOrReleased, IsIdentified, MayOpen, PolicyIsJudged, Released}
use Rattle.bank_meaning.specs.NamedRelease.{is_active}
use Rattle.bank_meaning.specs.PolicyRules.{asker, grounds, is_identified, is_in_limit, is_released, leave_of, policy_denies}
use Rattle.bank_meaning.specs.Requests.{denies, executes}
use Rattle.bank_meaning.specs.Sessions.{standing_of_asker}
use Rattle.bank_meaning.specs.declared.execution.Execution.{Execution}
use Rattle.bank_meaning.specs.declared.leave.Authorization.TheVariants as leave
use Rattle.bank_meaning.proofs.AllowedRequest.{allowed_by_books}
use Rattle.bank_meaning.proofs.CountingRelease.{released_by_grounds}
use Rattle.bank_meaning.proofs.SlipFirst.{has_room, not_another, slip_passes, slip_tested, slip_of_test}
use Rattle.bank_meaning.proofs.PolicyLemmas.{books_decide}
use Rattle.bank_meaning.specs.declared.who.Who.{Who}
use Rattle.bank_meaning.proofs.FirstRule.{none_denies}

-- a test that does not deny exactly where the other one passes
passed : (b : Bool) {P : Type 0} → (b ≡ true → P) → (P → b ≡ true) → (not b ≡ false → P) × (P → not b ≡ false)
passed true stated tested = (λ is. stated refl, λ holds. refl)
passed false stated tested = (λ is. absurd cc, λ holds. let yes = tested holds in absurd cc)

-- ---- who asks

-- the parts of the test of identity
stated_row : (row : Standing) (session : ℕ) → (not (session == 0) && (not row.suspended && (row.on && row.session == session))) ≡ true
    → (row.suspended ≡ false) × (row.on ≡ true) × (row.session ≡ session) × (session ≢ 0)
stated_row row session is =
    let first = and_parts (not (session == 0)) (not row.suspended && (row.on && row.session == session)) is in
    let second = and_parts (not row.suspended) (row.on && row.session == session) first.1 in
    let third = and_parts row.on (row.session == session) second.1 in
    (not-true row.suspended second.0, third.0, eqb-true row.session session third.1, eqb-false session 0 (not-true (session == 0) first.0))

tested_row : (row : Standing) (session : ℕ) → row.suspended ≡ false → row.on ≡ true → row.session ≡ session → session ≢ 0
    → (not (session == 0) && (not row.suspended && (row.on && row.session == session))) ≡ true
tested_row row session active on present given =
    ap (λ b. not b && (not row.suspended && (row.on && row.session == session))) (ne_eqb session 0 given)
    ∙ ap (λ b. not b && (row.on && row.session == session)) active
    ∙ ap (λ b. b && row.session == session) on
    ∙ eq-eqb row.session session present

stated_standing : (w : WorldLists) (user session release slip : ℕ) (o : Option Standing) → standing w.policy user ≡ o → is_identified o session ≡ true
    → IsIdentified w (record { user = Some user; session = session; release = release; slip = slip })
stated_standing w user session release slip None at is = absurd cc
stated_standing w user session release slip (Some row) at is =
    let stated = stated_row row session is in
    record { user = user; row = row; named = refl; there = at; active = stated.0; on = stated.1; present = stated.2; given = stated.3 }

stated_user : (w : WorldLists) (user : Option ℕ) (session release slip : ℕ) → is_identified (option_and_then (λ u. standing w.policy u) user) session ≡ true → IsIdentified w (record { user = user; session = session; release = release; slip = slip })
stated_user w None session release slip is = absurd cc
stated_user w (Some user) session release slip is = stated_standing w user session release slip (standing w.policy user) refl is

tested_user : (w : WorldLists) (who : Who) → IsIdentified w who → is_identified (option_and_then (λ u. standing w.policy u) who.user) who.session ≡ true
tested_user w who known =
    ap (λ o. is_identified (option_and_then (λ u. standing w.policy u) o) who.session) known.named
    ∙ ap (λ o. is_identified o who.session) known.there
    ∙ tested_row known.row who.session known.active known.on known.present known.given

identified_passed : (w : WorldLists) (q : Execution) → (denies rule.Identity w (executes q) ≡ false → IsIdentified w q.who) × (IsIdentified w q.who → denies rule.Identity w (executes q) ≡ false)
identified_passed w q = passed (is_identified (grounds w q).standing q.who.session) (stated_user w q.who.user q.who.session q.who.release q.who.slip) (tested_user w q.who)

pub known_passed : (w : WorldLists) (who : Who) → (not (is_identified (standing_of_asker who w) who.session) ≡ false → IsIdentified w who) × (IsIdentified w who → not (is_identified (standing_of_asker who w) who.session) ≡ false)
known_passed w who = passed (is_identified (standing_of_asker who w) who.session) (stated_user w who.user who.session who.release who.slip) (tested_user w who)

stated_active : (w : WorldLists) (user : ℕ) (o : Option Standing) → standing w.policy user ≡ o → is_active o ≡ true → MayOpen w (Some user)
stated_active w user None at is = absurd cc
stated_active w user (Some row) at is = record { user = user; row = row; named = refl; there = at; active = not-true row.suspended is }

stated_opening : (w : WorldLists) (user : Option ℕ) → is_active (option_and_then (λ u. standing w.policy u) user) ≡ true → MayOpen w user
stated_opening w None is = absurd cc
stated_opening w (Some user) is = stated_active w user (standing w.policy user) refl is

tested_opening : (w : WorldLists) (user : Option ℕ) → MayOpen w user → is_active (option_and_then (λ u. standing w.policy u) user) ≡ true
tested_opening w user may =
    ap (λ o. is_active (option_and_then (λ u. standing w.policy u) o)) may.named
    ∙ ap is_active may.there
    ∙ ap not may.active

pub identity_is_judged : IdentityIsJudged
identity_is_judged w = record {
  command = λ command who. known_passed w who;
  ending = λ who. known_passed w who;
  opening = λ user. passed (is_active (option_and_then (λ u. standing w.policy u) user)) (stated_opening w user) (tested_opening w user);
}

-- ---- the relations and the triples

certified_passed : (w : WorldLists) (q : Execution) → (denies rule.NotCertified w (executes q) ≡ false → Certified w.policy (procedure_of q.op) (touched q.op)) × (Certified w.policy (procedure_of q.op) (touched q.op) → denies rule.NotCertified w (executes q) ≡ false)
certified_passed w q =
    let rows = relations_of w.policy (procedure_of q.op) in
    let law = certified_by_rows w.policy (procedure_of q.op) (touched q.op) in
    passed (is_certified rows (touched q.op)) (λ is. law.1 (certified_of_test rows (touched q.op) is)) (λ holds. certified_tested rows (touched q.op) (law.0 holds))

held_passed : (w : WorldLists) (q : Execution) →
    (denies rule.NoTriple w (executes q) ≡ false → (limit : ℕ) × Held w.policy (asker q.who) (procedure_of q.op) (touched q.op) limit q.moment)
    × ((limit : ℕ) × Held w.policy (asker q.who) (procedure_of q.op) (touched q.op) limit q.moment → denies rule.NoTriple w (executes q) ≡ false)
held_passed w q =
    let rows = current q.moment (triples_of w.policy (asker q.who) (procedure_of q.op)) in
    passed (is_held rows (touched q.op))
    (λ is. let some = held_by_some rows (touched q.op) is in (some.0, (held_by_rows w.policy (asker q.who) (procedure_of q.op) (touched q.op) some.0 q.moment).1 some.1))
    (λ some. some_holds rows (touched q.op) some.0 ((held_by_rows w.policy (asker q.who) (procedure_of q.op) (touched q.op) some.0 q.moment).0 some.1))

-- some one triple reaches the amount
in_limit_passed : (w : WorldLists) (q : Execution) → (is_in_limit (grounds w q) ≡ true → InLimit w (asker q.who) q.op q.moment) × (InLimit w (asker q.who) q.op q.moment → is_in_limit (grounds w q) ≡ true)
in_limit_passed w q =
    let rows = current q.moment (triples_of w.policy (asker q.who) (procedure_of q.op)) in (
      λ is. let some = held_up_to rows (touched q.op) (amount q.op) is in (some.0, ((held_by_rows w.policy (asker q.who) (procedure_of q.op) (touched q.op) some.0 q.moment).1 some.1.0, some.1.1)),
      λ some. up_to_holds rows (touched q.op) some.0 (amount q.op) ((held_by_rows w.policy (asker q.who) (procedure_of q.op) (touched q.op) some.0 q.moment).0 some.1.0) some.1.1,
    )

-- of two tests that let pass, one of them does
one_passes : (enough named : Bool) {P Q : Type 0} → (enough ≡ true → P) → (named ≡ false → Q) → (not enough && named) ≡ false → P ⊎ Q
one_passes true named reaches none is = inl (reaches refl)
one_passes false true reaches none is = absurd cc
one_passes false false reaches none is = inr (none refl)

enough_passes : (enough rest : Bool) → enough ≡ true → (not enough && rest) ≡ false
enough_passes true rest is = refl
enough_passes false rest is = absurd cc

rest_passes : (enough rest : Bool) → rest ≡ false → (not enough && rest) ≡ false
rest_passes true rest is = refl
rest_passes false rest is = is

limit_passed : (w : WorldLists) (q : Execution) →
    (denies rule.Limit w (executes q) ≡ false → InLimit w (asker q.who) q.op q.moment ⊎ (q.who.release ≢ 0))
    × (InLimit w (asker q.who) q.op q.moment ⊎ (q.who.release ≢ 0) → denies rule.Limit w (executes q) ≡ false)
limit_passed w q =
    let enough : Bool = is_in_limit (grounds w q) in (
      λ is. one_passes enough (q.who.release == 0) (in_limit_passed w q).0 (λ none. eqb-false q.who.release 0 none) is,
      λ either. elim either [
        | inl holds ↦ enough_passes enough (q.who.release == 0) ((in_limit_passed w q).1 holds)
        | inr named ↦ rest_passes enough (q.who.release == 0) (ne_eqb q.who.release 0 named)
      ],
    )

-- a release that is named is valid, or none is named
one_counts : (none counts : Bool) {P Q : Type 0} → (none ≡ true → P) → (counts ≡ true → Q) → (not none && not counts) ≡ false → P ⊎ Q
one_counts true counts unnamed tells is = inl (unnamed refl)
one_counts false true unnamed tells is = inr (tells refl)
one_counts false false unnamed tells is = absurd cc

none_passes : (none counts : Bool) → none ≡ true → (not none && not counts) ≡ false
none_passes true counts is = refl
none_passes false counts is = absurd cc

counting_passes : (none counts : Bool) → counts ≡ true → (not none && not counts) ≡ false
counting_passes true counts is = refl
counting_passes false true is = refl
counting_passes false false is = absurd cc

release_passed : (w : WorldLists) (q : Execution) →
    (denies rule.Release w (executes q) ≡ false → InLimit w (asker q.who) q.op q.moment ⊎ ((q.who.release ≡ 0) ⊎ Released w (asker q.who) q.who.release q.op q.moment))
    × (InLimit w (asker q.who) q.op q.moment ⊎ ((q.who.release ≡ 0) ⊎ Released w (asker q.who) q.who.release q.op q.moment) → denies rule.Release w (executes q) ≡ false)
release_passed w q =
    let enough : Bool = is_in_limit (grounds w q) in
    let counts : Bool = is_released (grounds w q) in
    let none : Bool = q.who.release == 0 in
    let law = released_by_grounds w (asker q.who) q.who.release q.op q.moment in (
      λ is. one_passes enough (not none && not counts) (in_limit_passed w q).0 (λ rest. one_counts none counts (λ zero. eqb-true q.who.release 0 zero) law.0 rest) is,
      λ any. elim any [
        | inl holds ↦ enough_passes enough (not none && not counts) ((in_limit_passed w q).1 holds)
        | inr rest ↦ rest_passes enough (not none && not counts) (elim rest [
          | inl zero ↦ none_passes none counts (eq-eqb q.who.release 0 zero)
          | inr released ↦ counting_passes none counts (law.1 released)
        ])
      ],
    )

pub policy_is_judged : PolicyIsJudged
policy_is_judged w q = record { identified = identified_passed w q; certified = certified_passed w q; held = held_passed w q; in_limit = limit_passed w q; released = release_passed w q }

-- ---- and all rules together

pub none_found : {X : Type 0} (p : X → Bool) (xs : List X) → ((x : X) → p x ≡ false) → find p xs ≡ None
none_found p [] fails = refl
none_found p (x ∷ xs) fails = ap (λ b. if b then Some x else find p xs) (fails x) ∙ none_found p xs fails

-- each rule of the policy passes, where these do of the limit and of the release
policy_passes : (w : WorldLists) (q : Execution) → IsIdentified w q.who → Certified w.policy (procedure_of q.op) (touched q.op)
    → (limit : ℕ) × Held w.policy (asker q.who) (procedure_of q.op) (touched q.op) limit q.moment → denies rule.Limit w (executes q) ≡ false → denies rule.Release w (executes q) ≡ false
    → (r : Rule) → policy_denies r (grounds w q) ≡ false
policy_passes w q known certified held limit release rule.Identity = (identified_passed w q).1 known
policy_passes w q known certified held limit release rule.NotCertified = (certified_passed w q).1 certified
policy_passes w q known certified held limit release rule.NoTriple = (held_passed w q).1 held
policy_passes w q known certified held limit release rule.Limit = limit
policy_passes w q known certified held limit release rule.Release = release
policy_passes w q known certified held limit release _ = refl

-- the limit and the release together
stated_either : (w : WorldLists) (q : Execution) → (limit : ℕ) × Held w.policy (asker q.who) (procedure_of q.op) (touched q.op) limit q.moment
    → InLimit w (asker q.who) q.op q.moment ⊎ (q.who.release ≢ 0) → InLimit w (asker q.who) q.op q.moment ⊎ ((q.who.release ≡ 0) ⊎ Released w (asker q.who) q.who.release q.op q.moment) → InLimitOrReleased w q
stated_either w q held (inl in_limit) released = inl in_limit
stated_either w q held (inr named) (inl in_limit) = inl in_limit
stated_either w q held (inr named) (inr (inl none)) = absurd (named none)
stated_either w q held (inr named) (inr (inr released)) = inr (held, record { named = named; counts = released })

held_either : (w : WorldLists) (q : Execution) → InLimitOrReleased w q → (limit : ℕ) × Held w.policy (asker q.who) (procedure_of q.op) (touched q.op) limit q.moment
held_either w q (inl in_limit) = (in_limit.0, in_limit.1.0)
held_either w q (inr released) = released.0

limit_either : (w : WorldLists) (q : Execution) → InLimitOrReleased w q → denies rule.Limit w (executes q) ≡ false
limit_either w q (inl in_limit) = (limit_passed w q).1 (inl in_limit)
limit_either w q (inr released) = (limit_passed w q).1 (inr released.1.named)

release_either : (w : WorldLists) (q : Execution) → InLimitOrReleased w q → denies rule.Release w (executes q) ≡ false
release_either w q (inl in_limit) = (release_passed w q).1 (inl in_limit)
release_either w q (inr released) = (release_passed w q).1 (inr (inr released.1.counts))

pub allowed_exactly_when_held : AllowedExactlyWhenHeld
allowed_exactly_when_held w q = (
  λ is.
      let each : (r : Rule) → denies r w (executes q) ≡ false = λ r. none_denies w (executes q) r is in (
        (identified_passed w q).0 (each rule.Identity),
        (certified_passed w q).0 (each rule.NotCertified),
        stated_either w q ((held_passed w q).0 (each rule.NoTriple)) ((limit_passed w q).0 (each rule.Limit)) ((release_passed w q).0 (each rule.Release)),
        allowed_by_books w q is,
        slip_of_test w q (not_another w q is) (has_room w q is),
      ),
  λ says.
      (let parts = slip_tested w q says.4 in slip_passes w q parts.0 parts.1)
      ∙ books_decide w q (none_found (λ r. policy_denies r (grounds w q)) (rule.Identity ∷ rule.NotCertified ∷ rule.NoTriple ∷ rule.Limit ∷ rule.Release ∷ [])
      (policy_passes w q says.0 says.1 (held_either w q says.2) (limit_either w q says.2) (release_either w q says.2)))
      ∙ says.3,
)

-- what lets an operation be: a triple where one reaches the amount
pub leave_in_limit : (w : WorldLists) (q : Execution) → InLimit w (asker q.who) q.op q.moment → leave_of (grounds w q) ≡ leave.Triple
leave_in_limit w q holds = ap (λ (b : Bool). if b then leave.Triple else leave.Release q.who.release) ((in_limit_passed w q).1 holds)

-- and else the release
pub leave_past_limit : (w : WorldLists) (q : Execution) → ¬ InLimit w (asker q.who) q.op q.moment → leave_of (grounds w q) ≡ leave.Release q.who.release
leave_past_limit w q past = go (is_in_limit (grounds w q)) (in_limit_passed w q).0
  where
    go : (b : Bool) → (b ≡ true → InLimit w (asker q.who) q.op q.moment) → (if b then leave.Triple else leave.Release q.who.release) ≡ leave.Release q.who.release
    go true tells = absurd (past (tells refl))
    go false tells = refl
