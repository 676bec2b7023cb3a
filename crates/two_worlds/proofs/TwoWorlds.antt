-- The law of two Worlds.
use Rattle.std.proofs.Common.{◌≡◌, ◌≢◌, ℕ, ◌<◌, ◌≤◌, ◌^◌, List, [], ◌∷◌, ◌++◌, Bool, true, false, not, cond, refl, ap, ap₂, arith, sym, subst, ◌∙◌, ◌==◌, ◌&&◌, ◌||◌, Option, Some, None, Contains}
use Rattle.std.specs.Prelude.{if◌then◌else◌, option_map, All}
use Rattle.std.specs.List.{find, list_any}
use Rattle.std.specs.Option.{option_map_or}
use Rattle.std.proofs.lemmas.Bool.{eqb-false, and_parts, eqb-true, false≢true, not-false, or_parts}
use Rattle.std.proofs.lemmas.List.Elements.{All-contains, Contains-get_or}
use Rattle.bank_terms.specs.Limits.{max_releases}
use Rattle.bank_terms.specs.declared.item.Cdi.{Cdi}
use Rattle.bank_terms.specs.declared.item.Kind.{Kind}
use Rattle.bank_terms.specs.declared.item.Kind.TheVariants as kind
use Rattle.bank_terms.specs.declared.rule.Rule.{Rule}
use Rattle.bank_terms.specs.declared.rule.Rule.TheVariants as rule
use Rattle.bank_policy.specs.Tests.{current}
use Rattle.bank_policy.specs.HeldRows.{relations_of, triples_of, user_row}
use Rattle.bank_policy.specs.Policy.{PolicyLists}
use Rattle.bank_terms.specs.declared.procedure.Procedure.TheVariants as procedure
use Rattle.counter_ops.specs.Op.{procedure_of}
use Rattle.bank_books.specs.Books.{Books}
use Rattle.bank_books.specs.Keys.{release_key, release_number}
use Rattle.bank_books.specs.Effects.{used_up, all_written}
use Rattle.bank_books.specs.SlipRow.{SlipRow}
use Rattle.bank_books.specs.WorldLists.{WorldLists}
use Rattle.bank_books.specs.declared.row_write.RowWrite.{RowWrite}
use Rattle.bank_books.specs.declared.row_write.RowWrite.TheVariants as write
use Rattle.bank_books.specs.declared.rows.Release.{Release}
use Rattle.bank_books.specs.declared.signature.Signature.{Signature}
use Rattle.rule_tests.proofs.RuleTests.{passed_by}
use Rattle.keyed_rows.proofs.Rows.{find-found}
use Rattle.counter_ops.specs.Operations.{IsOp}
use Rattle.row_members.specs.Ranges.{IsKey}
use Rattle.counter_ops.specs.declared.op.Op.{Op}
use Rattle.counter_ops.specs.declared.op.Op.TheVariants as op
use Rattle.world_reads.specs.BookReads.{is_account_of, is_release, release}
use Rattle.counter_ops.specs.Touched.{account_item, touched}
use Rattle.bank_meaning.specs.Executions.{execution_meaning, is_of_policy, signature_of}
use Rattle.bank_meaning.specs.LastWord as Said
use Rattle.bank_meaning.specs.Meaning.{Meaning, rules_after_policy, by_books}
use Rattle.bank_meaning.specs.NamedRelease.{counts, release_grounds_of}
use Rattle.bank_meaning.specs.Operations.{form_of, meaning_of}
use Rattle.bank_meaning.specs.PolicyRules.{asker, grounds, is_identified, is_in_limit, is_released, leave_of, used_by}
use Rattle.bank_meaning.specs.Order.{IsInOrder}
use Rattle.bank_meaning.specs.Requests.{denies, effect, executes, first, repeated, reply_text, rules}
use Rattle.bank_meaning.specs.Run.{if_allowed, step, stated, repeated_reply, unless_repeated}
use Rattle.bank_meaning.specs.Slips.{kept_reply, slip_grounds, slip_named, slip_of, taken_by}
use Rattle.bank_meaning.specs.Sums.{PassesChecks}
use Rattle.bank_meaning.specs.declared.execution.Execution.{Execution}
use Rattle.bank_meaning.specs.declared.leave.Authorization.{Authorization}
use Rattle.bank_meaning.specs.declared.leave.Authorization.TheVariants as leave
use Rattle.bank_meaning.specs.declared.request.Asked.{Asked}
use Rattle.bank_meaning.specs.declared.request.Asked.TheVariants as asked
use Rattle.bank_meaning.proofs.AllowedRequest.{allowed_by_books}
use Rattle.bank_meaning.proofs.FirstRule.{none_denies}
use Rattle.bank_meaning.proofs.KeptOrder.{in_order_all_written}
use Rattle.bank_meaning.proofs.LastWord.{last_word}
use Rattle.bank_meaning.proofs.LastWordKept.{operation_kept}
use Rattle.bank_meaning.proofs.BookChanges.{IsPolicyKept, kept_itself}
use Rattle.two_worlds.specs.Agree.{AgreeOnGiver, Agree, AgreeByForm, AgreeOnPolicy, AgreeOnSlip, AgreeOnSlipCount, releases_given}
use Rattle.two_worlds.specs.Laws.{AgreeingAnswerAlike, BlindlyDenied, IsNotGiven, IsOtherRelease, OnlyOperationsChangeItems, OthersAreLeftAlone, TwoWorlds, Undisturbed, is_blind, is_operation}
use Rattle.two_worlds.specs.View.{view_at, view_of}
use Rattle.two_worlds.proofs.DrawerSum.{have_drawers}
use Rattle.bank_meaning.specs.Form.{changed_by}
use Rattle.bank_meaning.proofs.BookChanges.{all_applied}
use Rattle.bank_meaning.proofs.Forms.{law_of}
use Rattle.two_worlds.proofs.LocalForms.{local_of}
use Rattle.two_worlds.proofs.Judged.{judged_alike, judgement_of}
use Rattle.two_worlds.proofs.PlanParts.{IsCarried}
use Rattle.two_worlds.proofs.Policy.{blind_same, leave_same, policy_same}
use Rattle.two_worlds.proofs.Releases.{all_given_after, plan_gives, plan_release, releases_after, use_leaves, uses}
use Rattle.two_worlds.proofs.Slips.{another_same, count_still, denied_is_none, made, other_count, other_slip, repeated_same, room_same, slip_still, stays_taken, taken_of, takes, unknown_is_none, used_and_taken}
use Rattle.two_worlds.proofs.Within.{AreAlike, AreWithin, IsSteady, plan_alike, plan_leaves, plan_steady}

-- ---- what a request makes of a World, as changes

-- those of its operation, and the use of a release and of a slip; none where it is a repeat or a rule denies it
abbrev plan_of : WorldLists → Execution → List RowWrite
plan_of w x = made w x (changed_by (form_of x.op) (signature_of x) w) []

abbrev uses_of : WorldLists → Execution → List RowWrite
uses_of w x = made w x (uses (leave_of (grounds w x)) (asker x.who) ++ takes x (reply_text w (executes x)).bytes) []

is_steady : (w : WorldLists) → PassesChecks w → IsSteady w
is_steady w bank = record { order = bank.in_order; drawers = have_drawers w bank.books }

-- what an operation that no rule denies changes is among what it touches
module _ (w : WorldLists) (x : Execution) (bank : PassesChecks w) (proper : IsOp x.op) where
  its_changes : first w (executes x) ≡ None → IsCarried (touched x.op) w.tellers (IsNotGiven w x.op) (changed_by (form_of x.op) (signature_of x) w)
  its_changes none = (local_of x.op).carried (signature_of x) w bank.books.in_range.keys.tellers proper (allowed_by_books w x none)

  step_is : step w (executes x) ≡ all_written (uses_of w x) (all_written (plan_of w x) w)
  step_is = go (repeated w (executes x)) (first w (executes x)) refl
    where
      bytes : List ℕ
      bytes = (reply_text w (executes x)).bytes

      go : (kept : Option (List ℕ)) (f : Option Rule) → first w (executes x) ≡ f
          → unless_repeated kept (if_allowed f (effect w (executes x)) w) w
          ≡ all_written (unless_repeated kept (if_allowed f (uses (leave_of (grounds w x)) (asker x.who) ++ takes x bytes) []) [])
          (all_written (unless_repeated kept (if_allowed f (changed_by (form_of x.op) (signature_of x) w) []) []) w)
      go None None none =
          ap (λ z. taken_by x bytes (used_by (leave_of (grounds w x)) (asker x.who) z))
          (ap (λ m. m.effect) ((law_of x.op).said (signature_of x) w)
          ∙ all_applied (changed_by (form_of x.op) (signature_of x) w) w ((law_of x.op).books_alone ((form_of x.op).rows (signature_of x) w) (signature_of x)))
          ∙ used_and_taken (leave_of (grounds w x)) (asker x.who) x bytes (all_written (changed_by (form_of x.op) (signature_of x) w) w)
      go None (Some r) denied = refl
      go (Some again) f is = refl

  plan_within : AreWithin (touched x.op) w.tellers (plan_of w x)
  plan_within = go (repeated w (executes x)) (first w (executes x)) refl
    where
      go : (kept : Option (List ℕ)) (f : Option Rule) → first w (executes x) ≡ f
          → AreWithin (touched x.op) w.tellers (unless_repeated kept (if_allowed f (changed_by (form_of x.op) (signature_of x) w) []) [])
      go None None none = (its_changes none).within
      go None (Some r) denied = tt
      go (Some again) f is = tt

uses_within : (items : List Cdi) (w : WorldLists) (x : Execution) (z : WorldLists) → AreWithin items z.tellers (uses_of w x)
uses_within items w x z = go (repeated w (executes x)) (first w (executes x)) (leave_of (grounds w x)) (slip_named x == 0)
  where
    row : SlipRow
    row = slip_of x (reply_text w (executes x)).bytes

    go : (kept : Option (List ℕ)) (f : Option Rule) (l : Authorization) (b : Bool)
        → AreWithin items z.tellers (unless_repeated kept (if_allowed f (uses l (asker x.who) ++ (if b then [] else write.Slip row ∷ [])) []) [])
    go None None leave.Triple true = tt
    go None None leave.Triple false = (tt, tt)
    go None None (leave.Release number) true = (tt, tt)
    go None None (leave.Release number) false = (tt, (tt, tt))
    go None (Some r) l b = tt
    go (Some again) f l b = tt

-- ---- two Worlds

pub all_from : {X : Type 0} (P : X → Type 0) (xs : List X) → ((x : X) → Contains xs x → P x) → All P xs
all_from P xs each k d within = each _ (Contains-get_or xs k d within)

module _ (w v : WorldLists) (x : Execution) (bank : PassesChecks w) (bank' : PassesChecks v) (proper : IsOp x.op) (agree : Agree w v x) where
  views : AreAlike (touched x.op) w v
  views item there = All-contains (λ item. view_of w item ≡ view_of v item) (touched x.op) item agree.views there

  judged : judgement_of x.op (signature_of x) w ≡ judgement_of x.op (signature_of x) v
  judged = judged_alike x.op (signature_of x) w v bank bank' views agree.policy.held agree.form

  -- beside its slip, and with it
  plainly_denied_alike : (r : Rule) → (execution_meaning w x).denies r ≡ (execution_meaning v x).denies r
  plainly_denied_alike r =
      ap₂ (λ a b. if is_of_policy r then a else b) (policy_same w v x bank.books bank'.books views agree.policy agree.release r) (ap (λ j. j.denies r) judged)

  denied_alike : (r : Rule) → denies r w (executes x) ≡ denies r v (executes x)
  denied_alike rule.Slip = another_same w v x agree.slip
  denied_alike rule.Full = ap₂ (λ a b. a || b) (room_same w v x agree.slip agree.slips) (plainly_denied_alike rule.Full)
  denied_alike r = plainly_denied_alike r

  first_alike : first w (executes x) ≡ first v (executes x)
  first_alike i = find (λ r. denied_alike r i) rules

  repeated_alike : repeated w (executes x) ≡ repeated v (executes x)
  repeated_alike = repeated_same w v x agree.policy agree.slip

  plan_same : plan_of w x ≡ plan_of v x
  plan_same i = unless_repeated (repeated_alike i) (if_allowed (first_alike i) (judged i).changes []) []

  uses_same : uses_of w x ≡ uses_of v x
  uses_same i = unless_repeated (repeated_alike i) (if_allowed (first_alike i) (uses (leave_same w v x agree.policy i) (asker x.who) ++ takes x (judged i).reply.bytes) []) []

  taken_same : taken_of w x ≡ taken_of v x
  taken_same i =
      unless_repeated (repeated_alike i) (if_allowed (first_alike i) (if slip_named x == 0 then None else Some (slip_of x (judged i).reply.bytes)) None) None

  -- the Worlds afterwards, by the changes of the first
  after_is : step v (executes x) ≡ all_written (uses_of w x) (all_written (plan_of w x) v)
  after_is = step_is v x bank' proper ∙ ap₂ (λ us cs. all_written us (all_written cs v)) (sym uses_same) (sym plan_same)

  -- what is the same before it is the same after it: the view of an item, a release, and how many a user was given
  view_after : (item : Cdi) → view_of w item ≡ view_of v item → view_of (step w (executes x)) item ≡ view_of (step v (executes x)) item
  view_after item same =
      ap (λ z. view_of z item) (step_is w x bank proper)
      ∙ plan_alike (touched x.op) (uses_of w x) (all_written (plan_of w x) w) (all_written (plan_of w x) v)
      (plan_steady (plan_of w x) w (is_steady w bank)) (plan_steady (plan_of w x) v (is_steady v bank')) (uses_within (touched x.op) w x (all_written (plan_of w x) w))
      (λ other there. planned other (views other there)) item (planned item same)
      ∙ sym (ap (λ z. view_of z item) after_is)
    where
      planned : (item : Cdi) → view_of w item ≡ view_of v item → view_of (all_written (plan_of w x) w) item ≡ view_of (all_written (plan_of w x) v) item
      planned = plan_alike (touched x.op) (plan_of w x) w v (is_steady w bank) (is_steady v bank') (plan_within w x bank proper) views

  release_after_is : (z : WorldLists) → IsInOrder z → (cs us : List RowWrite) (user number : ℕ)
      → release (all_written us (all_written cs z)) user number ≡ releases_after us user number (releases_after cs user number (release z user number))
  release_after_is z order cs us user number =
      plan_release us (all_written cs z) user number (in_order_all_written cs z order) ∙ ap (releases_after us user number) (plan_release cs z user number order)

  release_after : (user number : ℕ) → release w user number ≡ release v user number → release (step w (executes x)) user number ≡ release (step v (executes x)) user number
  release_after user number same =
      ap (λ z. release z user number) (step_is w x bank proper)
      ∙ release_after_is w bank.in_order (plan_of w x) (uses_of w x) user number
      ∙ ap (λ o. releases_after (uses_of w x) user number (releases_after (plan_of w x) user number o)) same
      ∙ sym (release_after_is v bank'.in_order (plan_of w x) (uses_of w x) user number)
      ∙ sym (ap (λ z. release z user number) after_is)

  given_after_is : (z : WorldLists) → AreWithin (touched x.op) z.tellers (plan_of w x) → (user : ℕ)
      → releases_given (all_written (uses_of w x) (all_written (plan_of w x) z)) user ≡ all_given_after (uses_of w x) user (all_given_after (plan_of w x) user (releases_given z user))
  given_after_is z within user =
      plan_gives (touched x.op) (uses_of w x) (all_written (plan_of w x) z) user (uses_within (touched x.op) w x (all_written (plan_of w x) z))
      ∙ ap (all_given_after (uses_of w x) user) (plan_gives (touched x.op) (plan_of w x) z user within)

  given_after : (user : ℕ) → releases_given w user ≡ releases_given v user → releases_given (step w (executes x)) user ≡ releases_given (step v (executes x)) user
  given_after user same =
      ap (λ z. releases_given z user) (step_is w x bank proper)
      ∙ given_after_is w (plan_within w x bank proper) user
      ∙ ap (λ o. all_given_after (uses_of w x) user (all_given_after (plan_of w x) user o)) same
      ∙ sym (given_after_is v (subst (AreWithin (touched x.op) v.tellers) (sym plan_same) (plan_within v x bank' proper)) user)
      ∙ sym (ap (λ z. releases_given z user) after_is)

-- ---- who gave the release that is named

no_release : (r : Release) → ◌≡◌ {A = Option Release} None (Some r) → ⊥
no_release r none = cc

one_release : (r s : Release) → ◌≡◌ {A = Option Release} (Some r) (Some s) → r ≡ s
one_release r s same = cc

-- who gave a release that is there stays
keeps_giver : (cs : List RowWrite) (user number : ℕ) (before : Release) → (r : Release) × (releases_after cs user number (Some before) ≡ Some r) × (r.giver ≡ before.giver)
keeps_giver [] user number before = (before, refl, refl)
keeps_giver (write.Used k ∷ cs) user number before =
    let rest = keeps_giver cs user number (if release_key before == release_number k.user k.number then used_up before else before) in
    (rest.0, rest.1, rest.2 ∙ same (release_key before == release_number k.user k.number))
  where
    same : (b : Bool) → (if b then used_up before else before).giver ≡ before.giver
    same true = refl
    same false = refl
keeps_giver (_ ∷ cs) user number before = keeps_giver cs user number before

-- where the rule on a second person does not deny
person_passes : (m : Meaning) → (by_books m).first ≡ None → m.denies rule.SecondPerson ≡ false
person_passes m none =
    let unknown = passed_by (m.denies rule.Unknown) _ _ none in
    let branch = passed_by (m.denies rule.Branch) _ _ unknown.1 in
    let drawer = passed_by (m.denies rule.Drawer) _ _ branch.1 in
    (passed_by (m.denies rule.SecondPerson) _ _ drawer.1).0

-- no one gives a release to themselves
not_to_himself : (o : Op) (by : Signature) (w : WorldLists) (number : ℕ) → (by_books (meaning_of o by w)).first ≡ None → IsNotGiven w o by.user number
not_to_himself (op.Release g) by w number none = λ himself. absurd (eqb-false g.beneficiary by.user (person_passes (meaning_of (op.Release g) by w) none) (sym himself))
not_to_himself _ by w number none = tt

-- ---- the rules that look at no item

not_among : {X : Type 0} (p q : X → Bool) (xs : List X) (x : X) → list_any q xs ≡ false → find p xs ≡ Some x → q x ≡ false
not_among p q [] x none is = absurd cc
not_among {X} p q (y ∷ ys) x none is = go (p y) is (not_among p q ys x (or_parts (q y) (list_any q ys) none).1)
  where
    go : (b : Bool) → cond b (Some y) (find p ys) ≡ Some x → (find p ys ≡ Some x → q x ≡ false) → q x ≡ false
    go true is rest = let same : y ≡ x = cc in subst (λ z. q z ≡ false) same (or_parts (q y) (list_any q ys) none).0
    go false is rest = rest is

abbrev pub by_blind : Bool → Bool → Bool → Bool → Bool → Option Rule → Option Rule
by_blind a s b c d rest = cond a (Some rule.Identity) (cond s (Some rule.Slip) (cond b (Some rule.NotCertified) (cond c (Some rule.NoTriple) (cond d (Some rule.Limit) rest))))

same_blind : (a s b c d : Bool) (rest rest' : Option Rule) (r : Rule) → ¬ (rest ≡ Some r) → by_blind a s b c d rest ≡ Some r → by_blind a s b c d rest' ≡ Some r
same_blind true s b c d rest rest' r not is = is
same_blind false true b c d rest rest' r not is = is
same_blind false false true c d rest rest' r not is = is
same_blind false false false true d rest rest' r not is = is
same_blind false false false false true rest rest' r not is = is
same_blind false false false false false rest rest' r not is = absurd (not is)

-- what is found after the rule on identity is another rule
not_identity : (s b c d : Bool) (rest : Option Rule) (r : Rule) → ¬ (rest ≡ Some r) → by_blind false s b c d rest ≡ Some r → r ≢ rule.Identity
not_identity true b c d rest r not is same = cc
not_identity false true c d rest r not is same = cc
not_identity false false true d rest r not is same = cc
not_identity false false false true rest r not is same = cc
not_identity false false false false rest r not is same = not is

module _ (w v : WorldLists) (x : Execution) (r : Rule) (agree : AgreeOnPolicy w v x) (slip_agrees : r ≢ rule.Identity → AgreeOnSlip w v x) (blind : is_blind r ≡ true) (is : first w (executes x) ≡ Some r) where
  abbrev tested : WorldLists → Rule → Bool
  tested z other = denies other z (executes x)

  abbrev rest : WorldLists → Option Rule
  rest z = find (tested z) (rule.Release ∷ rules_after_policy)

  not_after : ¬ (rest w ≡ Some r)
  not_after some = false≢true (sym (not_among (tested w) is_blind (rule.Release ∷ rules_after_policy) r refl some) ∙ blind)

  -- where the user who asks is not known, and where they are
  abbrev BlindlyFirst : Type 0
  BlindlyFirst = (first v (executes x) ≡ Some r) × (repeated w (executes x) ≡ None → repeated v (executes x) ≡ None)

  unknown : tested w rule.Identity ≡ true → BlindlyFirst
  unknown at =
      let at' = sym (blind_same w v x agree rule.Identity refl) ∙ at in
      let first_w : first w (executes x) ≡ Some rule.Identity =
      ap (λ a. by_blind a (tested w rule.Slip) (tested w rule.NotCertified) (tested w rule.NoTriple) (tested w rule.Limit) (rest w)) at in
      let first_v : first v (executes x) ≡ Some rule.Identity =
      ap (λ a. by_blind a (tested v rule.Slip) (tested v rule.NotCertified) (tested v rule.NoTriple) (tested v rule.Limit) (rest v)) at' in
      (first_v ∙ sym first_w ∙ is, λ none. unknown_is_none (is_identified (grounds v x).standing x.who.session) (kept_reply (slip_grounds v x)) at')

  known : tested w rule.Identity ≡ false → BlindlyFirst
  known at =
      let following : by_blind false (tested w rule.Slip) (tested w rule.NotCertified) (tested w rule.NoTriple) (tested w rule.Limit) (rest w) ≡ Some r =
      sym (ap (λ a. by_blind a (tested w rule.Slip) (tested w rule.NotCertified) (tested w rule.NoTriple) (tested w rule.Limit) (rest w)) at) ∙ is in
      let named = slip_agrees (not_identity (tested w rule.Slip) (tested w rule.NotCertified) (tested w rule.NoTriple) (tested w rule.Limit) (rest w) r not_after following) in
      let same = λ (other : Rule) (of : is_blind other ≡ true). sym (blind_same w v x agree other of) in
      let slip_same = sym (another_same w v x named) in
      let first_v : first v (executes x) ≡ Some r =
      (λ i. by_blind (same rule.Identity refl i) (slip_same i) (same rule.NotCertified refl i) (same rule.NoTriple refl i) (same rule.Limit refl i) (rest v))
      ∙ same_blind (tested w rule.Identity) (tested w rule.Slip) (tested w rule.NotCertified) (tested w rule.NoTriple) (tested w rule.Limit) (rest w) (rest v) r not_after is in
      (first_v, λ none. sym (repeated_same w v x agree named) ∙ none)

  pub blindly_first : BlindlyFirst
  blindly_first = go (tested w rule.Identity) refl
    where
      go : (b : Bool) → tested w rule.Identity ≡ b → BlindlyFirst
      go true at = unknown at
      go false at = known at

pub blindly_denied : BlindlyDenied
blindly_denied w v x r agree named blind is =
    let denied = denied_is_none (repeated w (executes x)) (first w (executes x)) (reply_text w (executes x)) r is in
    let there = blindly_first w v x r agree named blind denied.1 in
    ap₂ (λ kept f. repeated_reply kept (stated f (reply_text v (executes x)))) (there.1 denied.0) there.0

-- ---- one World

not_nothing : (n : ℕ) → IsKey n → n ≢ 0
not_nothing n key none = omega (arith, key.0)

fits_key : (n : ℕ) → n ≤ max_releases → n < 2 ^ 32
fits_key n low = omega arith

-- a release that is there
release_there : (w : WorldLists) (user number : ℕ) → Books w → (r : Release) → release w user number ≡ Some r → (r.user ≡ user) × (r.number ≡ number) × (number < 2 ^ 32)
release_there w user number books r is =
    let found = find-found (is_release user number) w.releases r is in
    let parts = and_parts (r.user == user) (r.number == number) found.1 in
    let of = eqb-true r.number number parts.1 in
    (eqb-true r.user user parts.0, of, subst (λ n. n < 2 ^ 32) of (fits_key r.number (books.in_range.releases r found.0).number.1))

-- the release that lets an operation be is there
used_fits : (w : WorldLists) (x : Execution) (used : ℕ) → Books w → first w (executes x) ≡ None → leave_of (grounds w x) ≡ leave.Release used → used < 2 ^ 32
used_fits w x used books none is =
    go (is_in_limit (grounds w x)) (x.who.release == 0) is (none_denies w (executes x) rule.Limit none) (none_denies w (executes x) rule.Release none)
  where
    there : (o : Option Release) → release w (asker x.who) x.who.release ≡ o
        → option_map_or (λ r. counts r (asker x.who) (grounds w x).operation (touched x.op) (grounds w x).amount) (option_map (release_grounds_of w x.moment) o) false ≡ true → x.who.release < 2 ^ 32
    there None at passes = absurd (false≢true passes)
    there (Some r) at passes = (release_there w (asker x.who) x.who.release books r at).2

    go : (enough named : Bool) → (if enough then leave.Triple else leave.Release x.who.release) ≡ leave.Release used → (not enough && named) ≡ false
        → (not enough && (not named && not (is_released (grounds w x)))) ≡ false → used < 2 ^ 32
    go true named at limit release = absurd cc
    go false true at limit release = absurd cc
    go false false at limit counted =
        let same : x.who.release ≡ used = cc in
        subst (λ n. n < 2 ^ 32) same (there (release w (asker x.who) x.who.release) refl (not-false (is_released (grounds w x)) counted))

module _ (w : WorldLists) (x : Execution) (bank : PassesChecks w) (proper : IsOp x.op) where
  views_left : (item : Cdi) → IsKey item.key → ¬ Contains (touched x.op) item → view_of (step w (executes x)) item ≡ view_of w item
  views_left item key not =
      ap (λ z. view_of z item) (step_is w x bank proper)
      ∙ plan_leaves (touched x.op) item (not_nothing item.key key) not (uses_of w x) (all_written (plan_of w x) w) (plan_steady (plan_of w x) w (is_steady w bank))
      (uses_within (touched x.op) w x (all_written (plan_of w x) w))
      ∙ plan_leaves (touched x.op) item (not_nothing item.key key) not (plan_of w x) w (is_steady w bank) (plan_within w x bank proper)

  pub policy_left : IsPolicyKept w (step w (executes x))
  policy_left = go (repeated w (executes x)) (first w (executes x))
    where
      go : (kept : Option (List ℕ)) (f : Option Rule) → IsPolicyKept w (unless_repeated kept (if_allowed f (effect w (executes x)) w) w)
      go None None = operation_kept w x
      go None (Some r) = kept_itself w
      go (Some again) f = kept_itself w

  plan_leaves_release : (user number : ℕ) → IsOtherRelease w x user number → (o : Option Release) → releases_after (plan_of w x) user number o ≡ o
  plan_leaves_release user number other o = go (repeated w (executes x)) (first w (executes x)) refl
    where
      go : (kept : Option (List ℕ)) (f : Option Rule) → first w (executes x) ≡ f
          → releases_after (unless_repeated kept (if_allowed f (changed_by (form_of x.op) (signature_of x) w) []) []) user number o ≡ o
      go None None none = (its_changes w x bank proper none).releases user number other.not_given o
      go None (Some r) denied = refl
      go (Some again) f is = refl

  uses_leave_release : (user number : ℕ) → IsOtherRelease w x user number → releases_after (uses_of w x) user number (release w user number) ≡ release w user number
  uses_leave_release user number other = go (repeated w (executes x)) (first w (executes x)) refl (leave_of (grounds w x)) refl (slip_named x == 0)
    where
      row : SlipRow
      row = slip_of x (reply_text w (executes x)).bytes

      used_alone : (used : ℕ) → first w (executes x) ≡ None → leave_of (grounds w x) ≡ leave.Release used
          → releases_after (uses (leave.Release used) (asker x.who)) user number (release w user number) ≡ release w user number
      used_alone used none is =
          use_leaves (asker x.who) used user number (release w user number) (used_fits w x used bank.books none is) (release_there w user number bank.books)
          (λ same. other.unused (is ∙ ap leave.Release (sym same)))

      go : (kept : Option (List ℕ)) (f : Option Rule) → first w (executes x) ≡ f → (l : Authorization) → leave_of (grounds w x) ≡ l → (b : Bool)
          → releases_after (unless_repeated kept (if_allowed f (uses l (asker x.who) ++ (if b then [] else write.Slip row ∷ [])) []) []) user number (release w user number)
          ≡ release w user number
      go (Some again) f denied l is b = refl
      go None (Some r) denied l is b = refl
      go None None none leave.Triple is true = refl
      go None None none leave.Triple is false = refl
      go None None none (leave.Release used) is true = used_alone used none is
      go None None none (leave.Release used) is false = used_alone used none is

  releases_left : (user number : ℕ) → IsOtherRelease w x user number → release (step w (executes x)) user number ≡ release w user number
  releases_left user number other =
      ap (λ z. release z user number) (step_is w x bank proper)
      ∙ plan_release (uses_of w x) (all_written (plan_of w x) w) user number (in_order_all_written (plan_of w x) w bank.in_order)
      ∙ ap (releases_after (uses_of w x) user number) (plan_release (plan_of w x) w user number bank.in_order ∙ plan_leaves_release user number other (release w user number))
      ∙ uses_leave_release user number other

pub others_are_left_alone : OthersAreLeftAlone
others_are_left_alone w x bank proper = record {
  views = views_left w x bank proper;
  policy = (policy_left w x bank proper).policy;
  version = (policy_left w x bank proper).version;
  releases = releases_left w x bank proper;
  slips = other_slip w x bank.in_order.books.slips;
  taken = stays_taken w x bank.in_order.books.slips;
  slip_counts = other_count w x bank.in_order.books.slips;
}

-- ---- two Worlds that agree for an operation of a user agree after it for each of theirs for which they agreed before

module _ (w v : WorldLists) (x : Execution) (bank : PassesChecks w) (bank' : PassesChecks v) (proper : IsOp x.op) (agree : Agree w v x) where
  -- who gave a release of this user had given it before
  giver_before : (user number : ℕ) → user ≡ asker x.who → (r : Release) → release (step w (executes x)) user number ≡ Some r
      → (before : Release) × (release w user number ≡ Some before) × (r.giver ≡ before.giver)
  giver_before user number by r is =
      go (release w user number) refl
      (sym (ap (λ z. release z user number) (step_is w x bank proper) ∙ release_after_is w v x bank bank' proper agree w bank.in_order (plan_of w x) (uses_of w x) user number) ∙ is)
    where
      none_given : (kept : Option (List ℕ)) (f : Option Rule) → first w (executes x) ≡ f
          → releases_after (unless_repeated kept (if_allowed f (changed_by (form_of x.op) (signature_of x) w) []) []) user number None ≡ None
      none_given None None none =
          (its_changes w x bank proper none).releases user number
          (subst (λ u. IsNotGiven w x.op u number) (sym by) (not_to_himself x.op (signature_of x) w number (allowed_by_books w x none))) None
      none_given None (Some rule) denied = refl
      none_given (Some again) f is = refl

      row : SlipRow
      row = slip_of x (reply_text w (executes x)).bytes

      none_used : (kept : Option (List ℕ)) (f : Option Rule) (l : Authorization) (b : Bool)
          → releases_after (unless_repeated kept (if_allowed f (uses l (asker x.who) ++ (if b then [] else write.Slip row ∷ [])) []) []) user number None ≡ None
      none_used None None leave.Triple true = refl
      none_used None None leave.Triple false = refl
      none_used None None (leave.Release used) true = refl
      none_used None None (leave.Release used) false = refl
      none_used None (Some rule) l b = refl
      none_used (Some again) f l b = refl

      go : (o : Option Release) → release w user number ≡ o → releases_after (uses_of w x) user number (releases_after (plan_of w x) user number o) ≡ Some r
          → (before : Release) × (release w user number ≡ Some before) × (r.giver ≡ before.giver)
      go None at after =
          absurd (no_release r (sym (ap (releases_after (uses_of w x) user number) (none_given (repeated w (executes x)) (first w (executes x)) refl)
          ∙ none_used (repeated w (executes x)) (first w (executes x)) (leave_of (grounds w x)) (slip_named x == 0)) ∙ after))
      go (Some before) at after =
          let planned = keeps_giver (plan_of w x) user number before in
          let used = keeps_giver (uses_of w x) user number planned.0 in
          (before, at, ap (λ (z : Release). z.giver) (one_release r used.0 (sym after ∙ ap (releases_after (uses_of w x) user number) planned.1 ∙ used.1)) ∙ used.2 ∙ planned.2)

  form_after : (o : Op) (user moment : ℕ) → AgreeByForm w v user moment o → AgreeByForm (step w (executes x)) (step v (executes x)) user moment o
  form_after (op.Accounts a) user moment same = λ key of.
      view_after w v x bank bank' proper agree (account_item key)
      (same key (ap (λ p. is_account_of (current moment (triples_of p user procedure.Accounts)) key) (sym (policy_left w x bank proper).policy) ∙ of))
  form_after (op.Release g) user moment same = given_after w v x bank bank' proper agree g.beneficiary same
  form_after _ user moment same = tt

  -- what they agree on of a slip, and of how many a user has, they do afterwards
  pub slip_agrees : (y : Execution) → AgreeOnSlip w v y → AgreeOnSlip (step w (executes x)) (step v (executes x)) y
  slip_agrees y other =
      λ names. slip_still w v x bank.in_order.books.slips bank'.in_order.books.slips (taken_same w v x bank bank' proper agree) (asker y.who) (slip_named y) (other names)

  slip_count_agrees : (y : Execution) → AgreeOnSlipCount w v y → AgreeOnSlipCount (step w (executes x)) (step v (executes x)) y
  slip_count_agrees y other =
      λ names. count_still w v x bank.in_order.books.slips bank'.in_order.books.slips (taken_same w v x bank bank' proper agree) (asker y.who) (other names)

  pub agree_after : (y : Execution) → asker y.who ≡ asker x.who → Agree w v y → Agree (step w (executes x)) (step v (executes x)) y
  agree_after y by other =
      let kept = policy_left w x bank proper in
      let kept' = policy_left v x bank' proper in
      record {
        policy = record {
          user = ap (λ p. user_row p (asker y.who)) kept.policy ∙ other.policy.user ∙ sym (ap (λ p. user_row p (asker y.who)) kept'.policy);
          held =
              ap (λ p. triples_of p (asker y.who) (procedure_of y.op)) kept.policy ∙ other.policy.held
              ∙ sym (ap (λ p. triples_of p (asker y.who) (procedure_of y.op)) kept'.policy);
          relations = ap (λ p. relations_of p (procedure_of y.op)) kept.policy ∙ other.policy.relations ∙ sym (ap (λ p. relations_of p (procedure_of y.op)) kept'.policy);
        };
        release = record {
          row = release_after w v x bank bank' proper agree (asker y.who) y.who.release other.release.row;
          giver = λ r is.
              let before = giver_before (asker y.who) y.who.release by r is in
              let same = other.release.giver before.0 before.1 in
              subst (AgreeOnGiver (step w (executes x)) (step v (executes x))) (sym before.2) (record {
                user = ap (λ p. user_row p before.0.giver) kept.policy ∙ same.user ∙ sym (ap (λ p. user_row p before.0.giver) kept'.policy);
                held = ap (λ p. triples_of p before.0.giver procedure.Release) kept.policy ∙ same.held ∙ sym (ap (λ p. triples_of p before.0.giver procedure.Release) kept'.policy);
              });
        };
        slip = slip_agrees y other.slip;
        slips = slip_count_agrees y other.slips;
        views = all_from _ (touched y.op) (λ item there.
            view_after w v x bank bank' proper agree item (All-contains (λ item. view_of w item ≡ view_of v item) (touched y.op) item other.views there));
        form = form_after y.op (asker y.who) y.moment other.form;
      }

pub agreeing_answer_alike : AgreeingAnswerAlike
agreeing_answer_alike w v x bank bank' proper agree = record {
  reply = λ i. repeated_reply (repeated_alike w v x bank bank' proper agree i) (stated (first_alike w v x bank bank' proper agree i) (judged w v x bank bank' proper agree i).reply);
  agree = agree_after w v x bank bank' proper agree x refl agree;
}

-- ---- sessions and commands

books_alone : (k : Kind) (key : ℕ) (z : WorldLists) (p : PolicyLists) (n : ℕ) → view_at k key (record z { policy = p; version = n }) ≡ view_at k key z
books_alone kind.Account key z p n = refl
books_alone _ key z p n = refl

pub only_operations_change_items : OnlyOperationsChangeItems
only_operations_change_items w q item other = go q.asked other (last_word.1 w (record { request = q; mark = None }))
  where
    kept : record (step w q) { policy = w.policy; version = w.version } ≡ w → view_of (step w q) item ≡ view_of w item
    kept same = sym (books_alone item.kind item.key (step w q) w.policy w.version) ∙ ap (λ z. view_of z item) same

    go : (a : Asked) → is_operation a ≡ false → Said.LeavesAlone a w (step w q) → view_of (step w q) item ≡ view_of w item
    go (asked.Operation op) is alone = absurd (false≢true (sym is))
    go asked.Opening is alone = kept alone
    go asked.Ending is alone = kept alone
    go (asked.Command command) is alone = kept alone
    go asked.Listing is alone = kept alone

pub two_worlds : TwoWorlds
two_worlds = (agreeing_answer_alike, blindly_denied, others_are_left_alone, only_operations_change_items)

-- ---- operations on other items

pub undisturbed : Undisturbed
undisturbed w x y bank bank' proper proper' apart other slips form =
    let after = step w (executes y) in
    let policy = policy_left w y bank proper' in
    let agree : Agree w after x = record {
      policy = record {
        user = ap (λ p. user_row p (asker x.who)) (sym policy.policy);
        held = ap (λ p. triples_of p (asker x.who) (procedure_of x.op)) (sym policy.policy);
        relations = ap (λ p. relations_of p (procedure_of x.op)) (sym policy.policy);
      };
      release = record {
        row = sym (releases_left w y bank proper' (asker x.who) x.who.release other);
        giver = λ r there. record {
          user = ap (λ p. user_row p r.giver) (sym policy.policy);
          held = ap (λ p. triples_of p r.giver procedure.Release) (sym policy.policy);
        };
      };
      slip = λ names. sym (other_slip w y bank.in_order.books.slips (asker x.who) (slip_named x) (λ same. slips names (λ none. names (same ∙ none))));
      slips = λ names. sym (other_count w y bank.in_order.books.slips (asker x.who) (slips names));
      views = all_from (λ item. view_of w item ≡ view_of after item) (touched x.op) (λ item there.
          let one = All-contains (λ item. IsKey item.key × ¬ Contains (touched y.op) item) (touched x.op) item apart there in
          sym (views_left w y bank proper' item one.0 one.1));
      form = form;
    } in
    sym (agreeing_answer_alike w after x bank bank' proper agree).reply
