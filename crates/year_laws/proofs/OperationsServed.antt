-- One operation as a whole request at both banks: judged alike, answered alike, and after it the banks are alike.
use Rattle.std.proofs.Common.{◌≡◌, ◌⊎◌, ◌==◌, ◌||◌, ◌∙◌, ℕ, List, Bool, true, false, not, Option, Some, None, refl, ap, ap₂, sym, subst}
use Rattle.std.specs.Prelude.{is_some, option_and_then, if◌then◌else◌}
use Rattle.std.specs.Option.{option_map_or}
use Rattle.std.specs.List.{find}
use Rattle.bank_terms.specs.declared.rule.Rule.{Rule}
use Rattle.bank_policy.specs.HeldRows.{standing}
use Rattle.bank_books.specs.Records.{slip_count}
use Rattle.bank_books.specs.SlipRow.{SlipRow}
use Rattle.bank_books.specs.WorldLists.{WorldLists}
use Rattle.counter_ops.specs.Rows.{row_of}
use Rattle.counter_ops.specs.declared.op.Op.{Op}
use Rattle.world_reads.specs.BookReads.{is_slip, slip}
use Rattle.bank_meaning.specs.Executions.{books_meaning, execution_meaning, is_of_policy, signature_of}
use Rattle.bank_meaning.specs.Meaning.{json}
use Rattle.bank_meaning.specs.NamedRelease.{is_same_operation}
use Rattle.bank_meaning.specs.PolicyRules.{asker, grounds, is_identified, is_released, leave_of, used_by}
use Rattle.bank_meaning.specs.Requests.{denies, effect, executes, first, repeated, reply_text, rules}
use Rattle.bank_meaning.specs.Run.{if_allowed, reply, step, stated, repeated_reply, unless_repeated}
use Rattle.bank_meaning.specs.Slips.{has_no_room, is_of_another, slip_grounds, slip_named, slip_of}
use Rattle.bank_meaning.specs.declared.execution.Execution.{Execution}
use Rattle.bank_meaning.specs.declared.request.Request.{Request}
use Rattle.bank_meaning.specs.declared.who.Who.{Who}
use Rattle.bank_meaning.proofs.AllowedRequest.{allowed_by_books}
use Rattle.bank_meaning.proofs.CountingRelease.{same_of_test}
use Rattle.bank_meaning.proofs.KeptReplies.{plain_slips}
use Rattle.bank_meaning.proofs.LastWordKept.{plain_kept}
use Rattle.bank_meaning.proofs.SlipSteps.{no_repeat, not_another, out_after}
use Rattle.year_laws.specs.GoesOn.{AreBoth, Turn, op_at_old}
use Rattle.year_laws.specs.JudgedAlike.{NamesAnEntry, begins_anew}
use Rattle.year_laws.specs.RepliedAlike.{IsRepliedAlike}
use Rattle.year_laws.specs.RequestsAlike.{IsSameSlip, IsSlipAlike, ServeAlike}
use Rattle.year_laws.specs.RunAlike.{AreAnsweredAlike, PartThere}
use Rattle.year_laws.specs.StaysAlike.{StayAlike}
use Rattle.year_laws.proofs.AlikeReplies.{replied}
use Rattle.year_laws.proofs.AlikeTests.{judged}
use Rattle.year_laws.proofs.RowsAlike.{carried}
use Rattle.year_laws.proofs.RunAlike.{firsts}
use Rattle.year_laws.proofs.SameAsked.{policy_judges, same_leave}
use Rattle.year_laws.proofs.SameOperation.{kept_too, replied_too, same_operation}
use Rattle.year_laws.proofs.SlipsAlike.{same_number, taken_stays, with_slips_alike}
use Rattle.year_laws.proofs.StaysAlike.{books_stay_alike}
use Rattle.year_laws.proofs.UsedAlike.{used_stays}

-- ---- what is made of a request by the first rule against it

reply_is : (w : WorldLists) (q : Request) (f : Option Rule) → repeated w q ≡ None → first w q ≡ f → reply w q ≡ stated f (reply_text w q)
reply_is w q f fresh is = ap (λ o. repeated_reply o (stated (first w q) (reply_text w q))) fresh ∙ ap (λ r. stated r (reply_text w q)) is

step_is : (w : WorldLists) (q : Request) (f : Option Rule) → repeated w q ≡ None → first w q ≡ f → step w q ≡ if_allowed f (effect w q) w
step_is w q f fresh is = ap (λ o. unless_repeated o (if_allowed (first w q) (effect w q) w) w) fresh ∙ ap (λ r. if_allowed r (effect w q) w) is

module _ (t : Turn) (old new : WorldLists) (serve : ServeAlike t old new) (who : Who) (moment : ℕ) (x : Op) (names : NamesAnEntry x) where
  abbrev at_old : Execution
  at_old = record { who = who; moment = moment; op = op_at_old t x }

  abbrev at_new : Execution
  at_new = record { who = who; moment = moment; op = x }

  -- with a slip that its user has it changes nothing
  changes_nothing : (w : WorldLists) (y : Execution) (s : SlipRow) → (slip_grounds w y).found ≡ Some s → step w (executes y) ≡ w
  changes_nothing w y s has = out_after w (record { request = executes y; mark = None }) (ap (λ b. b || has_no_room (slip_grounds w y)) (ap is_some has))

  pub old_stays : (s : SlipRow) → (slip_grounds old at_old).found ≡ Some s → step old (executes at_old) ≡ old
  old_stays s has = changes_nothing old at_old s has

  pub new_stays : (s : SlipRow) → (slip_grounds new at_new).found ≡ Some s → step new (executes at_new) ≡ new
  new_stays s has = changes_nothing new at_new s has

  -- ---- the rules

  module _ (released : is_released (grounds old at_old) ≡ is_released (grounds new at_new)) where
    judged_plain : (r : Rule) → begins_anew r ≡ false → (execution_meaning old at_old).denies r ≡ (execution_meaning new at_new).denies r
    judged_plain r none =
        ap₂ (λ a b. if is_of_policy r then a else b) (policy_judges who moment t old new x serve.policy released r) (judged t old new serve.books.alike x names (signature_of at_new) r none)

    -- the first rule that denies it is the same, or they part there
    firsts_are : is_of_another (slip_grounds old at_old) ≡ is_of_another (slip_grounds new at_new)
        → (first old (executes at_old) ≡ first new (executes at_new)) ⊎ PartThere (first old (executes at_old)) (first new (executes at_new))
    firsts_are another =
        firsts (λ r. denies r old (executes at_old)) (λ r. denies r new (executes at_new))
        (with_slips_alike (slip_grounds old at_old) (slip_grounds new at_new) (execution_meaning old at_old).denies (execution_meaning new at_new).denies another judged_plain) rules

  -- ---- without a slip, or with a new one

  module _ (old_none : (slip_grounds old at_old).found ≡ None) (new_none : (slip_grounds new at_new).found ≡ None) where
    pub fresh_firsts : is_released (grounds old at_old) ≡ is_released (grounds new at_new)
        → (first old (executes at_old) ≡ first new (executes at_new)) ⊎ PartThere (first old (executes at_old)) (first new (executes at_new))
    fresh_firsts released = firsts_are released (not_another (slip_grounds old at_old) old_none ∙ sym (not_another (slip_grounds new at_new) new_none))

    -- what is made of both where no rule denies it
    executed : first old (executes at_old) ≡ None → first new (executes at_new) ≡ None → ServeAlike t (execution_meaning old at_old).effect (execution_meaning new at_new).effect
    executed old_first new_first =
        let old_kept = plain_kept old at_old in
        let new_kept = plain_kept new at_new in
        record {
          books =
              subst (λ l. StayAlike t (used_by l (asker who) (books_meaning old at_old).effect) (execution_meaning new at_new).effect) (sym (same_leave who moment t old new x serve.policy))
              (used_stays t _ _
              (books_stay_alike t old new serve.books x names (signature_of at_new) (allowed_by_books old at_old old_first) (allowed_by_books new at_new new_first))
              (leave_of (grounds new at_new)) (asker who));
          policy = old_kept.policy ∙ serve.policy ∙ sym new_kept.policy;
          version = old_kept.version ∙ serve.version ∙ sym new_kept.version;
          slips = λ u n.
              carried (AreBoth (IsSlipAlike t)) _ _ _ _ (ap (find (is_slip u n)) (plain_slips old at_old)) (ap (find (is_slip u n)) (plain_slips new at_new)) (serve.slips u n);
          slip_counts = λ u. ap (slip_count u) (plain_slips old at_old) ∙ serve.slip_counts u ∙ sym (ap (slip_count u) (plain_slips new at_new));
        }

    -- the slip is not there in what is made
    free : (w : WorldLists) (y : Execution) → (slip_grounds w y).found ≡ None → (slip_named y == 0) ≡ false → slip (execution_meaning w y).effect (asker y.who) (slip_named y) ≡ None
    free w y none named =
        ap (find (is_slip (asker y.who) (slip_named y))) (plain_slips w y) ∙ sym (ap (λ (b : Bool). if b then None else slip w (asker y.who) (slip_named y)) named) ∙ none

    same_slip : IsSameSlip t (slip_of at_old (execution_meaning old at_old).reply.bytes) (slip_of at_new (execution_meaning new at_new).reply.bytes)
    same_slip = record { op = x; old_operation = refl; new_operation = refl; replies = kept_too t x _ _ (replied t old new serve.books.alike x names (signature_of at_new)) }

    made : first old (executes at_old) ≡ None → first new (executes at_new) ≡ None → ServeAlike t (effect old (executes at_old)) (effect new (executes at_new))
    made old_first new_first =
        taken_stays t _ _ (executed old_first new_first) (slip_of at_old (execution_meaning old at_old).reply.bytes) (slip_of at_new (execution_meaning new at_new).reply.bytes) refl (same_number t who moment x)
        same_slip (slip_named at_old == 0) (slip_named at_new == 0) (ap (λ n. n == 0) (same_number t who moment x)) (free old at_old old_none) (free new at_new new_none)

    abbrev Onward : Option Rule → Option Rule → Type 0
    Onward f g =
        AreAnsweredAlike t x (stated f (reply_text old (executes at_old))) (stated g (reply_text new (executes at_new)))
        × ServeAlike t (if_allowed f (effect old (executes at_old)) old) (if_allowed g (effect new (executes at_new)) new)

    onward : (f g : Option Rule) → first old (executes at_old) ≡ f → first new (executes at_new) ≡ g → f ≡ g → Onward f g
    onward None None f_is g_is same = (replied t old new serve.books.alike x names (signature_of at_new), made f_is g_is)
    onward (Some r) (Some s) f_is g_is same = (let is : r ≡ s = cc in is, serve)
    onward None (Some s) f_is g_is same = absurd cc
    onward (Some r) None f_is g_is same = absurd cc

    -- by the same rule, or by replies that are alike; and the banks are alike after it
    pub answered : first old (executes at_old) ≡ first new (executes at_new)
        → AreAnsweredAlike t x (reply old (executes at_old)) (reply new (executes at_new)) × ServeAlike t (step old (executes at_old)) (step new (executes at_new))
    answered same =
        let old_fresh = no_repeat _ (slip_grounds old at_old) old_none in
        let new_fresh = no_repeat _ (slip_grounds new at_new) new_none in
        let on = onward _ _ refl refl same in (
          carried (AreAnsweredAlike t x) _ _ _ _ (reply_is old (executes at_old) _ old_fresh refl) (reply_is new (executes at_new) _ new_fresh refl) on.0,
          carried (ServeAlike t) _ _ _ _ (step_is old (executes at_old) _ old_fresh refl) (step_is new (executes at_new) _ new_fresh refl) on.1,
        )

  -- ---- with a slip that its user has of the next year

  module _ (r s : SlipRow) (r_is : (slip_grounds old at_old).found ≡ Some r) (s_is : (slip_grounds new at_new).found ≡ Some s) (slips : IsSameSlip t r s) where
    -- it is a repeat at both or at neither
    same_test : is_same_operation r.operation (row_of (op_at_old t x)) ≡ is_same_operation s.operation (row_of x)
    same_test =
        ap (λ row. is_same_operation row (row_of (op_at_old t x))) slips.old_operation ∙ same_operation t slips.op x ∙ sym (ap (λ row. is_same_operation row (row_of x)) slips.new_operation)

    another_same : is_of_another (slip_grounds old at_old) ≡ is_of_another (slip_grounds new at_new)
    another_same =
        ap (λ o. option_map_or (λ (y : SlipRow). not (is_same_operation y.operation (row_of (op_at_old t x)))) o false) r_is ∙ ap not same_test
        ∙ sym (ap (λ o. option_map_or (λ (y : SlipRow). not (is_same_operation y.operation (row_of x))) o false) s_is)

    pub again_firsts : is_released (grounds old at_old) ≡ is_released (grounds new at_new)
        → (first old (executes at_old) ≡ first new (executes at_new)) ⊎ PartThere (first old (executes at_old)) (first new (executes at_new))
    again_firsts released = firsts_are released another_same

    -- the stored replies are alike
    stored : is_same_operation s.operation (row_of x) ≡ true → IsRepliedAlike t x (json r.reply) (json s.reply)
    stored is = replied_too t slips.op x (json r.reply) (json s.reply) (sym slips.new_operation ∙ same_of_test s.operation (row_of x) is) slips.replies

    -- what was kept, where who asks is known and the operation is the same
    abbrev kept : Bool → Bool → SlipRow → Option (List ℕ)
    kept known same y = if known then (if same then Some y.reply else None) else None

    stated_alike : (f g : Option Rule) → f ≡ g → AreAnsweredAlike t x (stated f (reply_text old (executes at_old))) (stated g (reply_text new (executes at_new)))
    stated_alike None None same = replied t old new serve.books.alike x names (signature_of at_new)
    stated_alike (Some a) (Some b) same = let is : a ≡ b = cc in is
    stated_alike None (Some b) same = absurd cc
    stated_alike (Some a) None same = absurd cc

    repeated_alike : (known same : Bool) → (same ≡ true → IsRepliedAlike t x (json r.reply) (json s.reply)) → (f g : Option Rule) → f ≡ g
        → AreAnsweredAlike t x (repeated_reply (kept known same r) (stated f (reply_text old (executes at_old)))) (repeated_reply (kept known same s) (stated g (reply_text new (executes at_new))))
    repeated_alike true true alike f g is = alike refl
    repeated_alike true false alike f g is = stated_alike f g is
    repeated_alike false same alike f g is = stated_alike f g is

    known_same : is_identified (grounds old at_old).standing who.session ≡ is_identified (grounds new at_new).standing who.session
    known_same = ap (λ p. is_identified (option_and_then (λ user. standing p user) who.user) who.session) serve.policy

    old_kept : repeated old (executes at_old) ≡ kept (is_identified (grounds new at_new).standing who.session) (is_same_operation s.operation (row_of x)) r
    old_kept =
        ap (λ o. if is_identified (grounds old at_old).standing who.session then option_and_then (λ (y : SlipRow). if is_same_operation y.operation (row_of (op_at_old t x)) then Some y.reply else None) o else None) r_is
        ∙ ap₂ (λ known same. kept known same r) known_same same_test

    new_kept : repeated new (executes at_new) ≡ kept (is_identified (grounds new at_new).standing who.session) (is_same_operation s.operation (row_of x)) s
    new_kept =
        ap (λ o. if is_identified (grounds new at_new).standing who.session then option_and_then (λ (y : SlipRow). if is_same_operation y.operation (row_of x) then Some y.reply else None) o else None) s_is

    -- by the stored replies, or by the same rule
    pub answered_again : first old (executes at_old) ≡ first new (executes at_new) → AreAnsweredAlike t x (reply old (executes at_old)) (reply new (executes at_new))
    answered_again same =
        carried (AreAnsweredAlike t x) _ _ _ _ (ap (λ o. repeated_reply o (stated (first old (executes at_old)) (reply_text old (executes at_old)))) old_kept)
        (ap (λ o. repeated_reply o (stated (first new (executes at_new)) (reply_text new (executes at_new)))) new_kept)
        (repeated_alike _ (is_same_operation s.operation (row_of x)) stored _ _ same)
