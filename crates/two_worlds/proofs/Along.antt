-- The law of two Worlds along the requests of one user.
use Rattle.std.proofs.Common.{◌≡◌, ℕ, ◌+◌, List, [], ◌∷◌, Bool, true, false, not, refl, ap, ap₂, sym, subst, ◌∙◌, ◌==◌, ◌&&◌, ◌||◌, Option, Some, None, Err, inl, inr}
use Rattle.std.specs.Prelude.{if◌then◌else◌, option_map}
use Rattle.std.specs.List.{find}
use Rattle.std.proofs.lemmas.Bool.{false≢true}
use Rattle.std.proofs.lemmas.List.Elements.{All-contains, All-cons, All-head, All-nil, All-tail}
use Rattle.bank_policy.specs.HeldRows.{relations_of, triples_of, user_row}
use Rattle.bank_policy.specs.PolicyKeys.{user_key}
use Rattle.bank_policy.specs.PolicyWrites.{in_session}
use Rattle.bank_policy.specs.Tests.{current, is_certified, is_held, is_held_for}
use Rattle.bank_policy.specs.declared.policy_write.Session.{Session}
use Rattle.bank_policy.specs.declared.rows.Standing.{Standing}
use Rattle.bank_policy.specs.declared.rows.User.{User}
use Rattle.bank_terms.specs.declared.item.Kind.{Kind}
use Rattle.bank_terms.specs.declared.item.Kind.TheVariants as kind
use Rattle.bank_terms.specs.declared.procedure.Procedure.{Procedure}
use Rattle.bank_terms.specs.declared.rule.Rule.{Rule}
use Rattle.bank_terms.specs.declared.rule.Rule.TheVariants as rule
use Rattle.bank_books.specs.Effects.{written}
use Rattle.bank_books.specs.WorldLists.{WorldLists}
use Rattle.bank_books.specs.declared.row_write.RowWrite.TheVariants as write
use Rattle.book_laws.proofs.ChangedRows.{changed_same}
use Rattle.counter_ops.specs.Op.{procedure_of}
use Rattle.counter_ops.specs.Operations.{IsOp}
use Rattle.counter_ops.specs.declared.op.Op.{Op}
use Rattle.counter_ops.specs.declared.op.Op.TheVariants as op
use Rattle.world_reads.specs.PolicyReads.{user_record_of}
use Rattle.counter_ops.specs.Touched.{amount, touched}
use Rattle.rule_tests.specs.Denial.{is_denial}
use Rattle.bank_meaning.specs.Meaning.{json}
use Rattle.bank_meaning.specs.PolicyRules.{asker}
use Rattle.bank_meaning.specs.Requests.{denies, effect, executes, first, repeated, reply_text, rules}
use Rattle.bank_meaning.specs.Run.{if_allowed, reply, step, stated, repeated_reply, unless_repeated}
use Rattle.bank_meaning.specs.Sessions.{ending_tests, ending_text, latest, opening_tests, opening_text, session_of, standing_of_asker}
use Rattle.bank_meaning.specs.Sums.{IsProper, PassesChecks}
use Rattle.bank_meaning.specs.declared.execution.Execution.{Execution}
use Rattle.bank_meaning.specs.declared.request.Asked.{Asked}
use Rattle.bank_meaning.specs.declared.request.Asked.TheVariants as asked
use Rattle.bank_meaning.specs.declared.request.Request.{Request}
use Rattle.bank_meaning.specs.declared.who.Who.{Who}
use Rattle.bank_meaning.proofs.RunSums.{sums_always_agree}
use Rattle.two_worlds.specs.Agree.{Agree, AgreeByForm, AgreeOnPolicy, AgreeOnSlip, releases_given}
use Rattle.two_worlds.specs.Along.{AgreeOn, IsAgreed, IsOutside, TwoWorldsAlong, is_of_triples}
use Rattle.two_worlds.specs.Laws.{is_blind}
use Rattle.two_worlds.specs.View.{view_at, view_of}
use Rattle.two_worlds.proofs.Grown.{find_made}
use Rattle.two_worlds.proofs.Policy.{standing_same}
use Rattle.two_worlds.proofs.Slips.{repeated_same}
use Rattle.two_worlds.proofs.TwoWorlds.{agree_after, agreeing_answer_alike, all_from, blindly_first, by_blind, policy_left, slip_agrees}

-- ---- what the change of a session leaves

-- the row of the user whose session it is, and any other
abbrev moved : Session → User → User
moved s row = if user_key row == s.user then in_session s row else row

user_moved : (s : Session) (z : WorldLists) (user : ℕ) → user_row (written (write.Session s) z).policy user ≡ option_map (moved s) (user_row z.policy user)
user_moved s z user = find_made (λ row. row.user == user) (moved s) (changed_same user_key s.user (in_session s) (λ row. row.user == user) (λ row. refl)) z.policy.users

view_stays : (k : Kind) (key : ℕ) (s : Session) (z : WorldLists) → view_at k key (written (write.Session s) z) ≡ view_at k key z
view_stays kind.Account key s z = refl
view_stays _ key s z = refl

given_stays : (s : Session) (z : WorldLists) (user : ℕ) → releases_given (written (write.Session s) z) user ≡ releases_given z user
given_stays s z user = ap (λ o. option_map (λ u. u.releases) (option_map (user_record_of z) o)) (user_moved s z user) ∙ go (user_row z.policy user)
  where
    same : (b : Bool) (row : User) → (user_record_of z (if b then in_session s row else row)).releases ≡ (user_record_of z row).releases
    same true row = refl
    same false row = refl

    go : (o : Option User) → option_map (λ u. u.releases) (option_map (user_record_of z) (option_map (moved s) o)) ≡ option_map (λ u. u.releases) (option_map (user_record_of z) o)
    go None = refl
    go (Some row) = ap Some (same (user_key row == s.user) row)

-- the same session in both Worlds, where no rule denies it
module _ (s : Session) (w v : WorldLists) where
  abbrev moves : WorldLists → Option Rule → WorldLists
  moves z f = if_allowed f (written (write.Session s) z) z

  user_after : (f : Option Rule) (user : ℕ) → user_row w.policy user ≡ user_row v.policy user → user_row (moves w f).policy user ≡ user_row (moves v f).policy user
  user_after None user same = user_moved s w user ∙ ap (option_map (moved s)) same ∙ sym (user_moved s v user)
  user_after (Some r) user same = same

  form_after : (o : Op) (user moment : ℕ) → AgreeByForm w v user moment o → AgreeByForm (written (write.Session s) w) (written (write.Session s) v) user moment o
  form_after (op.Accounts a) user moment same = λ key of. view_stays kind.Account key s w ∙ same key of ∙ sym (view_stays kind.Account key s v)
  form_after (op.Release g) user moment same = given_stays s w g.beneficiary ∙ same ∙ sym (given_stays s v g.beneficiary)
  form_after _ user moment same = tt

  agree_moved : (f : Option Rule) (y : Execution) → Agree w v y → Agree (moves w f) (moves v f) y
  agree_moved None y agree = record {
    policy = record { user = user_after None (asker y.who) agree.policy.user; held = agree.policy.held; relations = agree.policy.relations };
    release = record {
      row = agree.release.row;
      giver = λ r is.
          let same = agree.release.giver r is in
          record { user = user_after None r.giver same.user; held = same.held };
    };
    slip = agree.slip;
    slips = agree.slips;
    views = all_from (λ item. view_of (written (write.Session s) w) item ≡ view_of (written (write.Session s) v) item) (touched y.op) (λ item there.
        view_stays item.kind item.key s w ∙ All-contains (λ item. view_of w item ≡ view_of v item) (touched y.op) item agree.views there ∙ sym (view_stays item.kind item.key s v));
    form = form_after y.op (asker y.who) y.moment agree.form;
  }
  agree_moved (Some r) y agree = agree

  slip_moved : (f : Option Rule) (y : Execution) → AgreeOnSlip w v y → AgreeOnSlip (moves w f) (moves v f) y
  slip_moved None y agree = agree
  slip_moved (Some r) y agree = agree

-- ---- the relations and triples of the policy

record AreKept (w z : WorldLists) : Type 0 where
  pub held : (user : ℕ) (p : Procedure) → triples_of z.policy user p ≡ triples_of w.policy user p
  pub relations : (p : Procedure) → relations_of z.policy p ≡ relations_of w.policy p

kept_policy : (w z : WorldLists) → z.policy ≡ w.policy → AreKept w z
kept_policy w z same = record { held = λ user p. ap (λ q. triples_of q user p) same; relations = λ p. ap (λ q. relations_of q p) same }

kept_moved : (s : Session) (w : WorldLists) (f : Option Rule) → AreKept w (if_allowed f (written (write.Session s) w) w)
kept_moved s w None = record { held = λ user p. refl; relations = λ p. refl }
kept_moved s w (Some r) = record { held = λ user p. refl; relations = λ p. refl }

-- ---- an operation outside of what the triples of the user hold

or_left : (a b : Bool) → a ≡ true → (a || b) ≡ true
or_left true b is = refl
or_left false b is = absurd cc

or_right : (a b : Bool) → b ≡ true → (a || b) ≡ true
or_right true b is = refl
or_right false b is = is

module _ (w : WorldLists) (x : Execution) where
  abbrev by : Rule → Bool
  by r = denies r w (executes x)

  some_denies : (r : Rule) → is_of_triples r ≡ true → by r ≡ true → (by rule.NotCertified || (by rule.NoTriple || by rule.Limit)) ≡ true
  some_denies rule.NotCertified is at = or_left _ _ at
  some_denies rule.NoTriple is at = or_right _ _ (or_left _ _ at)
  some_denies rule.Limit is at = or_right _ _ (or_right _ _ at)
  some_denies _ is at = absurd (false≢true is)

  blind_first : (a s b c d : Bool) (rest : Option Rule) → (b || (c || d)) ≡ true → (r : Rule) × (is_blind r ≡ true) × (by_blind a s b c d rest ≡ Some r)
  blind_first true s b c d rest some = (rule.Identity, refl, refl)
  blind_first false true b c d rest some = (rule.Slip, refl, refl)
  blind_first false false true c d rest some = (rule.NotCertified, refl, refl)
  blind_first false false false true d rest some = (rule.NoTriple, refl, refl)
  blind_first false false false false true rest some = (rule.Limit, refl, refl)
  blind_first false false false false false rest some = absurd (false≢true some)

  -- it is denied by a rule that looks at no item
  outside_first : IsOutside w x → (r : Rule) × (is_blind r ≡ true) × (first w (executes x) ≡ Some r)
  outside_first outside =
      blind_first (by rule.Identity) (by rule.Slip) (by rule.NotCertified) (by rule.NoTriple) (by rule.Limit) _ (some_denies outside.rule outside.of_triples outside.denies)

  -- so it changes nothing, be it a repeat or not
  stays_denied : (r : Rule) → first w (executes x) ≡ Some r → step w (executes x) ≡ w
  stays_denied r denied = ap (λ f. unless_repeated (repeated w (executes x)) (if_allowed f (effect w (executes x)) w) w) denied ∙ same (repeated w (executes x))
    where
      same : (kept : Option (List ℕ)) → unless_repeated kept w w ≡ w
      same None = refl
      same (Some bytes) = refl

-- it stays outside, whatever becomes of sessions and of the books
outside_still : (w z : WorldLists) (x : Execution) → AreKept w z → IsOutside w x → IsOutside z x
outside_still w z x kept outside = record { rule = outside.rule; of_triples = outside.of_triples; denies = go outside.rule outside.of_triples outside.denies }
  where
    go : (r : Rule) → is_of_triples r ≡ true → denies r w (executes x) ≡ true → denies r z (executes x) ≡ true
    go rule.NotCertified is at = ap (λ rows. not (is_certified rows (touched x.op))) (kept.relations (procedure_of x.op)) ∙ at
    go rule.NoTriple is at = ap (λ rows. not (is_held (current x.moment rows) (touched x.op))) (kept.held (asker x.who) (procedure_of x.op)) ∙ at
    go rule.Limit is at = ap (λ rows. not (is_held_for (current x.moment rows) (touched x.op) (amount x.op)) && x.who.release == 0) (kept.held (asker x.who) (procedure_of x.op)) ∙ at
    go _ is at = absurd (false≢true is)

-- ---- one request before another of the same user

-- what is asked for is replied alike, and what they agree on stays such
record IsAlike (w v : WorldLists) (user : ℕ) (q : Request) : Type 0 where
  pub reply : reply w q ≡ reply v q
  pub row : user_row w.policy user ≡ user_row v.policy user → user_row (step w q).policy user ≡ user_row (step v q).policy user
  pub agree : (y : Execution) → asker y.who ≡ user → Agree w v y → Agree (step w q) (step v q) y
  pub slip : (y : Execution) → AgreeOnSlip w v y → AgreeOnSlip (step w q) (step v q) y
  pub kept : AreKept w (step w q)
  pub kept' : AreKept v (step v q)

operation_alike : (w v : WorldLists) → PassesChecks w → PassesChecks v → (user : ℕ) (x : Execution) → IsOp x.op → asker x.who ≡ user → Agree w v x → IsAlike w v user (executes x)
operation_alike w v bank bank' user x proper by agree =
    let left = (policy_left w x bank proper).policy in
    let left' = (policy_left v x bank' proper).policy in
    record {
      reply = (agreeing_answer_alike w v x bank bank' proper agree).reply;
      row = λ row. ap (λ p. user_row p user) left ∙ row ∙ sym (ap (λ p. user_row p user) left');
      agree = λ y of other. agree_after w v x bank bank' proper agree y (of ∙ sym by) other;
      slip = slip_agrees w v x bank bank' proper agree;
      kept = kept_policy w (step w (executes x)) left;
      kept' = kept_policy v (step v (executes x)) left';
    }

outside_alike : (w v : WorldLists) (user : ℕ) (x : Execution) → AgreeOnPolicy w v x → AgreeOnSlip w v x → IsOutside w x → IsAlike w v user (executes x)
outside_alike w v user x agree named outside =
    let denied = outside_first w x outside in
    let there = (blindly_first w v x denied.0 agree (λ following. named) denied.1 denied.2).0 in
    let kept = repeated_same w v x agree named in
    let stays : step w (executes x) ≡ w = stays_denied w x denied.0 denied.2 in
    let stays' : step v (executes x) ≡ v = stays_denied v x denied.0 there in
    record {
      reply =
          ap (λ f. repeated_reply (repeated w (executes x)) (stated f (reply_text w (executes x)))) denied.2
          ∙ ap (λ again. repeated_reply again (Err denied.0)) kept
          ∙ sym (ap (λ f. repeated_reply (repeated v (executes x)) (stated f (reply_text v (executes x)))) there);
      row = λ row. ap (λ z. user_row z.policy user) stays ∙ row ∙ sym (ap (λ z. user_row z.policy user) stays');
      agree = λ y of other. subst (λ z. Agree z (step v (executes x)) y) (sym stays) (subst (λ z. Agree w z y) (sym stays') other);
      slip = λ y other. subst (λ z. AgreeOnSlip z (step v (executes x)) y) (sym stays) (subst (λ z. AgreeOnSlip w z y) (sym stays') other);
      kept = kept_policy w (step w (executes x)) (ap (λ z. z.policy) stays);
      kept' = kept_policy v (step v (executes x)) (ap (λ z. z.policy) stays');
    }

opening_alike : (w v : WorldLists) (user : ℕ) (who : Who) (moment : ℕ) → standing_of_asker who w ≡ standing_of_asker who v → IsAlike w v user (record { who = who; moment = moment; asked = asked.Opening })
opening_alike w v user who moment same =
    let denied = λ (o : Option Standing). find (λ r. is_denial r (opening_tests o)) rules in
    let session = λ (o : Option Standing). session_of who (latest o + 1) true in
    let here = standing_of_asker who w in
    let there = standing_of_asker who v in
    let left : moves (session here) w v v (denied here) ≡ moves (session there) w v v (denied there) = (λ i. if_allowed (denied (same i)) (written (write.Session (session (same i))) v) v) in
    record {
      reply = ap (λ o. stated (denied o) (json (opening_text (latest o + 1)))) same;
      row = λ row. user_after (session here) w v (denied here) user row ∙ ap (λ z. user_row z.policy user) left;
      agree = λ y of agree. subst (λ z. Agree (moves (session here) w v w (denied here)) z y) left (agree_moved (session here) w v (denied here) y agree);
      slip = λ y agree. subst (λ z. AgreeOnSlip (moves (session here) w v w (denied here)) z y) left (slip_moved (session here) w v (denied here) y agree);
      kept = kept_moved (session here) w (denied here);
      kept' = kept_moved (session there) v (denied there);
    }

ending_alike : (w v : WorldLists) (user : ℕ) (who : Who) (moment : ℕ) → standing_of_asker who w ≡ standing_of_asker who v → IsAlike w v user (record { who = who; moment = moment; asked = asked.Ending })
ending_alike w v user who moment same =
    let denied = λ (o : Option Standing). find (λ r. is_denial r (ending_tests o who.session)) rules in
    let session = λ (o : Option Standing). session_of who (latest o) false in
    let here = standing_of_asker who w in
    let there = standing_of_asker who v in
    let left : moves (session here) w v v (denied here) ≡ moves (session there) w v v (denied there) = (λ i. if_allowed (denied (same i)) (written (write.Session (session (same i))) v) v) in
    record {
      reply = ap (λ o. stated (denied o) (json (ending_text (latest o)))) same;
      row = λ row. user_after (session here) w v (denied here) user row ∙ ap (λ z. user_row z.policy user) left;
      agree = λ y of agree. subst (λ z. Agree (moves (session here) w v w (denied here)) z y) left (agree_moved (session here) w v (denied here) y agree);
      slip = λ y agree. subst (λ z. AgreeOnSlip (moves (session here) w v w (denied here)) z y) left (slip_moved (session here) w v (denied here) y agree);
      kept = kept_moved (session here) w (denied here);
      kept' = kept_moved (session there) v (denied there);
    }

alike : (w v : WorldLists) → PassesChecks w → PassesChecks v → (user : ℕ) (q : Request) → IsAgreed w v user q → IsAlike w v user q
alike w v bank bank' user q is = go q.asked q.who q.moment is.by is.proper is.agree
  where
    go : (a : Asked) (who : Who) (moment : ℕ) → asker who ≡ user → IsProper (record { who = who; moment = moment; asked = a }) → AgreeOn w v who moment a
        → IsAlike w v user (record { who = who; moment = moment; asked = a })
    go (asked.Operation o) who moment by proper agree = elim agree [
      | inl one ↦ operation_alike w v bank bank' user (record { who = who; moment = moment; op = o }) proper.asked by one
      | inr other ↦ outside_alike w v user (record { who = who; moment = moment; op = o }) other.0 other.1 other.2
    ]
    go asked.Opening who moment by proper agree = opening_alike w v user who moment (standing_same w v who.user agree)
    go asked.Ending who moment by proper agree = ending_alike w v user who moment (standing_same w v who.user agree)
    go _ who moment by proper agree = absurd agree

still_agreed : (w v : WorldLists) (user : ℕ) (q next : Request) → IsAlike w v user q → IsAgreed w v user next → IsAgreed (step w q) (step v q) user next
still_agreed w v user q next alike is = record { by = is.by; proper = is.proper; agree = go next.asked is.agree }
  where
    row : user_row w.policy (asker next.who) ≡ user_row v.policy (asker next.who) → user_row (step w q).policy (asker next.who) ≡ user_row (step v q).policy (asker next.who)
    row same =
        ap (user_row (step w q).policy) is.by
        ∙ alike.row (ap (user_row w.policy) (sym is.by) ∙ same ∙ ap (user_row v.policy) is.by)
        ∙ ap (user_row (step v q).policy) (sym is.by)

    policy : (y : Execution) → y.who ≡ next.who → AgreeOnPolicy w v y → AgreeOnPolicy (step w q) (step v q) y
    policy y of agree = record {
      user =
          ap (λ who. user_row (step w q).policy (asker who)) of
          ∙ row (ap (λ who. user_row w.policy (asker who)) (sym of) ∙ agree.user ∙ ap (λ who. user_row v.policy (asker who)) of)
          ∙ ap (λ who. user_row (step v q).policy (asker who)) (sym of);
      held = alike.kept.held (asker y.who) (procedure_of y.op) ∙ agree.held ∙ sym (alike.kept'.held (asker y.who) (procedure_of y.op));
      relations = alike.kept.relations (procedure_of y.op) ∙ agree.relations ∙ sym (alike.kept'.relations (procedure_of y.op));
    }

    go : (a : Asked) → AgreeOn w v next.who next.moment a → AgreeOn (step w q) (step v q) next.who next.moment a
    go (asked.Operation o) agree =
        let y : Execution = record { who = next.who; moment = next.moment; op = o } in
        elim agree [
          | inl one ↦ inl (alike.agree y is.by one)
          | inr other ↦ inr (policy y refl other.0, alike.slip y other.1, outside_still w (step w q) y alike.kept other.2)
        ]
    go asked.Opening agree = row agree
    go asked.Ending agree = row agree
    go _ agree = absurd agree

-- ---- one after another

checks_after : (w : WorldLists) (q : Request) → PassesChecks w → IsProper q → PassesChecks (step w q)
checks_after w q bank proper =
    (sums_always_agree w (record { request = q; mark = None } ∷ []) bank (All-cons (λ m. m.mark ≡ None → IsProper m.request) (record { request = q; mark = None }) [] (λ made. proper) (All-nil (λ m. m.mark ≡ None → IsProper m.request)))).checks 1

pub two_worlds_along : TwoWorldsAlong
two_worlds_along w v user [] bank bank' agreed = refl
two_worlds_along w v user (q ∷ qs) bank bank' agreed =
    let one = All-head (IsAgreed w v user) q qs agreed in
    let same = alike w v bank bank' user q one in
    let rest = all_from (IsAgreed (step w q) (step v q) user) qs (λ next there.
    still_agreed w v user q next same (All-contains (IsAgreed w v user) qs next (All-tail (IsAgreed w v user) q qs agreed) there)) in
    ap₂ (λ r rs. r ∷ rs) same.reply (two_worlds_along (step w q) (step v q) user qs (checks_after w q bank one.proper) (checks_after v q bank' one.proper) rest)
