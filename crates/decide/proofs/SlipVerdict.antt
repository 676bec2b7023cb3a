-- What the slip makes of what the policy and the books say of an operation.
use Rattle.std.proofs.Common.{◌≡◌, ◌≢◌, ℕ, ◌==◌, ◌||◌, ◌&&◌, ◌≤◌, ◌<◌, Bool, true, false, not, is_none, List, [], ◌∷◌, ◌++◌, cond, Option, Some, None, Ok, refl, ap, sym, subst, ◌∙◌}
use Rattle.std.specs.Prelude.{IsSome, if◌then◌else◌, nat_le, option_and_then}
use Rattle.std.specs.Global.{Vec}
use Rattle.std.specs.List.{find}
use Rattle.std.specs.Option.{option_map_or}
use Rattle.std.proofs.lemmas.Bool.{eq-eqb, le-leb, lt-leb, ne_eqb}
use Rattle.bank_terms.specs.Limits.{max_slips}
use Rattle.bank_terms.specs.Procedure.{takes_slip}
use Rattle.bank_terms.specs.declared.rule.Rule.{Rule}
use Rattle.bank_terms.specs.declared.rule.Rule.TheVariants as rule
use Rattle.bank_books.specs.Effects.{applied, written}
use Rattle.bank_books.specs.Records.{slip_count}
use Rattle.bank_books.specs.SlipRow.{SlipRow}
use Rattle.bank_books.specs.Version.{changes_policy}
use Rattle.bank_books.specs.WorldLists.{WorldLists}
use Rattle.bank_books.specs.declared.row_write.RowWrite.{RowWrite}
use Rattle.bank_books.specs.declared.row_write.RowWrite.TheVariants as write
use Rattle.bank_books.specs.declared.signature.Signature.{Signature}
use Rattle.bank_policy.specs.HeldRows.{standing}
use Rattle.counter_ops.specs.Op.{procedure_of}
use Rattle.counter_ops.specs.Rows.{row_of}
use Rattle.counter_ops.specs.declared.op.Op.{Op}
use Rattle.world_reads.specs.BookReads.{slip}
use Rattle.bank_meaning.specs.Executions.{execution_meaning, execution_verdict, rules_of_executions, signature_of}
use Rattle.bank_meaning.specs.Meaning.{by_books}
use Rattle.bank_meaning.specs.NamedRelease.{is_same_operation}
use Rattle.bank_meaning.specs.Operations.{form_of, is_report, meaning_of}
use Rattle.bank_meaning.specs.PolicyRules.{asker, grounds, is_identified, leave_by_policy}
use Rattle.bank_meaning.specs.Repeats.{BearsSlipOf}
use Rattle.bank_meaning.specs.Requests.{effect, executes, first, repeated}
use Rattle.bank_meaning.specs.Run.{denied_by, unless_repeated}
use Rattle.bank_meaning.specs.Slips.{has_no_room, is_of_another, kept_reply, slip_grounds, slip_named, slip_of}
use Rattle.bank_meaning.specs.declared.execution.Execution.{Execution}
use Rattle.bank_meaning.specs.declared.leave.Authorization.{Authorization}
use Rattle.bank_meaning.proofs.KeptReplies.{denied, differs, repeats}
use Rattle.bank_meaning.proofs.PolicyLemmas.{books_decide, leave_given}
use Rattle.bank_meaning.proofs.SlipFirst.{slip_passes}
use Rattle.bank_meaning.proofs.SlipSteps.{by_slip, first_by, no_repeat, not_another}
use Rattle.op_prepare.specs.Judged.{IsPrepared, IsReady, ReportsOnly}
use Rattle.op_prepare.specs.declared.prepared.Prepared.{Prepared}
use Rattle.op_prepare.specs.declared.prepared.Ready.{Ready}
use Rattle.op_prepare.specs.declared.prepared.Ready.TheVariants as ready
use Rattle.decide.specs.Permit.{IsReadyFor}
use Rattle.decide.specs.Slips.{IsDenied, IsJudgedWithSlip, IsMade, IsOfFound, or_full}
use Rattle.decide.specs.declared.slips.Judgement.{Judgement}
use Rattle.decide.specs.declared.slips.Judgement.TheVariants as judgement
use Rattle.decide.proofs.UsedUp.{taken_after}
use Rattle.bank_meaning.proofs.Forms.{law_of}

-- ---- the rule on counts, with the slip and without

abbrev or_else : Option Rule → Option Rule → Option Rule
or_else None rest = rest
or_else (Some r) rest = Some r

find-or : (p : Rule → Bool) (xs ys : List Rule) → find p (xs ++ ys) ≡ or_else (find p xs) (find p ys)
find-or p [] ys = refl
find-or p (x ∷ xs) ys = go (p x) (find-or p xs ys)
  where
    go : (b : Bool) → find p (xs ++ ys) ≡ or_else (find p xs) (find p ys) → cond b (Some x) (find p (xs ++ ys)) ≡ or_else (cond b (Some x) (find p xs)) (find p ys)
    go true rest = refl
    go false rest = rest

abbrev front : List Rule
front =
    rule.Identity ∷ rule.NotCertified ∷ rule.NoTriple ∷ rule.Limit ∷ rule.Release ∷ rule.Unknown ∷ rule.Branch ∷ rule.Drawer ∷ rule.SecondPerson ∷ rule.Entry ∷ rule.Floor ∷ rule.Cash ∷ rule.Range
    ∷ rule.Taken ∷ rule.Day ∷ []

abbrev front_with_slip : List Rule
front_with_slip =
    rule.Identity ∷ rule.Slip ∷ rule.NotCertified ∷ rule.NoTriple ∷ rule.Limit ∷ rule.Release ∷ rule.Unknown ∷ rule.Branch ∷ rule.Drawer ∷ rule.SecondPerson ∷ rule.Entry ∷ rule.Floor ∷ rule.Cash
    ∷ rule.Range ∷ rule.Taken ∷ rule.Day ∷ []

abbrev following : List Rule
following = rule.Officer ∷ rule.Certifier ∷ rule.Separation ∷ rule.PolicyUnknown ∷ rule.PolicyState ∷ []

-- no rule on commands denies an operation
none_after : (w : WorldLists) (o : Op) (by : Signature) → find (λ r. (meaning_of o by w).denies r) following ≡ None
none_after w o by = subst (λ m. find (λ r. m.denies r) following ≡ None) (sym ((law_of o).said by w)) ((law_of o).no_commands ((form_of o).rows by w) by)

with_full : (full : Bool) (d : Rule → Bool) → first_by false full d ≡ or_else (find d front) (cond (full || d rule.Full) (Some rule.Full) (find d following))
with_full full d = find-or (by_slip false full d) front_with_slip (rule.Full ∷ following)

without_full : (d : Rule → Bool) → find d rules_of_executions ≡ or_else (find d front) (cond (d rule.Full) (Some rule.Full) (find d following))
without_full d = find-or d front (rule.Full ∷ following)

same_rule : (before last : Option Rule) (full own : Bool) (r : Rule) → last ≡ None → or_else before (cond own (Some rule.Full) last) ≡ Some r → or_else before (cond (full || own) (Some rule.Full) last) ≡ Some r
same_rule (Some q) last full own r none is = is
same_rule None last true true r none is = is
same_rule None last false true r none is = is
same_rule None last full false r none is = let clash : None ≡ Some r = sym none ∙ is in absurd cc

full_rule : (before last : Option Rule) (own : Bool) → or_else before (cond own (Some rule.Full) last) ≡ None → or_else before (Some rule.Full) ≡ Some rule.Full
full_rule None last own is = refl
full_rule (Some q) last own is = absurd cc

-- ---- no slip is named

none_found : (w : WorldLists) (x : Execution) → slip_named x ≡ 0 → (slip_grounds w x).found ≡ None
none_found w x zero = ap (λ (n : ℕ). if n == 0 then None else slip w (asker x.who) n) zero

needs_none : (w : WorldLists) (x : Execution) → slip_named x ≡ 0 → has_no_room (slip_grounds w x) ≡ false
needs_none w x zero = ap (λ (n : ℕ). not (n == 0) && (is_none (slip_grounds w x).found && nat_le max_slips (slip_count (asker x.who) w.slips))) zero

fresh : (w : WorldLists) (x : Execution) → (slip_grounds w x).found ≡ None → repeated w (executes x) ≡ None
fresh w x none = no_repeat (is_identified (grounds w x).standing (grounds w x).session) (slip_grounds w x) none

stated_fresh : (w : WorldLists) (x : Execution) → repeated w (executes x) ≡ None → denied_by w (executes x) ≡ first w (executes x)
stated_fresh w x once = ap (λ kept. unless_repeated kept (first w (executes x)) None) once

pub denied_without : (w : WorldLists) (x : Execution) (r : Rule) → slip_named x ≡ 0 → (execution_verdict x w).first ≡ Some r → IsDenied w x r
denied_without w x r zero is = record {
  fresh = fresh w x (none_found w x zero);
  first = slip_passes w x (not_another (slip_grounds w x) (none_found w x zero)) (needs_none w x zero) ∙ is;
}

first_without : (w : WorldLists) (x : Execution) → slip_named x ≡ 0 → first w (executes x) ≡ (execution_verdict x w).first
first_without w x zero = slip_passes w x (not_another (slip_grounds w x) (none_found w x zero)) (needs_none w x zero)

effect_without : (w : WorldLists) (x : Execution) → slip_named x ≡ 0 → effect w (executes x) ≡ (execution_meaning w x).effect
effect_without w x zero =
    let m = execution_meaning w x in
    ap (λ (b : Bool). if b then m.effect else written (write.Slip (slip_of x m.reply.bytes)) m.effect) (eq-eqb (slip_named x) 0 zero)

pub made_without : (w : WorldLists) (x : Execution) (r : Ready) → slip_named x ≡ 0 → IsReady (execution_verdict x) w (Ok r) → IsMade w x r
made_without w x (ready.Change p) zero is = record {
  fresh = fresh w x (none_found w x zero);
  allowed = first_without w x zero ∙ is.allowed;
  makes = (is.plan ∙ sym (effect_without w x zero), is.reply);
}
made_without w x (ready.Report c) zero is = record {
  fresh = fresh w x (none_found w x zero);
  allowed = first_without w x zero ∙ is.allowed;
  makes = (effect_without w x zero ∙ is.same, is.reply, is.counted);
}

-- and what denies it denies it beside its slip
pub denies_without : (w : WorldLists) (x : Execution) → slip_named x ≡ 0 → IsSome (denied_by w (executes x)) → IsSome (execution_verdict x w).first
denies_without w x zero some = subst IsSome (stated_fresh w x (fresh w x (none_found w x zero)) ∙ first_without w x zero) some

-- a report bears no slip
slip_of_form : (o : Op) (n : ℕ) → is_report o ≡ true → (if takes_slip (procedure_of o) then n else 0) ≡ 0
slip_of_form o n is = ap (λ b. if b then n else 0) ((law_of o).reports_ask is)

pub report_bears_none : (x : Execution) (number : ℕ) → slip_named x ≡ number → number ≢ 0 → is_report x.op ≡ true → ⊥
report_bears_none x number named some is = some (sym named ∙ slip_of_form x.op x.who.slip is)

-- and what bears one is of a form that takes it
pub bearing_takes : (x : Execution) (number : ℕ) → slip_named x ≡ number → number ≢ 0 → takes_slip (procedure_of x.op) ≡ true
bearing_takes x number named some = go (takes_slip (procedure_of x.op)) named
  where
    go : (b : Bool) → (if b then x.who.slip else 0) ≡ number → b ≡ true
    go true is = refl
    go false is = absurd (some (sym is))

-- a question for a report alone is made ready with one
pub judges_reports : (is : Bool) (r : Ready) → ReportsOnly is (Ok (Ok r)) → IsReadyFor is r
judges_reports is (ready.Change p) only = tt
judges_reports is (ready.Report c) only = only

-- ---- by rows that were read alone

pub rule_by_rows : (w : WorldLists) (x : Execution) (l : Authorization) (by : Signature) (stated : Option Rule) → by ≡ signature_of x → leave_by_policy (grounds w x) ≡ Ok l
    → stated ≡ (by_books (meaning_of x.op by w)).first → stated ≡ (execution_verdict x w).first
rule_by_rows w x l by stated is leave books =
    books ∙ ap (λ s. (by_books (meaning_of x.op s w)).first) is ∙ sym (books_decide w x (leave_given (grounds w x) l leave).0)

-- ---- who asks is not known

identity_first : (b : Bool) (rest : Option Rule) → b ≡ true → cond b (Some rule.Identity) rest ≡ Some rule.Identity
identity_first true rest is = refl
identity_first false rest is = absurd cc

known_as : (w : WorldLists) (x : Execution) (user : ℕ) (b : Bool) → x.who.user ≡ Some user → is_identified (standing w.policy user) x.who.session ≡ b
    → is_identified (grounds w x).standing (grounds w x).session ≡ b
known_as w x user b named is = ap (λ o. is_identified (option_and_then (λ u. standing w.policy u) o) x.who.session) named ∙ is

-- ---- the first rule, by what the slip is

pub first_unknown : (w : WorldLists) (x : Execution) → is_identified (grounds w x).standing (grounds w x).session ≡ false → first w (executes x) ≡ Some rule.Identity
first_unknown w x unknown = identity_first (not (is_identified (grounds w x).standing (grounds w x).session)) _ (ap not unknown)

pub first_slip : (w : WorldLists) (x : Execution) → is_identified (grounds w x).standing (grounds w x).session ≡ true → is_of_another (slip_grounds w x) ≡ true → first w (executes x) ≡ Some rule.Slip
first_slip w x known another =
    ap (λ b. first_by b (has_no_room (slip_grounds w x)) (execution_meaning w x).denies) another ∙ ap (λ b. cond (not b) (Some rule.Identity) (Some rule.Slip)) known

pub first_same : (w : WorldLists) (x : Execution) (r : Rule) → is_of_another (slip_grounds w x) ≡ false → (execution_verdict x w).first ≡ Some r → first w (executes x) ≡ Some r
first_same w x r other is =
    let full = has_no_room (slip_grounds w x) in
    let d = (execution_meaning w x).denies in
    ap (λ b. first_by b full d) other ∙ with_full full d
    ∙ same_rule (find d front) (find d following) full (d rule.Full) r (none_after w x.op (signature_of x)) (sym (without_full d) ∙ is)

pub first_full : (w : WorldLists) (x : Execution) → is_of_another (slip_grounds w x) ≡ false → has_no_room (slip_grounds w x) ≡ true → (execution_verdict x w).first ≡ None → first w (executes x) ≡ Some rule.Full
first_full w x other full is =
    let d = (execution_meaning w x).denies in
    ap (λ b. first_by b (has_no_room (slip_grounds w x)) d) other ∙ ap (λ b. first_by false b d) full ∙ with_full true d
    ∙ full_rule (find d front) (find d following) (d rule.Full) (sym (without_full d) ∙ is)

pub denied_stranger : (w : WorldLists) (x : Execution) (user : ℕ) → x.who.user ≡ Some user → is_identified (standing w.policy user) x.who.session ≡ false → IsDenied w x rule.Identity
denied_stranger w x user named is =
    let unknown = known_as w x user false named is in
    record {
      fresh = ap (λ (b : Bool). if b then kept_reply (slip_grounds w x) else None) unknown;
      first = first_unknown w x unknown;
    }

-- ---- who asks has the slip

module _ (w : WorldLists) (x : Execution) (user number : ℕ) (named : x.who.user ≡ Some user) (is_number : slip_named x ≡ number) where
  asker_is : asker x.who ≡ user
  asker_is = ap (λ o. option_map_or (λ u. u) o 0) named

  slip_is : slip w (asker x.who) (slip_named x) ≡ slip w user number
  slip_is = ap (λ u. slip w u (slip_named x)) asker_is ∙ ap (λ n. slip w user n) is_number

  bears : is_identified (standing w.policy user) x.who.session ≡ true → BearsSlipOf w x x
  bears known = record { user = refl; number = refl; known = ap not (known_as w x user true named known) }

  is_named : number ≢ 0 → slip_named x ≢ 0
  is_named some zero = some (sym is_number ∙ zero)

  pub judged_found : (s : SlipRow) (j : Judgement) → number ≢ 0 → is_identified (standing w.policy user) x.who.session ≡ true → slip w user number ≡ Some s → IsOfFound s x j → IsJudgedWithSlip w x j
  judged_found s (judgement.Denied stated) some known there is = record {
    fresh = differs w x x s (bears known) (is_named some) (slip_is ∙ there) is.0;
    first = denied w x x s (bears known) (is_named some) (slip_is ∙ there) is.0 ∙ ap Some (sym is.1);
  }
  judged_found s (judgement.Repeated text) some known there is = repeats w x x s (bears known) (is_named some) (slip_is ∙ there) is.0 ∙ ap Some (sym is.1)
  judged_found s (judgement.Ready r) some known there is = absurd is

  -- ---- who asks has it not

  not_found : slip w user number ≡ None → (slip_grounds w x).found ≡ None
  not_found none = go (slip_named x == 0)
    where
      go : (b : Bool) → (if b then None else slip w (asker x.who) (slip_named x)) ≡ None
      go true = refl
      go false = slip_is ∙ none

  other_none : slip w user number ≡ None → is_of_another (slip_grounds w x) ≡ false
  other_none none = not_another (slip_grounds w x) (not_found none)

  pub denied_new : (r : Rule) → slip w user number ≡ None → (execution_verdict x w).first ≡ Some r → IsDenied w x r
  denied_new r none is = record { fresh = fresh w x (not_found none); first = first_same w x r (other_none none) is }

  room_is : number ≢ 0 → slip w user number ≡ None → has_no_room (slip_grounds w x) ≡ nat_le max_slips (slip_count user w.slips)
  room_is some none =
      ap (λ b. not b && (is_none (slip_grounds w x).found && nat_le max_slips (slip_count (asker x.who) w.slips))) (ne_eqb (slip_named x) 0 (is_named some))
      ∙ ap (λ f. is_none f && nat_le max_slips (slip_count (asker x.who) w.slips)) (not_found none)
      ∙ ap (λ u. nat_le max_slips (slip_count u w.slips)) asker_is

  pub denied_full : (rule : Rule) → number ≢ 0 → slip w user number ≡ None → max_slips ≤ slip_count user w.slips → rule ≡ or_full (execution_verdict x w).first → IsDenied w x rule
  denied_full stated some none many is = record { fresh = fresh w x (not_found none); first = go (execution_verdict x w).first refl is }
    where
      full : has_no_room (slip_grounds w x) ≡ true
      full = room_is some none ∙ le-leb max_slips (slip_count user w.slips) many

      go : (f : Option Rule) → (execution_verdict x w).first ≡ f → stated ≡ or_full f → first w (executes x) ≡ Some stated
      go None at same = first_full w x (other_none none) full at ∙ ap Some (sym same)
      go (Some r) at same = first_same w x r (other_none none) at ∙ ap Some (sym same)

  -- where there is room, it is judged as it is beside its slip
  first_new : number ≢ 0 → slip w user number ≡ None → slip_count user w.slips < max_slips → first w (executes x) ≡ (execution_verdict x w).first
  first_new some none room = slip_passes w x (other_none none) (room_is some none ∙ lt-leb max_slips (slip_count user w.slips) room)

  pub denies_new : number ≢ 0 → slip w user number ≡ None → slip_count user w.slips < max_slips → IsSome (denied_by w (executes x)) → IsSome (execution_verdict x w).first
  denies_new some none room denied = subst IsSome (stated_fresh w x (fresh w x (not_found none)) ∙ first_new some none room) denied

  -- a slip that is found, of an equal operation, is a repeat, which nothing denies
  pub found_repeats : (s : SlipRow) → number ≢ 0 → is_identified (standing w.policy user) x.who.session ≡ true → slip w user number ≡ Some s → is_same_operation s.operation (row_of x.op) ≡ true
      → denied_by w (executes x) ≡ None
  found_repeats s some known there same =
      ap (λ kept. unless_repeated kept (first w (executes x)) None) (repeats w x x s (bears known) (is_named some) (slip_is ∙ there) same)

  pub made_new : (p : Prepared) (plan : Vec RowWrite) → number ≢ 0 → slip w user number ≡ None → slip_count user w.slips < max_slips → IsPrepared w (execution_verdict x w) p → changes_policy p.plan.items ≡ false
      → plan.items ≡ p.plan.items ++ write.Slip (record { user = user; number = number; operation = row_of x.op; reply = p.text.items }) ∷ [] → IsMade w x (ready.Change (record { plan = plan; text = p.text }))
  made_new p plan some none room is policy items =
      let m = execution_meaning w x in
      let bytes : p.text.items ≡ m.reply.bytes = ap (λ t. t.bytes) is.reply in
      let row : record { user = user; number = number; operation = row_of x.op; reply = p.text.items } ≡ slip_of x m.reply.bytes =
      ap (λ u. record { user = u; number = number; operation = row_of x.op; reply = p.text.items }) (sym asker_is)
      ∙ ap (λ n. record { user = asker x.who; number = n; operation = row_of x.op; reply = p.text.items }) (sym is_number)
      ∙ ap (λ t. record { user = asker x.who; number = slip_named x; operation = row_of x.op; reply = t }) bytes in
      record {
        fresh = fresh w x (not_found none);
        allowed = first_new some none room ∙ is.allowed;
        makes = (
          ap (λ rows. applied rows w) items
              ∙ taken_after p.plan.items (record { user = user; number = number; operation = row_of x.op; reply = p.text.items }) policy w
              ∙ ap (λ s. written (write.Slip s) (applied p.plan.items w)) row
              ∙ ap (λ v. written (write.Slip (slip_of x m.reply.bytes)) v) is.plan
              ∙ sym (ap (λ (b : Bool). if b then m.effect else written (write.Slip (slip_of x m.reply.bytes)) m.effect) (ne_eqb (slip_named x) 0 (is_named some))),
          is.reply,
        );
      }
