-- What bears a slip may be sent again after a crash, whether that left the World before it or the one after it.
use Rattle.std.proofs.Common.{◌≡◌, ◌≢◌, ℕ, ◌&&◌, Bool, true, false, not, is_none, List, [], Option, Some, None, Ok, refl, ap, sym, subst, ◌∙◌, inl, inr}
use Rattle.std.specs.Prelude.{if◌then◌else◌, option_and_then}
use Rattle.bank_policy.specs.HeldRows.{standing}
use Rattle.bank_terms.specs.Procedure.{takes_slip}
use Rattle.bank_terms.specs.declared.rule.Rule.{Rule}
use Rattle.bank_terms.specs.declared.rule.Rule.TheVariants as rule
use Rattle.bank_books.specs.WorldLists.{WorldLists}
use Rattle.bank_books.specs.declared.signature.Signature.{Signature}
use Rattle.counter_ops.specs.Op.{procedure_of}
use Rattle.counter_ops.specs.declared.op.Op.{Op}
use Rattle.bank_meaning.specs.Executions.{signature_of}
use Rattle.bank_meaning.specs.Meaning.{ReplyText, json}
use Rattle.bank_meaning.specs.Operations.{form_of, meaning_of}
use Rattle.bank_meaning.specs.PolicyRules.{grounds, is_identified}
use Rattle.bank_meaning.specs.Repeats.{BearsSlipOf, HasActedOnce, IsAlone, IsRetried, IsSentAgain, MayBeLeft, RetriesActOnce}
use Rattle.bank_meaning.specs.Requests.{denies, effect, executes, first, repeated, reply_text}
use Rattle.bank_meaning.specs.Run.{if_allowed, is_accepted, reply, step, stated, repeated_reply, unless_repeated}
use Rattle.bank_meaning.specs.Slips.{kept_reply, slip_grounds, slip_named}
use Rattle.bank_meaning.specs.declared.execution.Execution.{Execution}
use Rattle.bank_meaning.proofs.Forms.{law_of}
use Rattle.bank_meaning.proofs.FirstRule.{none_denies}
use Rattle.bank_meaning.proofs.KeptReplies.{replies_are_kept}
use Rattle.bank_meaning.proofs.LastWordKept.{operation_kept}

-- the reply to a form that takes a slip is in JSON
in_json : (o : Op) (by : Signature) (w : WorldLists) (n : ℕ) → (if takes_slip (procedure_of o) then n else 0) ≢ 0 → json (meaning_of o by w).reply.bytes ≡ (meaning_of o by w).reply
in_json o by w n named = go (takes_slip (procedure_of o)) refl named
  where
    go : (b : Bool) → takes_slip (procedure_of o) ≡ b → (if b then n else 0) ≢ 0 → json (meaning_of o by w).reply.bytes ≡ (meaning_of o by w).reply
    go true is named = subst (λ m. json m.reply.bytes ≡ m.reply) (sym ((law_of o).said by w)) ((law_of o).in_json is ((form_of o).rows by w) by)
    go false is named = absurd (named refl)

module _ (w : WorldLists) (x : Execution) (named : slip_named x ≢ 0) where
  -- where it left the World as it was, it is as if it were not sent
  left_alone : step w (executes x) ≡ w → IsRetried w x (step w (executes x))
  left_alone stays = record { world = ap (λ z. step z (executes x)) stays; stated = ap (λ z. reply z (executes x)) stays }

  -- where it was accepted, its slip was taken, and who asks is known as before
  module _ (fresh : repeated w (executes x) ≡ None) (allowed : first w (executes x) ≡ None) where
    stepped : step w (executes x) ≡ effect w (executes x)
    stepped =
        ap (λ kept. unless_repeated kept (if_allowed (first w (executes x)) (effect w (executes x)) w) w) fresh
        ∙ ap (λ f. if_allowed f (effect w (executes x)) w) allowed

    known : denies rule.Identity (step w (executes x)) (executes x) ≡ false
    known =
        ap (λ p. not (is_identified (option_and_then (λ user. standing p user) x.who.user) x.who.session)) (ap (λ z. z.policy) stepped ∙ (operation_kept w x).policy)
        ∙ none_denies w (executes x) rule.Identity allowed

    bears : BearsSlipOf (step w (executes x)) x x
    bears = record { user = refl; number = refl; known = known }

    accepted : is_accepted w (record { request = executes x; mark = None }) ≡ true
    accepted = ap (λ kept. is_none kept && is_none (first w (executes x))) fresh ∙ ap (λ f. is_none f) allowed

    stated_first : reply w (executes x) ≡ Ok (reply_text w (executes x))
    stated_first =
        ap (λ kept. repeated_reply kept (stated (first w (executes x)) (reply_text w (executes x)))) fresh
        ∙ ap (λ f. stated f (reply_text w (executes x))) allowed

    acted : IsRetried w x (step w (executes x))
    acted =
        let kept = replies_are_kept w x [] named accepted in
        record {
          world = kept.left x bears refl;
          stated = kept.stated x bears refl ∙ ap (λ text. Ok text) (in_json x.op (signature_of x) w x.who.slip named) ∙ sym stated_first;
        }

  retried : (kept : Option (List ℕ)) (f : Option Rule) → repeated w (executes x) ≡ kept → first w (executes x) ≡ f → IsRetried w x (step w (executes x))
  retried None None fresh allowed = acted fresh allowed
  retried None (Some r) fresh denied =
      left_alone (ap (λ kept. unless_repeated kept (if_allowed (first w (executes x)) (effect w (executes x)) w) w) fresh
      ∙ ap (λ f. if_allowed f (effect w (executes x)) w) denied)
  retried (Some bytes) f again is = left_alone (ap (λ kept. unless_repeated kept (if_allowed (first w (executes x)) (effect w (executes x)) w) w) again)

as_it_was : (w : WorldLists) (x : Execution) (left : WorldLists) → slip_named x ≢ 0 → MayBeLeft w x left → IsRetried w x left
as_it_was w x left named (inl before) = record { world = ap (λ z. step z (executes x)) before; stated = ap (λ z. reply z (executes x)) before }
as_it_was w x left named (inr after) =
    let there = retried w x named (repeated w (executes x)) (first w (executes x)) refl refl in
    record { world = ap (λ z. step z (executes x)) after ∙ there.world; stated = ap (λ z. reply z (executes x)) after ∙ there.stated }

-- ---- in another session, at another moment

-- who is answered with 200 is known
module _ (v : WorldLists) (y : Execution) where
  known_again : (b : Bool) (bytes : List ℕ) → is_identified (grounds v y).standing (grounds v y).session ≡ b → (if b then kept_reply (slip_grounds v y) else None) ≡ Some bytes
      → denies rule.Identity v (executes y) ≡ false
  known_again true bytes is kept = ap not is
  known_again false bytes is kept = absurd cc

  known_answered : (kept : Option (List ℕ)) (f : Option Rule) (text : ReplyText) → repeated v (executes y) ≡ kept → first v (executes y) ≡ f
      → repeated_reply kept (stated f (reply_text v (executes y))) ≡ Ok text → denies rule.Identity v (executes y) ≡ false
  known_answered None None text fresh allowed is = none_denies v (executes y) rule.Identity allowed
  known_answered None (Some r) text fresh denied is = absurd cc
  known_answered (Some bytes) f text again judged is = known_again (is_identified (grounds v y).standing (grounds v y).session) bytes refl again

module _ (w : WorldLists) (x y : Execution) (text : ReplyText) (named : slip_named x ≢ 0) (sent : IsSentAgain x y) where
  -- of a World that the first left alone, this is what it is of the one before
  alone : (left : WorldLists) → left ≡ w → reply left (executes y) ≡ Ok text → IsAlone w y (step left (executes y)) text
  alone left same is = record { world = ap (λ z. step z (executes y)) same; stated = ap (λ z. reply z (executes y)) (sym same) ∙ is }

  -- where the first was accepted, this is its repeat
  repeats_it : repeated w (executes x) ≡ None → first w (executes x) ≡ None → reply (step w (executes x)) (executes y) ≡ Ok text
      → IsAlone w x (step (step w (executes x)) (executes y)) text
  repeats_it fresh allowed is =
      let v = step w (executes x) in
      let bears : BearsSlipOf v x y = record { user = sent.user; number = sent.number; known = known_answered v y (repeated v (executes y)) (first v (executes y)) text refl refl is } in
      let kept = replies_are_kept w x [] named (accepted w x named fresh allowed) in
      record {
        world = kept.left y bears sent.operation;
        stated = stated_first w x named fresh allowed ∙ sym (ap (λ t. Ok t) (in_json x.op (signature_of x) w x.who.slip named)) ∙ sym (kept.stated y bears sent.operation) ∙ is;
      }

  sent_again : (kept : Option (List ℕ)) (f : Option Rule) → repeated w (executes x) ≡ kept → first w (executes x) ≡ f → reply (step w (executes x)) (executes y) ≡ Ok text
      → HasActedOnce w x y (step w (executes x)) text
  sent_again None None fresh allowed is = inl (repeats_it fresh allowed is)
  sent_again None (Some r) fresh denied is =
      inr (alone (step w (executes x)) (ap (λ kept. unless_repeated kept (if_allowed (first w (executes x)) (effect w (executes x)) w) w) fresh
      ∙ ap (λ f. if_allowed f (effect w (executes x)) w) denied) is)
  sent_again (Some bytes) f again judged is =
      inr (alone (step w (executes x)) (ap (λ kept. unless_repeated kept (if_allowed (first w (executes x)) (effect w (executes x)) w) w) again) is)

as_another : (w : WorldLists) (x y : Execution) (left : WorldLists) (text : ReplyText) → slip_named x ≢ 0 → IsSentAgain x y → MayBeLeft w x left → reply left (executes y) ≡ Ok text
    → HasActedOnce w x y left text
as_another w x y left text named sent (inl before) is = inr (alone w x y text named sent left before is)
as_another w x y left text named sent (inr after) is =
    let there : reply (step w (executes x)) (executes y) ≡ Ok text = ap (λ z. reply z (executes y)) (sym after) ∙ is in
    subst (λ z. HasActedOnce w x y z text) (sym after) (sent_again w x y text named sent (repeated w (executes x)) (first w (executes x)) refl refl there)

pub retries_act_once : RetriesActOnce
retries_act_once = (as_it_was, as_another)
