-- What one request leaves of the policy, whatever is asked for, made or not, allowed or not; and that it leaves the books or the policy alone.
use Rattle.std.proofs.Common.{◌≡◌, ℕ, ◌+◌, ◌&&◌, Bool, true, false, cond, List, Option, Some, None, refl, sym, subst, ◌∙◌}
use Rattle.std.specs.Prelude.{is_none, nat_lt, if◌then◌else◌}
use Rattle.bank_terms.specs.Limits.{max_version}
use Rattle.bank_terms.specs.declared.rule.Rule.{Rule}
use Rattle.bank_terms.specs.declared.rule.Rule.TheVariants as rule
use Rattle.bank_books.specs.WorldLists.{WorldLists}
use Rattle.money.specs.declared.fault.Fault.{Fault}
use Rattle.certify.specs.Commands.{commanded}
use Rattle.policy_check.specs.Soundness.{IsPolicySound}
use Rattle.policy_commands.specs.Ranges.{IsPolicyOp}
use Rattle.policy_commands.specs.declared.policy_op.PolicyOp.{PolicyOp}
use Rattle.store_rows.specs.Status.{after_mark}
use Rattle.bank_meaning.specs.LastWord.{LeavesAlone, finds_room, is_command, is_effective}
use Rattle.bank_meaning.specs.PolicyRules.{asker}
use Rattle.bank_meaning.specs.Requests.{effect, first, repeated}
use Rattle.bank_meaning.specs.Run.{Marked, after_request, if_allowed, unless_repeated}
use Rattle.bank_meaning.specs.Sessions.{standing_of_asker}
use Rattle.bank_meaning.specs.Sums.{IsAsked, IsProper, PassesChecks}
use Rattle.bank_meaning.specs.declared.request.Asked.{Asked}
use Rattle.bank_meaning.specs.declared.request.Asked.TheVariants as asked
use Rattle.bank_meaning.specs.declared.request.Request.{Request}
use Rattle.bank_meaning.specs.declared.who.Who.{Who}
use Rattle.bank_meaning.proofs.FirstRule.{none_denies}
use Rattle.bank_meaning.proofs.LastWordCommands as said_by
use Rattle.bank_meaning.proofs.BookChanges.{IsPolicyKept, kept_itself}
use Rattle.bank_meaning.proofs.LastWordKept.{operation_kept}
use Rattle.bank_meaning.proofs.LastWordSaid.{IsSaid, listing_said, none_more, operation_said}
use Rattle.bank_meaning.proofs.LastWordUsers.{active_there, ended, identified_there, opened}

abbrev pub asks : Asked → Who → ℕ → Request
asks a who moment = record { who = who; moment = moment; asked = a }

-- ---- the policy

-- what is heard is said of the policy, and a command raises the version
pub record IsNextEffective (r : Request) (before after : WorldLists) : Type 0 where
  pub said : IsSaid r.who r.asked before.policy after.policy
  pub version : after.version ≡ before.version + cond (is_command r.asked) 1 0

-- from one World to the next, where the request is heard, or not
abbrev pub IsNext : Bool → Request → WorldLists → WorldLists → Type 0
IsNext true r before after = IsNextEffective r before after
IsNext false r before after = IsPolicyKept before after

command_next : (w : WorldLists) (c : PolicyOp) (who : Who) (moment : ℕ) → IsPolicySound w.policy → IsPolicyOp c → first w (asks (asked.Command c) who moment) ≡ None
    → (b : Bool) → IsNext b (asks (asked.Command c) who moment) w (if b then commanded w (asker who) c else w)
command_next w c who moment sound proper is true =
    let q : Request = asks (asked.Command c) who moment in
    record { said = said_by.commanded w.policy who c sound proper (none_denies w q rule.PolicyUnknown is) (none_denies w q rule.PolicyState is); version = refl }
command_next w c who moment sound proper is false = kept_itself w

by_asked : (w : WorldLists) (a : Asked) (who : Who) (moment : ℕ) → PassesChecks w → IsAsked a → first w (asks a who moment) ≡ None
    → IsNext (finds_room w a) (asks a who moment) w (effect w (asks a who moment))
by_asked w (asked.Operation op) who moment checks proper is =
    let kept = operation_kept w (record { who = who; moment = moment; op = op }) in
    record { said = subst (λ p. IsSaid who (asked.Operation op) w.policy p) (sym kept.policy) (operation_said who op w.policy); version = kept.version ∙ none_more w.version }
by_asked w asked.Opening who moment checks proper is = record {
  said = opened w.policy who (active_there (standing_of_asker who w) (none_denies w (asks asked.Opening who moment) rule.Identity is));
  version = none_more w.version;
}
by_asked w asked.Ending who moment checks proper is = record {
  said = ended w.policy who (identified_there (standing_of_asker who w) who.session (none_denies w (asks asked.Ending who moment) rule.Identity is));
  version = none_more w.version;
}
by_asked w (asked.Command c) who moment checks proper is = command_next w c who moment checks.sound proper is (nat_lt w.version max_version)
by_asked w asked.Listing who moment checks proper is = record { said = listing_said who w.policy; version = none_more w.version }

pub one_request : (w : WorldLists) (m : Marked) → PassesChecks w → (m.mark ≡ None → IsProper m.request) → IsNext (is_effective w m) m.request w (after_request w m)
one_request w m checks proper = go m.mark (repeated w m.request) (first w m.request) refl refl
  where
    go : (mark : Option Fault) (kept : Option (List ℕ)) (r : Option Rule) → m.mark ≡ mark → first w m.request ≡ r
        → IsNext ((is_none mark && (is_none kept && is_none r)) && finds_room w m.request.asked) m.request w
        (after_mark mark (unless_repeated kept (if_allowed r (effect w m.request) w) w) w)
    go None None None made is = by_asked w m.request.asked m.request.who m.request.moment checks (proper made).asked is
    go None None (Some r) made is = kept_itself w
    go None (Some kept) r made is = kept_itself w
    go (Some f) kept r made is = kept_itself w

-- ---- what is left alone

itself_alone : (a : Asked) (w : WorldLists) → LeavesAlone a w w
itself_alone (asked.Operation op) w = (refl, refl)
itself_alone asked.Opening w = refl
itself_alone asked.Ending w = refl
itself_alone (asked.Command c) w = refl
itself_alone asked.Listing w = refl

command_alone : (w : WorldLists) (c : PolicyOp) (by : ℕ) (b : Bool) → LeavesAlone (asked.Command c) w (if b then commanded w by c else w)
command_alone w c by true = refl
command_alone w c by false = refl

asked_alone : (w : WorldLists) (a : Asked) (who : Who) (moment : ℕ) → LeavesAlone a w (effect w (asks a who moment))
asked_alone w (asked.Operation op) who moment =
    let kept = operation_kept w (record { who = who; moment = moment; op = op }) in
    (kept.policy, kept.version)
asked_alone w asked.Opening who moment = refl
asked_alone w asked.Ending who moment = refl
asked_alone w (asked.Command c) who moment = command_alone w c (asker who) (nat_lt w.version max_version)
asked_alone w asked.Listing who moment = refl

pub leaves_alone : (w : WorldLists) (m : Marked) → LeavesAlone m.request.asked w (after_request w m)
leaves_alone w m = go m.mark (repeated w m.request) (first w m.request)
  where
    go : (mark : Option Fault) (kept : Option (List ℕ)) (r : Option Rule) → LeavesAlone m.request.asked w (after_mark mark (unless_repeated kept (if_allowed r (effect w m.request) w) w) w)
    go None None None = asked_alone w m.request.asked m.request.who m.request.moment
    go None None (Some r) = itself_alone m.request.asked w
    go None (Some kept) r = itself_alone m.request.asked w
    go (Some f) kept r = itself_alone m.request.asked w
