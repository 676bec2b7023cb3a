-- Where a rule denies, a fault is one that the store counted.
use Rattle.std.proofs.Common.{◌≡◌, ℕ, Option, Some, Result, Ok, Err, ap, sym, subst, ◌∙◌}
use Rattle.std.specs.Global.{Vec}
use Rattle.std.specs.Prelude.{OnErr, option_and_then}
use Rattle.money.specs.declared.fault.Fault.{Fault}
use Rattle.bank_terms.specs.declared.rule.Rule.{Rule}
use Rattle.bank_policy.specs.HeldRows.{standing}
use Rattle.bank_policy.specs.declared.rows.Standing.{Standing}
use Rattle.bank_books.specs.WorldLists.{WorldLists}
use Rattle.store_rows.specs.Status.{Reads, Status}
use Rattle.bank_meaning.specs.Requests.{ends_session, first, opens_session, verdict}
use Rattle.bank_meaning.specs.Sessions.{first_against_ending, first_against_opening}
use Rattle.bank_meaning.specs.declared.request.Request.{Request}
use Rattle.bank_meaning.specs.declared.who.Who.{Who}
use Rattle.op_prepare.specs.Judged.{CountsFault, DeniesOrCounts, IsJudged}
use Rattle.op_prepare.specs.declared.prepared.Prepared.{Prepared}
use Rattle.op_prepare.proofs.CountedDenials.{none_denies}
use Rattle.decide.specs.Judged.{IsCarriedOut}

-- what holds holds of a fault
pub on_fault : {A P : Type 0} (result : Result A Fault) → P → OnErr result P
on_fault (Ok x) holds = tt
on_fault (Err fault) holds = holds

-- the rules of sessions, by the row of who asks
pub opening_is : (w : WorldLists) (user : ℕ) (row : Option Standing) → row ≡ standing w.policy user → first w (opens_session (Some user)) ≡ first_against_opening row
opening_is w user row is = ap first_against_opening (sym is)

pub ending_is : (w : WorldLists) (who : Who) (user : ℕ) (row : Option Standing) → who.user ≡ Some user → row ≡ standing w.policy user → first w (ends_session who) ≡ first_against_ending row who.session
ending_is w who user row named is = ap (λ (r : Option Standing). first_against_ending r who.session) (ap (option_and_then (standing w.policy)) named ∙ sym is)

-- what was judged is carried out, and a denial answered
pub carried_denied : (old mid new : Status) (q : Request) (judged : Result Prepared Rule) (result : Result (Result (Vec ℕ) Rule) Fault)
    → Reads old mid (Ok judged) (IsJudged (verdict q)) → IsCarriedOut mid new judged result → DeniesOrCounts old new (λ w. first w q) result
carried_denied old mid new q (Ok p) result read carried = λ honest w holds some. none_denies (first w q) (read.stated (carried.applied.answers.honest honest) w holds).allowed some
carried_denied old mid new q (Err rule) result read carried = λ honest w holds some. subst (CountsFault old new) (sym carried.denied) tt
