-- What a judge of a request answers.
use Rattle.std.specs.Prelude.{◌≡◌, Bool, false, true, Option, Some, None, Result, Ok, Err, IfOk, IsSome, OnErr, ⊤}
use Rattle.money.specs.declared.fault.Fault.{Fault}
use Rattle.bank_terms.specs.declared.rule.Rule.{Rule}
use Rattle.bank_books.specs.Effects.{applied}
use Rattle.bank_books.specs.Version.{changes_policy}
use Rattle.bank_books.specs.WorldLists.{WorldLists}
use Rattle.store_rows.specs.Status.{RoseBy, Status, Tells}
use Rattle.bank_meaning.specs.Meaning.{Verdict, json, plain}
use Rattle.reports.specs.Report.{IsCounted, text_of}
use Rattle.reports.specs.declared.contents.Contents.{Contents}
use Rattle.op_prepare.specs.declared.prepared.Prepared.{Prepared}
use Rattle.op_prepare.specs.declared.prepared.Ready.{Ready}
use Rattle.op_prepare.specs.declared.prepared.Ready.TheVariants as ready

-- no rule denies, the plan makes the effect, and the text is the reply
pub record IsPrepared (w : WorldLists) (v : Verdict) (p : Prepared) : Type 0 where
  pub allowed : v.first ≡ None
  pub plan : applied p.plan.items w ≡ v.effect
  pub reply : json p.text.items ≡ v.reply

-- the first rule that denies, or what carries it out
abbrev pub IsJudged : (WorldLists → Verdict) → WorldLists → Result Prepared Rule → Type 0
IsJudged says w (Err rule) = (says w).first ≡ Some rule
IsJudged says w (Ok p) = IsPrepared w (says w) p

-- what carries it out leaves the policy as it is
abbrev pub LeavesPolicy : Result (Result Prepared Rule) Fault → Type 0
LeavesPolicy result = IfOk result (λ judged. IfOk judged (λ p. changes_policy p.plan.items ≡ false))

-- a fault that is answered is one that the store counted
abbrev pub CountsFault : {A : Type 0} → Status → Status → Result A Fault → Type 0
CountsFault old new result = OnErr result (RoseBy 1 old.fault_count new.fault_count)

-- Where one of these rules denies, a fault is one that the store counted: a denial is never reported as want of memory.
abbrev pub DeniesOrCounts : {A : Type 0} → Status → Status → (WorldLists → Option Rule) → Result A Fault → Type 0
DeniesOrCounts old new first_of result = Tells old new (λ w. IsSome (first_of w) → CountsFault old new result)

-- ---- reports

-- no rule denies, nothing is changed, and the text of what was counted is the reply
pub record IsReported (w : WorldLists) (v : Verdict) (c : Contents) : Type 0 where
  pub allowed : v.first ≡ None
  pub same : v.effect ≡ w
  pub reply : plain (text_of w c) ≡ v.reply
  pub counted : IsCounted w c

-- the first rule that denies, or a report that was counted
abbrev pub IsCountedFor : (WorldLists → Verdict) → WorldLists → Result Contents Rule → Type 0
IsCountedFor says w (Err rule) = (says w).first ≡ Some rule
IsCountedFor says w (Ok c) = IsReported w (says w) c

-- the first rule that denies, or what carries it out
abbrev pub IsReady : (WorldLists → Verdict) → WorldLists → Result Ready Rule → Type 0
IsReady says w (Err rule) = (says w).first ≡ Some rule
IsReady says w (Ok (ready.Change p)) = IsPrepared w (says w) p
IsReady says w (Ok (ready.Report c)) = IsReported w (says w) c

-- what carries it out leaves the policy as it is
abbrev pub LeavesPolicyReady : Result (Result Ready Rule) Fault → Type 0
LeavesPolicyReady (Ok (Ok (ready.Change p))) = changes_policy p.plan.items ≡ false
LeavesPolicyReady _ = ⊤

-- a report is counted for a question for one alone
abbrev pub ReportsOnly : Bool → Result (Result Ready Rule) Fault → Type 0
ReportsOnly is (Ok (Ok (ready.Report c))) = is ≡ true
ReportsOnly is _ = ⊤
