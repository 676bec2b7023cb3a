-- What a request that no rule denies makes of a World that passes its checks.
use Rattle.std.proofs.Common.{◌≡◌, ℕ, ◌≤◌, None}
use Rattle.bank_books.specs.WorldLists.{WorldLists}
use Rattle.bank_terms.specs.Limits.{max_key}
use Rattle.counter_ops.specs.Operations.{IsOp}
use Rattle.bank_meaning.specs.Executions.{books_meaning, signature_of}
use Rattle.bank_meaning.specs.PolicyRules.{asker, grounds, leave_of}
use Rattle.bank_meaning.specs.Requests.{effect, executes, first, repeated}
use Rattle.bank_meaning.specs.Operations.{moves_of}
use Rattle.bank_meaning.specs.Sums.{IsProper, PassesChecks, moves_of_asked}
use Rattle.bank_meaning.specs.declared.execution.Execution.{Execution}
use Rattle.bank_meaning.specs.declared.request.Asked.{Asked}
use Rattle.bank_meaning.specs.declared.request.Asked.TheVariants as asked
use Rattle.bank_meaning.specs.declared.request.Request.{Request}
use Rattle.bank_meaning.specs.declared.who.Who.{Who}
use Rattle.bank_meaning.proofs.AllowedRequest.{allowed_by_books, allowed_user}
use Rattle.bank_meaning.proofs.CommandSteps.{commands_step}
use Rattle.bank_meaning.proofs.SessionSteps.{ends_session, opens_session}
use Rattle.bank_meaning.proofs.Steps.{IsStep, stands}
use Rattle.bank_meaning.proofs.TakenSlip.{taken_step}
use Rattle.bank_meaning.proofs.UsedRelease.{used_step}
use Rattle.bank_meaning.proofs.Forms.{law_of}

-- ---- whatever is asked for

executed : (w : WorldLists) (x : Execution) → PassesChecks w → IsOp x.op → x.moment ≤ 99999999999 → x.who.slip ≤ max_key → repeated w (executes x) ≡ None → first w (executes x) ≡ None
    → IsStep w (effect w (executes x)) (moves_of x.op)
executed w x checks proper high slip fresh is =
    taken_step w x (moves_of x.op) checks proper slip fresh is
    (used_step w (books_meaning w x).effect (moves_of x.op) (leave_of (grounds w x)) (asker x.who)
    ((law_of x.op).steps (signature_of x) w checks proper (record { user = allowed_user w x is; moment = high }) (allowed_by_books w x is)))

abbrev asks : Asked → Who → ℕ → Request
asks a who moment = record { who = who; moment = moment; asked = a }

pub by_asked : (w : WorldLists) (a : Asked) (who : Who) (moment : ℕ) → PassesChecks w → IsProper (asks a who moment) → repeated w (asks a who moment) ≡ None → first w (asks a who moment) ≡ None
    → IsStep w (effect w (asks a who moment)) (moves_of_asked a)
by_asked w (asked.Operation op) who moment checks p fresh is = executed w (record { who = who; moment = moment; op = op }) checks p.asked p.moment p.slip fresh is
by_asked w asked.Opening who moment checks p fresh is = opens_session w who moment checks is
by_asked w asked.Ending who moment checks p fresh is = ends_session w who moment checks
by_asked w (asked.Command command) who moment checks p fresh is = commands_step w command who checks p.asked is
by_asked w asked.Listing who moment checks p fresh is = stands w checks
