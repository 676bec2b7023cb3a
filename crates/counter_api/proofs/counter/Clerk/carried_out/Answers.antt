use Rattle.std.proofs.Common.{◌≡◌, ℕ, List, Option, Result, Ok, Err, subst, sym}
use Rattle.money.specs.declared.fault.Fault.{Fault}
use Rattle.http_messages.specs.Parts.{MessageParts}
use Rattle.store_rows.specs.Status.{Status}
use Rattle.bank_meaning.specs.declared.request.Asked.{Asked}
use Rattle.bank_meaning.specs.declared.request.Request.{Request}
use Rattle.counter_api.specs.CarriedOut.{IsCarried, IsCarriedOut}
use Rattle.counter_api.specs.Handled.{outcome_of}
use Rattle.counter_api.specs.Response.{ResponseParts}
use Rattle.counter_api.specs.Run.{IsResponse}
use Rattle.counter_api.specs.declared.counter.Outcome.{Outcome}
use Rattle.counter_api.proofs.counter.Clerk.carried_out.Goals as goal

-- what the request for this comes to, where it is what is asked for
as_asked : (old new : Status) (before after : Option (List ℕ)) (m : MessageParts) (r : Request) (a : Asked) (result : Result Outcome Fault) → r.asked ≡ a
    → IsCarried old new before after m (record { who = r.who; moment = r.moment; asked = a }) result → IsCarried old new before after m r result
as_asked old new before after m r a result is done = subst (λ b. IsCarried old new before after m (record { who = r.who; moment = r.moment; asked = b }) result) (sym is) done

-- and of a response that is still to be written
to_carried : (old new : Status) (before after : Option (List ℕ)) (m : MessageParts) (r : Request) (response : Result ResponseParts Fault) (result : Result Outcome Fault) → result ≡ outcome_of response
    → IsCarriedOut IsResponse old new r response → IsCarried old new before after m r result
to_carried old new before after m r (Ok response) result is done = rw is done
to_carried old new before after m r (Err fault) result is done = rw is done

pub returns-in-Operation-clause-carried : goal.returns-in-Operation-clause-carried
returns-in-Operation-clause-carried g c = as_asked _ _ _ _ c.args.message.now c.args.request _ c.operation_done.result c.in-Operation.is c.operation_done.ensures.carried

pub returns-in-Listing-clause-carried : goal.returns-in-Listing-clause-carried
returns-in-Listing-clause-carried g c = as_asked _ _ _ _ c.args.message.now c.args.request _ c.policy_listed.result c.in-Listing.is c.policy_listed.ensures.carried

pub returns-in-Command-clause-carried : goal.returns-in-Command-clause-carried
returns-in-Command-clause-carried g c =
    as_asked _ _ _ _ c.args.message.now c.args.request _ c.outcome_of-in-Command.result c.in-Command.is
    (to_carried _ _ _ _ _ _ c.command_done.result c.outcome_of-in-Command.result c.outcome_of-in-Command.ensures c.command_done.ensures)
