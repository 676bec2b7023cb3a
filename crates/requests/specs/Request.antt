-- The request that a message states, or why it states none.
use Rattle.std.specs.Prelude.{ℕ, ◌≡◌, true, List, Option, Some, None, Result, Ok, Err, ⊤}
use Rattle.std.specs.Option.{option_map_or}
use Rattle.bank_terms.specs.declared.procedure.Procedure.{Procedure}
use Rattle.bodies.specs.Operation.{stated_op}
use Rattle.bodies.specs.Command.{stated_command}
use Rattle.policy_commands.specs.declared.command.Command.{Command}
use Rattle.bank_meaning.specs.Operations.{is_report}
use Rattle.bank_meaning.specs.declared.request.Asked.{Asked}
use Rattle.bank_meaning.specs.declared.request.Asked.TheVariants as asked
use Rattle.bank_meaning.specs.declared.request.Request.{Request}
use Rattle.bank_meaning.specs.declared.who.Who.{Who}
use Rattle.http_heads.specs.declared.fault.MessageFault.{MessageFault}
use Rattle.http_heads.specs.declared.fault.MessageFault.TheVariants.{BadContent, NoSuchRoute}
use Rattle.http_messages.specs.Parts.{MessageParts}
use Rattle.requests.specs.Fields.{who_by_badge, who_of, who_of_operation}
use Rattle.requests.specs.Routes.{asked_route}
use Rattle.requests.specs.declared.routes.Route.{Route}
use Rattle.requests.specs.declared.routes.Route.TheVariants as route

-- the operation that the body states, asked at the moment by who it is
abbrev pub asked_by : Procedure → ℕ → List ℕ → Result Who MessageFault → Result Request MessageFault
asked_by procedure moment body (Ok who) = option_map_or (λ op. Ok (record { who = who; moment = moment; asked = asked.Operation op })) (stated_op procedure body) (Err BadContent)
asked_by procedure moment body (Err fault) = Err fault

-- the command of the policy that the body states
abbrev pub commanded_by : Command → ℕ → List ℕ → Result Who MessageFault → Result Request MessageFault
commanded_by command moment body (Ok who) = option_map_or (λ op. Ok (record { who = who; moment = moment; asked = asked.Command op })) (stated_command command body) (Err BadContent)
commanded_by command moment body (Err fault) = Err fault

-- the opening or the ending of a session, or the listing of the policy, asked at the moment by who it is; the body is not looked at
abbrev pub session_by : Asked → ℕ → Result Who MessageFault → Result Request MessageFault
session_by asked moment (Ok who) = Ok (record { who = who; moment = moment; asked = asked })
session_by asked moment (Err fault) = Err fault

-- the request of a route; who opens a session need not have one, and is known by the badge alone
abbrev pub asked_of : (List ℕ → Option ℕ) → ℕ → MessageParts → Option Route → Result Request MessageFault
asked_of users moment m (Some (route.Operation procedure)) = asked_by procedure moment m.body (who_of_operation users procedure m.head.fields)
asked_of users moment m (Some route.Opening) = session_by asked.Opening moment (who_by_badge users m.head.fields)
asked_of users moment m (Some route.Ending) = session_by asked.Ending moment (who_of users m.head.fields)
asked_of users moment m (Some (route.Policy command)) = commanded_by command moment m.body (who_of users m.head.fields)
asked_of users moment m (Some route.Listing) = session_by asked.Listing moment (who_of users m.head.fields)
asked_of users moment m None = Err NoSuchRoute

-- The request that a message states at a moment, where the badges name these users. Else its fault: method and path ask
-- for nothing; or a field or the body is not of its form.
abbrev pub request_of : (List ℕ → Option ℕ) → ℕ → MessageParts → Result Request MessageFault
request_of users moment m = asked_of users moment m (asked_route m.head.method m.head.target)

-- what is asked for is answered by a report, which is written row by row after its head
abbrev pub IsReport : Asked → Type 0
IsReport (asked.Operation op) = is_report op ≡ true
IsReport asked.Listing = ⊤
IsReport _ = ⊥
