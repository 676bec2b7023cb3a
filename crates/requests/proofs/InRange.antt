-- That the request which a message states is in range: its members by the law of bodies, and its slip as the number of a field.
use Rattle.std.proofs.Common.{◌≡◌, ◌≤◌, ℕ, Bool, true, false, cond, List, [], ◌∷◌, Option, Some, None, Result, Ok, Err, IfOk, IfSome, refl, arith}
use Rattle.std.specs.Prelude.{codes}
use Rattle.std.specs.Option.{option_map_or}
use Rattle.std.specs.Str.Parse.{digits_value}
use Rattle.bank_terms.specs.Limits.{max_key, max_moment}
use Rattle.bank_terms.specs.Procedure.{takes_slip}
use Rattle.bank_terms.specs.declared.procedure.Procedure.{Procedure}
use Rattle.counter_ops.specs.Operations.{IsOp}
use Rattle.counter_ops.specs.declared.op.Op.{Op}
use Rattle.policy_commands.specs.Ranges.{IsPolicyOp}
use Rattle.policy_commands.specs.declared.command.Command.{Command}
use Rattle.policy_commands.specs.declared.policy_op.PolicyOp.{PolicyOp}
use Rattle.bodies.specs.Command.{stated_command}
use Rattle.bodies.specs.Operation.{stated_op}
use Rattle.bodies.proofs.CommandsInRange.{commands_in_range}
use Rattle.bodies.proofs.OperationsInRange.{operations_in_range}
use Rattle.bank_meaning.specs.Sums.{IsAsked, IsProper}
use Rattle.bank_meaning.specs.declared.request.Asked.{Asked}
use Rattle.bank_meaning.specs.declared.request.Asked.TheVariants as asked
use Rattle.bank_meaning.specs.declared.who.Who.{Who}
use Rattle.http_heads.specs.Fields.{values_named}
use Rattle.http_heads.specs.declared.fault.MessageFault.{MessageFault}
use Rattle.http_heads.specs.declared.fault.MessageFault.TheVariants.{BadContent}
use Rattle.http_messages.specs.Parts.{MessageParts}
use Rattle.requests.specs.Fields.{is_number, number_of, slip_for, user_of, who_by_badge, who_from, who_of, who_of_operation, with_release, with_slip}
use Rattle.requests.specs.Laws.{WhatIsStatedIsInRange}
use Rattle.requests.specs.Request.{asked_by, asked_of, commanded_by, session_by}
use Rattle.requests.specs.Routes.{asked_route}
use Rattle.requests.specs.declared.routes.Route.{Route}
use Rattle.requests.specs.declared.routes.Route.TheVariants as route
use Rattle.requests.proofs.NumberLemmas.{number_parts}

-- ---- numbers of fields

passed : {A F : Type 0} (test : Bool) (a : A) (fault : F) (P : A → Type 0) → (test ≡ true → P a) → IfOk (cond test (Ok a) (Err fault)) P
passed true a fault P is = is refl
passed false a fault P is = tt

number_in_range : (values : List (List ℕ)) → IfOk (number_of values) (λ n. n ≤ max_key)
number_in_range [] = omega arith
number_in_range (value ∷ []) = passed (is_number value) (digits_value 10 value) BadContent (λ n. n ≤ max_key) (λ is. (number_parts value is).1)
number_in_range (value ∷ other ∷ values) = tt

slip_in_range : (procedure : Procedure) (fields : List (List ℕ × List ℕ)) → IfOk (slip_for procedure fields) (λ n. n ≤ max_key)
slip_in_range procedure fields = go (takes_slip procedure)
  where
    go : (takes : Bool) → IfOk (cond takes (number_of (values_named (codes "Bank-Slip") fields)) (Ok 0)) (λ n. n ≤ max_key)
    go true = number_in_range (values_named (codes "Bank-Slip") fields)
    go false = omega arith

-- ---- who asks

abbrev HasSlip : Who → Type 0
HasSlip who = who.slip ≤ max_key

without_slip : (user : Result (Option ℕ) MessageFault) (session : Result ℕ MessageFault) → IfOk (who_from user session) HasSlip
without_slip (Ok user) (Ok session) = omega arith
without_slip (Ok user) (Err fault) = tt
without_slip (Err fault) session = tt

given_slip : (who : Result Who MessageFault) (slip : Result ℕ MessageFault) → IfOk slip (λ n. n ≤ max_key) → IfOk (with_slip who slip) HasSlip
given_slip (Ok who) (Ok slip) small = small
given_slip (Ok who) (Err fault) small = tt
given_slip (Err fault) slip small = tt

in_session : (users : List ℕ → Option ℕ) (fields : List (List ℕ × List ℕ)) → IfOk (who_of users fields) HasSlip
in_session users fields = without_slip (user_of users (values_named (codes "Bank-Badge") fields)) (number_of (values_named (codes "Bank-Session") fields))

-- ---- what they ask for

operation : (procedure : Procedure) (moment : ℕ) (body : List ℕ) (who : Result Who MessageFault) → moment ≤ max_moment → IfOk who HasSlip → IfOk (asked_by procedure moment body who) IsProper
operation procedure moment body (Err fault) in_time slip = tt
operation procedure moment body (Ok who) in_time slip = go (stated_op procedure body) (operations_in_range procedure body)
  where
    go : (stated : Option Op) → IfSome stated IsOp → IfOk (option_map_or (λ op. Ok (record { who = who; moment = moment; asked = asked.Operation op })) stated (Err BadContent)) IsProper
    go None is = tt
    go (Some op) is = record { asked = is; moment = in_time; slip = slip }

command : (chosen : Command) (moment : ℕ) (body : List ℕ) (who : Result Who MessageFault) → moment ≤ max_moment → IfOk who HasSlip → IfOk (commanded_by chosen moment body who) IsProper
command chosen moment body (Err fault) in_time slip = tt
command chosen moment body (Ok who) in_time slip = go (stated_command chosen body) (commands_in_range chosen body)
  where
    go : (stated : Option PolicyOp) → IfSome stated IsPolicyOp → IfOk (option_map_or (λ op. Ok (record { who = who; moment = moment; asked = asked.Command op })) stated (Err BadContent)) IsProper
    go None is = tt
    go (Some op) is = record { asked = is; moment = in_time; slip = slip }

session : (what : Asked) (moment : ℕ) (who : Result Who MessageFault) → IsAsked what → moment ≤ max_moment → IfOk who HasSlip → IfOk (session_by what moment who) IsProper
session what moment (Ok who) is in_time slip = record { asked = is; moment = in_time; slip = slip }
session what moment (Err fault) is in_time slip = tt

by_route : (users : List ℕ → Option ℕ) (moment : ℕ) (m : MessageParts) (path : Option Route) → moment ≤ max_moment → IfOk (asked_of users moment m path) IsProper
by_route users moment m (Some (route.Operation procedure)) in_time =
    let fields = m.head.fields in
    operation procedure moment m.body (who_of_operation users procedure fields) in_time
    (given_slip (with_release (who_of users fields) (number_of (values_named (codes "Bank-Release") fields))) (slip_for procedure fields) (slip_in_range procedure fields))
by_route users moment m (Some route.Opening) in_time =
    session asked.Opening moment (who_by_badge users m.head.fields) tt in_time (without_slip (user_of users (values_named (codes "Bank-Badge") m.head.fields)) (Ok 0))
by_route users moment m (Some route.Ending) in_time = session asked.Ending moment (who_of users m.head.fields) tt in_time (in_session users m.head.fields)
by_route users moment m (Some (route.Policy chosen)) in_time = command chosen moment m.body (who_of users m.head.fields) in_time (in_session users m.head.fields)
by_route users moment m (Some route.Listing) in_time = session asked.Listing moment (who_of users m.head.fields) tt in_time (in_session users m.head.fields)
by_route users moment m None in_time = tt

pub what_is_stated_is_in_range : WhatIsStatedIsInRange
what_is_stated_is_in_range users moment m in_time = by_route users moment m (asked_route m.head.method m.head.target) in_time
