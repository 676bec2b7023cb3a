-- Connections, one more after those before.
use Rattle.std.specs.Prelude.{IsErrAnd, MatchResult}
use Rattle.std.proofs.Common.{◌≡◌, ◌+◌, ◌-◌, ◌<◌, ◌≤◌, ◌∙◌, ◌++◌, ◌∷◌, [], ℕ, List, None, Option, Result, Ok, Err, IfOk, ap, add_assoc, arith, max, refl, subst, sym}
use Rattle.counter_api.proofs.DayLemmas.{day_joined, day_of_none, day_of_serve, replied_by_serve}
use Rattle.std.specs.Io.KnownBytes.{append_known}
use Rattle.reports.specs.Report.{BeginsWith}
use Rattle.counter_api.proofs.CounterLemmas.{counter_exits}
use Rattle.counter_api.specs.Answers.{CounterAnswers, CounterBreaks}
use Rattle.counter_api.specs.Day.{IsDay}
use Rattle.counter_api.specs.Exit.{Place}
use Rattle.counter_api.specs.Run.{IsWhole}
use Rattle.counter_api.specs.declared.counter.Counter.{Counter}
use Rattle.http_connection.specs.Serving.{IsServedSo}
use Rattle.counter_connections.specs.Connections.{AreAllReplied, AreServed, StoreAndClock, IsConnection, counted, counted_by, messages_of}
use Rattle.http_messages.specs.declared.serving.ServeFault.{ServeFault}
use Rattle.http_messages.specs.declared.serving.Served.{Served}
use Rattle.store_rows.specs.Status.{Status, Tells}

pub counted_more : (exits : List (Result Served ServeFault)) (exit : Result Served ServeFault)
    → counted (exits ++ exit ∷ []) ≡ counted exits + counted_by exit
counted_more [] exit = omega arith
counted_more (first ∷ exits) exit =
    ap (λ n. counted_by first + n) (counted_more exits exit) ∙ sym (add_assoc (counted_by first) (counted exits) (counted_by exit))

-- what a connection counts is at most what may be answered on it
pub counts_at_most : (exit : Result Served ServeFault) (most : ℕ) → 0 < most → IfOk exit (λ served. served.messages ≤ most)
    → counted_by exit ≤ most
counts_at_most (Ok served) most some within = omega (arith, some, within)
counts_at_most (Err fault) most some within = some

-- an error goes on as one
pub ends_by_fault : {X E : Type 0} (r : Result X E) (P : E → Type 0) (A : X → Type 0) (B : Type 0) → IsErrAnd r P → B → MatchResult r A (λ _. B)
ends_by_fault (Ok x) P A B is b = absurd is
ends_by_fault (Err e) P A B is b = b

module _ {S C : Type 0} (status : S → Status) (users : List ℕ → Option ℕ) (may_give : C → ℕ → C → Type 0) where
  pub served_more : (wanted : ℕ) (old mid new : StoreAndClock S C) (exits : List (Result Served ServeFault)) (exit : Result Served ServeFault)
      → AreServed status users may_give wanted old exits mid → counted exits < wanted
      → IsConnection status users may_give (wanted - counted exits) mid None None new exit
      → AreServed status users may_give wanted old (exits ++ exit ∷ []) new
  served_more wanted old mid new [] exit same some next =
      let whole : wanted - 0 ≡ wanted = omega arith in
      let one = subst (λ most. IsConnection status users may_give most mid None None new exit) whole next in
      (some, (new, (subst (λ at. IsConnection status users may_give wanted at None None new exit) same one, refl)))
  served_more wanted old mid new (first ∷ exits) exit (wants, (at, (one, rest))) some next =
      let left : wanted - (counted_by first + counted exits) ≡ wanted - counted_by first - counted exits = omega arith in
      let fewer : counted exits < wanted - counted_by first = omega (arith, some) in (
        wants,
        (
          at,
          (
            one,
            served_more (wanted - counted_by first) at mid new exits exit rest fewer
                (subst (λ most. IsConnection status users may_give most mid None None new exit) left next),
          ),
        ),
      )

  -- connections one after another are one run
  pub one_day : (wanted : ℕ) (old : StoreAndClock S C) (exits : List (Result Served ServeFault)) (new : StoreAndClock S C) (served : AreServed status users may_give wanted old exits new)
      → IsDay users (status old.store) (status new.store) (messages_of status users may_give wanted old exits new served)
  one_day wanted old [] new same = subst (λ (at : StoreAndClock S C). IsDay users (status old.store) (status at.store) []) (sym same) (day_of_none users (status old.store))
  one_day wanted old (exit ∷ exits) new (wants, (mid, (one, rest))) =
      day_joined users (status old.store) (status mid.store) (status new.store) _ _
      (day_of_serve status users may_give wanted
      (record { left = None; written = None; store = old.store; clock = old.clock })
      (record { left = one.left; written = one.written; store = mid.store; clock = mid.clock })
      one.how one.served)
      (one_day (wanted - counted_by exit) mid exits new rest)

  pub all_replied : (wanted : ℕ) (old : StoreAndClock S C) (exits : List (Result Served ServeFault)) (new : StoreAndClock S C) (served : AreServed status users may_give wanted old exits new)
      → Tells (status old.store) (status new.store) (AreAllReplied status users may_give wanted old exits new served)
  all_replied wanted old [] new same = λ clean w held. tt
  all_replied wanted old (exit ∷ exits) new (wants, (mid, (one, rest))) = λ clean w held.
      let from : Place S C = record { left = None; written = None; store = old.store; clock = old.clock } in
      let to : Place S C = record { left = one.left; written = one.written; store = mid.store; clock = mid.clock } in
      let honest = (one_day (wanted - counted_by exit) mid exits new rest).honest clean in (
        replied_by_serve status users may_give wanted from to one.how one.served honest w held,
        all_replied (wanted - counted_by exit) mid exits new rest clean _ ((day_of_serve status users may_give wanted from to one.how one.served).moved honest w held),
      )

-- a stream that was served with its replies gathered, over a counter
pub over_counter : {S G C : Type 0} (status : S → Status) (users : G → List ℕ → Option ℕ) (may_give : C → ℕ → C → Type 0) (most : ℕ) (l m u v : Option (List ℕ)) (old new : Counter S G C) (exit : Result Served ServeFault)
    → IsServedSo (CounterAnswers status users may_give IsWhole) (CounterAnswers status users may_give BeginsWith) (CounterBreaks status users may_give) most l m u v old new exit
    → IsConnection status (users old.clerk.gate) may_give most (record { store = old.bank.store; clock = old.clock }) l u (record { store = new.bank.store; clock = new.clock }) exit
    × (users new.clerk.gate ≡ users old.clerk.gate)
over_counter status users may_give most l m u v old new exit is =
    let all = append_known v is.unsent in
    let stated = counter_exits status users may_give most (record { left = l; written = u; engine = old }) (record { left = m; written = all; engine = new }) is.how is.exit in
    (record { left = m; written = all; how = is.how; ends = is.ends; served = stated.0 }, stated.1)

-- of streams that are known to be these
pub known_of : {S C : Type 0} (status : S → Status) (users : List ℕ → Option ℕ) (may_give : C → ℕ → C → Type 0) (most : ℕ) (l sent u got : Option (List ℕ)) (old new : StoreAndClock S C) (exit : Result Served ServeFault)
    → l ≡ sent → u ≡ got → IsConnection status users may_give most old l u new exit → IsConnection status users may_give most old sent got new exit
known_of status users may_give most l sent u got old new exit is_sent is_got one =
    subst (λ o. IsConnection status users may_give most old o got new exit) is_sent (subst (λ o. IsConnection status users may_give most old l o new exit) is_got one)
