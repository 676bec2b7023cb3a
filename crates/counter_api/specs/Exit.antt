-- How a call of `serve` ends: what was read, what was written, and what became of the bank, by its exit.
use Rattle.std.specs.Prelude.{◌≡◌, ◌⊎◌, ⊤, ℕ, ◌+◌, ◌≤◌, List, [], ◌∷◌, ◌++◌, length, map, Option, Result, Ok, Err}
use Rattle.std.specs.Io.KnownBytes.{Appends, Consumes, IsAtEnd}
use Rattle.http_messages.specs.Blank.{AreLineEnds}
use Rattle.http_messages.specs.Exit.{Ends, GoesOn, StopsWithin}
use Rattle.http_messages.specs.Next.{IsPartial}
use Rattle.http_messages.specs.Inbox.{max_message_len}
use Rattle.http_messages.specs.Refusal.{IsRefusal}
use Rattle.http_messages.specs.Whole.{Splits, WholeMessage, message_parts}
use Rattle.http_messages.specs.declared.serving.ServeFault.{ServeFault}
use Rattle.http_messages.specs.declared.serving.ServeFault.TheVariants.{Cut, Memory, Read, Report, Write}
use Rattle.http_messages.specs.declared.serving.Served.{Served}
use Rattle.store_rows.specs.Status.{Status, Tells}
use Rattle.reports.specs.Report.{BeginsWith}
use Rattle.counter_api.specs.Answers.{IsBroken}
use Rattle.counter_api.specs.Run.{IsHandled, IsRun, IsWhole, MarkedMessage, replies_to}

-- a counter at one point, as its caller sees it: what its reader has left, what its writer has, its store and its clock
pub record Place (S C : Type 0) : Type 0 where
  pub left : Option (List ℕ)
  pub written : Option (List ℕ)
  pub store : S
  pub clock : C

module _ {S C : Type 0} (status : S → Status) (users : List ℕ → Option ℕ) (may_give : C → ℕ → C → Type 0) where
  -- the clock gave each message its moment, one after another
  abbrev pub Gives : C → List MarkedMessage → C → Type 0
  Gives from [] to = to ≡ from
  Gives from (m ∷ ms) to = (mid : C) × may_give from m.moment mid × Gives mid ms to

  -- the store passed through a state after each of these messages
  abbrev pub Passes : S → List MarkedMessage → S → Type 0
  Passes from [] to = to ≡ from
  Passes from (m ∷ ms) to = (mid : S) × IsHandled users (status from) (status mid) m (λ response. ⊤) × Passes mid ms to

  -- The bytes that were read are these messages, one after another, and a rest. Each message bore a moment of the clock, and a
  -- mark, and out stands so to the replies to them.
  pub record Serves (how : List ℕ → List ℕ → Type 0) (old new : Place S C) (messages : List WholeMessage) (rest : List ℕ) (run : List MarkedMessage) (out : List ℕ) : Type 0 where
    pub bytes : List ℕ
    pub taken : Consumes old.left new.left bytes
    pub splits : Splits bytes messages rest
    pub marked : map (λ m. m.message) run ≡ map message_parts messages
    pub given : Gives old.clock run new.clock
    pub ran : IsRun how users (status old.store) (status new.store) run out
    pub passed : Passes old.store run new.store
    pub bounded : length rest ≤ max_message_len

  -- the reply to the last of the messages stopped: all those before it were written, and a beginning of it
  abbrev pub StopsInReply : ℕ → Place S C → Place S C → Type 0
  StopsInReply most old new =
      (before : List WholeMessage) × (last : WholeMessage) × (rest : List ℕ) × (run : List MarkedMessage) × (marked : MarkedMessage) × (replies : List ℕ) × (sent : List ℕ)
      × Serves BeginsWith old new (before ++ last ∷ []) rest (run ++ marked ∷ []) (replies ++ sent)
      × GoesOn most before × Tells (status old.store) (status new.store) (λ w. replies ≡ replies_to users w run)
      × Appends old.written new.written (replies ++ sent)

  -- The bytes that were read are these messages, one more that was handed on last, and a rest. Those before it ran, left
  -- the store and the clock here, and have these replies. From here on the reply to the last one broke, after `sent`.
  pub record Breaks (old new : Place S C) (before : List WholeMessage) (last : WholeMessage) (rest : List ℕ) (run : List MarkedMessage) (replies sent : List ℕ) : Type 0 where
    pub bytes : List ℕ
    pub taken : Consumes old.left new.left bytes
    pub splits : Splits bytes (before ++ last ∷ []) rest
    pub marked : map (λ m. m.message) run ≡ map message_parts before
    pub store : S
    pub clock : C
    pub given : Gives old.clock run clock
    pub ran : IsRun IsWhole users (status old.store) (status store) run replies
    pub passed : Passes old.store run store
    pub broken : IsBroken users may_give (status store) (status new.store) clock new.clock (message_parts last) sent
    pub bounded : length rest ≤ max_message_len

  -- the reply to bytes that begin no message stopped
  abbrev pub StopsInRefusal : ℕ → Place S C → Place S C → Type 0
  StopsInRefusal most old new =
      (ms : List WholeMessage) × (rest : List ℕ) × (run : List MarkedMessage) × (out : List ℕ) × (reply : List ℕ)
      × Serves IsWhole old new ms rest run out × GoesOn most ms × IsRefusal rest reply × StopsWithin old.written new.written out reply

  -- The table of exits. Ok: the replies to the messages counted were written; no further reply is due, or what follows begins no
  -- message and was refused. Read, Cut: the replies to the whole messages before. Write: the replies before the one whose write failed,
  -- and a beginning of that one. Report: the replies before the one that broke, and a beginning of that one; its message changed
  -- nothing. Memory: nothing was read, done or written.
  abbrev pub IsServed : ℕ → Place S C → Place S C → Result Served ServeFault → Type 0
  IsServed most old new (Ok s) =
      (ms : List WholeMessage) × (rest : List ℕ) × (run : List MarkedMessage) × (out : List ℕ) × Serves IsWhole old new ms rest run out
      × (((s.messages ≡ length ms) × Ends most ms rest new.left × Appends old.written new.written out)
      ⊎ ((s.messages ≡ length ms + 1) × GoesOn most ms × (reply : List ℕ) × IsRefusal rest reply × Appends old.written new.written (out ++ reply)))
  IsServed most old new (Err Read) =
      (ms : List WholeMessage) × (rest : List ℕ) × (run : List MarkedMessage) × (out : List ℕ) × Serves IsWhole old new ms rest run out
      × GoesOn most ms × IsPartial rest × Appends old.written new.written out
  IsServed most old new (Err Cut) =
      (ms : List WholeMessage) × (rest : List ℕ) × (run : List MarkedMessage) × (out : List ℕ) × Serves IsWhole old new ms rest run out
      × GoesOn most ms × IsPartial rest × ¬ (AreLineEnds rest) × IsAtEnd new.left × Appends old.written new.written out
  IsServed most old new (Err Write) = StopsInReply most old new ⊎ StopsInRefusal most old new
  IsServed most old new (Err Report) =
      (before : List WholeMessage) × (last : WholeMessage) × (rest : List ℕ) × (run : List MarkedMessage) × (replies : List ℕ) × (sent : List ℕ)
      × Breaks old new before last rest run replies sent × GoesOn most before × Appends old.written new.written (replies ++ sent)
  IsServed most old new (Err Memory) = new ≡ old
