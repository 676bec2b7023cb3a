-- What many connections that were served at once come to, over one bank.
use Rattle.std.specs.Prelude.{◌≡◌, ◌+◌, ◌<◌, ℕ, suc, Bool, List, [], ◌∷◌, ◌++◌, Contains, take, Option, Some, false, true, ⊤}
use Rattle.bank_books.specs.WorldLists.{WorldLists}
use Rattle.reports.specs.Report.{BeginsWith}
use Rattle.store_rows.specs.Status.{Status, Tells}
use Rattle.http_messages.specs.Whole.{Splits}
use Rattle.counter_api.specs.Day.{IsDay}
use Rattle.counter_loop.specs.Turns.{AreTurns, StoreAndClock, Box, Boxes, Turn, due_to, nothing_yet, of_one, one_list, whose}
use Rattle.counter_door.specs.Ways.{Moves, Ways}

-- no number is there twice
abbrev pub AreDistinct : List ℕ → Type 0
AreDistinct [] = ⊤
AreDistinct (k ∷ ks) = ¬ (Contains ks k) × AreDistinct ks

-- What was put into the outbox of each connection is a beginning of what is due to it: the replies to its own messages, each in the World that
-- the messages of all connections before it left, and of a refusal after them.
abbrev pub AreAnswered : (List ℕ → Option ℕ) → List Turn → WorldLists → Type 0
AreAnswered users turns w = (k : ℕ) → BeginsWith (due_to users k w turns) (of_one k (λ t. t.sent) turns)

-- What has gone out to each connection as the turn after the first n begins is a beginning of what those n owe it.
abbrev pub AreSentBefore : (List ℕ → Option ℕ) → List Turn → ℕ → WorldLists → Type 0
AreSentBefore users turns n w = (k : ℕ) → BeginsWith (due_to users k w (take n turns)) (of_one k (λ t. t.gave) (take (suc n) turns))

-- From what there was of a connection after its last turn to its stream as that is now: so much of what waited went out to it, from the front,
-- and this still waits. Where no other turn can follow, what was read of it was let go; else nothing was read.
pub record IsSince (box : Box) (now : Option Ways) (rest : List ℕ) : Type 0 where
  pub out : List ℕ
  pub waits : box.waits ≡ out ++ rest
  pub read_since : List ℕ
  pub none_received : box.is_over ≡ false → read_since ≡ []
  pub moved : Moves box.ways now read_since out

-- The stream of one connection, from when it began to its end: what was read of it came in its turns, but for what was let go after the last;
-- and what went out to it, in its turns and after them, is a beginning of what its turns put into its outbox.
pub record IsOneStream (begins : Option Ways → Bool) (k : ℕ) (turns : List Turn) : Type 0 where
  pub first : Option Ways
  pub begun : begins first ≡ true
  pub last : Option Ways
  pub read_since : List ℕ
  pub out : List ℕ
  pub moved : Moves first last (of_one k (λ t. t.came) turns ++ read_since) (of_one k (λ t. t.gave) turns ++ out)
  pub due : BeginsWith (of_one k (λ t. t.sent) turns) (of_one k (λ t. t.gave) turns ++ out)

-- The same of one that was let go, as its stream was then. If it had no turn, nothing was read of it, and nothing went out to it.
pub record EndsAs (begins : Option Ways → Bool) (k : ℕ) (turns : List Turn) (last : Option Ways) : Type 0 where
  pub first : Option Ways
  pub begun : begins first ≡ true
  pub read_since : List ℕ
  pub none_received : ¬ (Contains (whose turns) k) → read_since ≡ []
  pub out : List ℕ
  pub moved : Moves first last (of_one k (λ t. t.came) turns ++ read_since) (of_one k (λ t. t.gave) turns ++ out)
  pub due : BeginsWith (of_one k (λ t. t.sent) turns) (of_one k (λ t. t.gave) turns ++ out)

-- of these, one after another
abbrev pub EndAs : (Option Ways → Bool) → List Turn → List ℕ → List (Option Ways) → Type 0
EndAs begins turns [] [] = ⊤
EndAs begins turns [] (last ∷ lasts) = ⊥
EndAs begins turns (k ∷ who) [] = ⊥
EndAs begins turns (k ∷ who) (last ∷ lasts) = EndsAs begins k turns last × EndAs begins turns who lasts

-- The turns are those of the connections that a door gave: given_old before, given_new by now, each under the next number. All that came since were let
-- go, one after another, each as its stream was then: none unseen, and no two under one number.
pub record AreOfDoor (begins : Option Ways → Bool) (given_old given_new : ℕ) (parted : List (Option Ways)) (turns : List Turn) : Type 0 where
  pub who : List ℕ
  pub distinct : AreDistinct who
  pub all : (k : ℕ) → given_old + k < given_new → Contains who k
  pub given : (k : ℕ) → Contains who k → given_old + k < given_new
  pub known : (k : ℕ) → Contains (whose turns) k → Contains who k
  pub each : EndAs begins turns who parted

-- The connections had turns, one after another, in whatever order. The messages of all of them, in the order in which turns took them, are
-- one run of the bank, and each connection gets a beginning of the replies to its own. Connections begin as `begins` says.
pub record AreAttended {S C : Type 0} (begins : Option Ways → Bool) (status : S → Status) (users : List ℕ → Option ℕ) (may_give : C → ℕ → C → Type 0) (old new : StoreAndClock S C) : Type 0 where
  pub turns : List Turn
  pub after : Boxes
  pub are_turns : AreTurns begins status users may_give nothing_yet old turns after new
  pub day : IsDay users (status old.store) (status new.store) (one_list turns)
  -- what was read of each is its own messages, and a rest
  pub messages : (k : ℕ) → (rest : List ℕ) × Splits (of_one k (λ t. t.came) turns) (of_one k (λ t. t.messages) turns) rest
  pub replied : Tells (status old.store) (status new.store) (AreAnswered users turns)
  -- and what went out to each before its last turn is a beginning of what was put into its outbox
  pub handed : (k : ℕ) → BeginsWith (of_one k (λ t. t.sent) turns) (of_one k (λ t. t.gave) turns)
  -- It was read of its own stream, and went out to that, with what went out after its last turn, and no other byte.
  pub streams : (k : ℕ) (box : Box) → after k ≡ Some box → IsOneStream begins k turns
