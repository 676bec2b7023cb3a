-- What a connection's stream reports of what was done with it, and what reads and writes add to that.
use Rattle.std.specs.Prelude.{◌≡◌, ◌<◌, ◌≤◌, ℕ, ◌==◌, ◌&&◌, Bool, true, false, List, [], ◌++◌, length, take, ⊤, Option, Some, None, Result, MatchResult}

-- what was read of it since it began, what was written to it, how often it was asked to take some, and whether its last read showed that no more
-- comes: it gave nothing, as its client had ended, or failed
pub record Ways : Type 0 where
  pub received : List ℕ
  pub sent : List ℕ
  pub asked : ℕ
  pub ended : Bool

-- These bytes were read of it, and these were written to it, and no others. Nothing is said where it reports nothing.
abbrev pub Moves : Option Ways → Option Ways → List ℕ → List ℕ → Type 0
Moves None new came out = ⊤
Moves (Some w) None came out = ⊥
Moves (Some w) (Some v) came out = (v.received ≡ w.received ++ came) × (v.sent ≡ w.sent ++ out) × (w.asked ≤ v.asked)

-- it was asked since to take some
abbrev pub IsAsked : Option Ways → Option Ways → Type 0
IsAsked None new = ⊤
IsAsked (Some w) None = ⊥
IsAsked (Some w) (Some v) = w.asked < v.asked

-- its last read showed that no more comes
abbrev pub IsEnded : Option Ways → Type 0
IsEnded None = ⊤
IsEnded (Some w) = w.ended ≡ true

-- a read gave n bytes, and nothing if it failed
abbrev pub IsReadBy : {E : Type 0} → Option Ways → Option Ways → Result ℕ E → List ℕ → Type 0
IsReadBy old new r buf = MatchResult r (λ n. Moves old new (take n buf) []) (λ _. Moves old new [] [])

-- a write took n bytes, and nothing if it failed
abbrev pub IsWrittenBy : {E : Type 0} → Option Ways → Option Ways → Result ℕ E → List ℕ → Type 0
IsWrittenBy old new r buf = MatchResult r (λ n. Moves old new [] (take n buf)) (λ _. Moves old new [] [])

-- nothing was done with it yet
abbrev pub is_new : Option Ways → Bool
is_new None = false
is_new (Some w) = (length w.received == 0) && ((length w.sent == 0) && (w.asked == 0))
