-- What a counted stream's failure count says, and what a write that stops leaves.
use Rattle.std.specs.Prelude.{◌≡◌, ℕ, ◌+◌, ◌-◌, ◌^◌, ◌<◌, ◌≤◌, ◌⊎◌, min, List, take, length, Option, Result, OnOk, OnErr, flat_map}
use Rattle.std.specs.Borrow.{Bor}
use Rattle.std.specs.Io.KnownBytes.{Appends}
use Rattle.money.specs.declared.tallied.Tallied.{Tallied}

-- the stream inside
abbrev pub stream_of : {T : Type 0} → Tallied T → T
stream_of t = t.stream

-- how many of its calls failed
abbrev pub failure_count : {T : Type 0} → Tallied T → ℕ
failure_count t = t.failures

-- the greatest count
abbrev pub full_count : ℕ
full_count = 2 ^ 64 - 1

-- one more, up to the greatest count
abbrev pub counted_once_more : ℕ → ℕ
counted_once_more n = min (n + 1) full_count

-- a failure was counted between the two counts: the count rose, or stands at its greatest
abbrev pub CountsFailure : ℕ → ℕ → Type 0
CountsFailure old new = (old < new) ⊎ (new ≡ full_count)

-- known bytes grew by a beginning of bs
abbrev pub AppendsBeginning : Option (List ℕ) → Option (List ℕ) → List ℕ → Type 0
AppendsBeginning old new bs = (n : ℕ) × (n ≤ length bs) × Appends old new (take n bs)

-- What a sending says of its writer. Where it ends well all the bytes went out, and no failure was counted; where it was stopped a
-- beginning of them went out, and that one failure was counted.
pub record Sends {W E : Type 0} (contents : W → Option (List ℕ)) (old new : Tallied W) (bs : List ℕ) (result : Result Unit E) : Type 0 where
  pub whole : OnOk result (Appends (contents (stream_of old)) (contents (stream_of new)) bs)
  pub beginning : OnErr result (AppendsBeginning (contents (stream_of old)) (contents (stream_of new)) bs)
  pub kept : OnOk result (failure_count new ≡ failure_count old)
  pub counted : OnErr result (failure_count new ≡ counted_once_more (failure_count old))
  pub cause : OnErr result (CountsFailure (failure_count old) (failure_count new))
  pub counts : failure_count old ≤ failure_count new

-- the bytes of the parts, one after another
abbrev pub joined : List (Bor (List ℕ)) → List ℕ
joined parts = flat_map (λ p. p.now) parts
