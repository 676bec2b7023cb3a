-- What calls of a store keep and count one after the other, where all but the last read and answer.
use Rattle.std.proofs.Common.{◌≡◌, ℕ, IsTrue, Option, Some, None, Result, Err, ap, subst, ◌∙◌, arith}
use Rattle.bank_books.specs.WorldLists.{WorldLists}
use Rattle.money.specs.declared.fault.Fault.{Fault}
use Rattle.money.specs.declared.fault.Fault.TheVariants as fault
use Rattle.store_rows.specs.Status.{Keeps, ReadsRow, RoseBy, Status, count_after, counts, failures_after, stops}

counted_then : (n old mid new : ℕ) → RoseBy 0 old mid → RoseBy n mid new → RoseBy n old new
counted_then n old mid new a b = grind arith

kept_then : (old mid new : Status) (m : Option Fault) → Keeps old mid None → Keeps mid new m → Keeps old new m
kept_then old mid new m a b = record {
  answers = record {
    honest = λ honest. a.answers.honest (b.answers.honest honest);
    state = b.answers.state ∙ ap (stops m) a.answers.state;
    was_stopped = λ is. subst (λ s. IsTrue s) a.answers.state (b.answers.was_stopped is);
    counted = counted_then (counts m) _ _ _ a.answers.counted b.answers.counted;
    no_more = omega (arith, a.answers.no_more, b.answers.no_more);
    failed = b.answers.failed ∙ ap (failures_after m) a.answers.failed;
  };
  kept = λ w holds. b.kept w (a.kept w holds);
  crash = λ honest w left. a.crash (b.answers.honest honest) w (b.crash honest w left);
  whole = λ honest before. b.whole honest (a.whole (b.answers.honest honest) before);
}

-- a call that keeps, and counts its fault
abbrev pub KeepsAndCounts : Status → Status → Option Fault → Type 0
KeepsAndCounts old new m = Keeps old new m × (new.fault_count ≡ count_after m old.fault_count)

-- a call that answers, and then another one
pub keeps_then : (old mid new : Status) (m : Option Fault) → KeepsAndCounts old mid None → KeepsAndCounts mid new m → KeepsAndCounts old new m
keeps_then old mid new m a b = (kept_then old mid new m a.0 b.0, b.1 ∙ ap (count_after m) a.1)

-- a call that answers is none of a store that is stopped
pub answered : {A : Type 0} {f : Fault} → None ≡ Some f → A
answered e = absurd (cc)

-- after calls that answer, a call ends in a fault
pub fails : {A : Type 0} (old new : Status) (r : Result A Fault) (e : Fault) (P : WorldLists → A → Type 0) → r ≡ Err e
    → (IsTrue old.is_stopped → None ≡ Some fault.Stopped) → KeepsAndCounts old new (Some e) → ReadsRow old new r P
fails old new r e P is refused kept = rw is (record { stated = λ honest w holds. tt; kept = kept.0; refused = λ stopped. answered (refused stopped); counted = kept.1 })
