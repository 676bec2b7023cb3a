-- What was counted after a call that counted nothing.
use Rattle.std.proofs.Common.{◌≡◌, ◌⊎◌, Result, Ok, Err, IfErr, inl, inr, ap, ◌∙◌}
use Rattle.money.specs.Counted.{counted_once_more}
use Rattle.money.specs.declared.tallied.Tallied.{Tallied}
use Rattle.http_messages.specs.declared.serving.ServeFault.{ServeFault}
use Rattle.http_messages.specs.declared.serving.ServeFault.TheVariants.{Read, Write, Cut, Memory, Report}
use Rattle.http_messages.specs.Failures.{CountsByCall, CountsByEnd, CountsByExit, CountsNone, CountsOne}

pub one_after : {T : Type 0} (old mid new : Tallied T) → CountsNone old mid → CountsOne mid new → CountsOne old new
one_after old mid new none one = one ∙ ap counted_once_more none

-- a turn after it
pub end_after : {R W : Type 0} (A B : Type 0) (q r s : Tallied R) (u v w : Tallied W) (f : ServeFault) → CountsNone q r × CountsNone u v
    → CountsByEnd {A = A} r s v w (Err f) → CountsByEnd {A = B} q s u w (Err f)
end_after A B q r s u v w Read before end = (one_after q r s before.0 end.0, end.1 ∙ before.1)
end_after A B q r s u v w Write before end = (end.0 ∙ before.0, one_after u v w before.1 end.1)
end_after A B q r s u v w Cut before end = (end.0 ∙ before.0, end.1 ∙ before.1)
end_after A B q r s u v w Report before end = (end.0 ∙ before.0, end.1 ∙ before.1)
end_after A B q r s u v w Memory before end = (end.0 ∙ before.0, end.1 ∙ before.1)

-- the last flush after it
pub flush_after : {R W A : Type 0} (r s : Tallied R) (u v w : Tallied W) (end : Result A ServeFault) → CountsNone r s × CountsNone u v
    → IfErr end (λ f. f ≡ Write) → CountsByCall v w end → CountsByExit r s u w end
flush_after r s u v w (Ok x) before is none = (before.0, none ∙ before.1)
flush_after r s u v w (Err Write) before is one = (before.0, one_after u v w before.1 one)
flush_after r s u v w (Err Read) before is one = let e = is in absurd cc
flush_after r s u v w (Err Cut) before is one = let e = is in absurd cc
flush_after r s u v w (Err Memory) before is one = let e = is in absurd cc
flush_after r s u v w (Err Report) before is one = let e = is in absurd cc

-- the flush after a broken report
pub report_after : {R W : Type 0} (r s : Tallied R) (u v w : Tallied W) (flush : Result Unit ServeFault) → CountsNone r s × CountsNone u v → CountsByCall v w flush
    → CountsNone r s × (CountsNone u w ⊎ CountsOne u w)
report_after r s u v w (Ok x) before none = (before.0, inl (none ∙ before.1))
report_after r s u v w (Err f) before one = (before.0, inr (one_after u v w before.1 one))

-- nothing is flushed
pub exit_alone : {R W : Type 0} (A B : Type 0) (r s : Tallied R) (u w : Tallied W) (f : ServeFault) → CountsByEnd {A = A} r s u w (Err f) → CountsByExit {A = B} r s u w (Err f)
exit_alone A B r s u w Read end = end
exit_alone A B r s u w Write end = end
exit_alone A B r s u w Cut end = end
exit_alone A B r s u w Report end = (end.0, inl end.1)
exit_alone A B r s u w Memory end = end
