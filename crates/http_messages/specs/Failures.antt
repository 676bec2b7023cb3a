-- What a call says of the failures that its streams counted, by how it ended.
use Rattle.std.specs.Prelude.{◌≡◌, ◌⊎◌, Result, Ok, Err}
use Rattle.money.specs.Counted.{counted_once_more, failure_count}
use Rattle.money.specs.declared.tallied.Tallied.{Tallied}
use Rattle.http_messages.specs.declared.engine.AnswerFault.{AnswerFault}
use Rattle.http_messages.specs.declared.engine.AnswerFault.TheVariants as Answer
use Rattle.http_messages.specs.declared.serving.ServeFault.{ServeFault}
use Rattle.http_messages.specs.declared.serving.ServeFault.TheVariants.{Read, Write, Cut, Memory, Report}

-- the stream counted no failure
abbrev pub CountsNone : {T : Type 0} → Tallied T → Tallied T → Type 0
CountsNone old new = failure_count new ≡ failure_count old

-- it counted exactly one, up to the greatest count
abbrev pub CountsOne : {T : Type 0} → Tallied T → Tallied T → Type 0
CountsOne old new = failure_count new ≡ counted_once_more (failure_count old)

-- a read, write or flush: the failure that ended it, and no other
abbrev pub CountsByCall : {T A B : Type 0} → Tallied T → Tallied T → Result A B → Type 0
CountsByCall old new (Ok _) = CountsNone old new
CountsByCall old new (Err _) = CountsOne old new

-- an engine's answer, or a step: a failed write, and no other
abbrev pub CountsByAnswer : {W A : Type 0} → Tallied W → Tallied W → Result A AnswerFault → Type 0
CountsByAnswer old new (Ok _) = CountsNone old new
CountsByAnswer old new (Err Answer.Write) = CountsOne old new
CountsByAnswer old new (Err Answer.Report) = CountsNone old new

-- a reader and a writer: the failed read or the failed write that ended the call, and no other
abbrev pub CountsByEnd : {R W A : Type 0} → Tallied R → Tallied R → Tallied W → Tallied W → Result A ServeFault → Type 0
CountsByEnd read_from read_to write_from write_to (Ok _) = CountsNone read_from read_to × CountsNone write_from write_to
CountsByEnd read_from read_to write_from write_to (Err Read) = CountsOne read_from read_to × CountsNone write_from write_to
CountsByEnd read_from read_to write_from write_to (Err Write) = CountsNone read_from read_to × CountsOne write_from write_to
CountsByEnd read_from read_to write_from write_to (Err Cut) = CountsNone read_from read_to × CountsNone write_from write_to
CountsByEnd read_from read_to write_from write_to (Err Report) = CountsNone read_from read_to × CountsNone write_from write_to
CountsByEnd read_from read_to write_from write_to (Err Memory) = CountsNone read_from read_to × CountsNone write_from write_to

-- the same of a whole call: after a broken report its beginning is flushed, and that may fail too
abbrev pub CountsByExit : {R W A : Type 0} → Tallied R → Tallied R → Tallied W → Tallied W → Result A ServeFault → Type 0
CountsByExit read_from read_to write_from write_to (Err Report) =
    CountsNone read_from read_to × (CountsNone write_from write_to ⊎ CountsOne write_from write_to)
CountsByExit read_from read_to write_from write_to result = CountsByEnd read_from read_to write_from write_to result
