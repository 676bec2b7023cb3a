use Rattle.std.proofs.Common.{◌≡◌, ℕ, ◌≤◌, Result, Ok, Err, IfOk, IfErr, sym, subst}
use Rattle.std.proofs.KnownBytes.{Keeps-refl}
use Rattle.http_messages.specs.declared.serving.Served.{Served}
use Rattle.http_messages.specs.declared.serving.ServeFault.{ServeFault}
use Rattle.http_messages.specs.declared.serving.ServeFault.TheVariants.{Report, Write}
use Rattle.http_messages.proofs.ExitLemmas.{exit_ended, exit_flushed}
use Rattle.http_messages.proofs.FailureLemmas.{exit_alone, flush_after, report_after}
use Rattle.http_messages.proofs.serving.serve_messages.Goals as goal

pub returns-in-Ok-clause-exit : goal.returns-in-Ok-clause-exit
returns-in-Ok-clause-exit g c =
    exit_flushed g.E.Engine.answers g.E.Engine.stops g.E.Engine.breaks c.args.most _ _ _ c.in-Ok.served c.flush_last.result c.in_ok-inbox.ensures c.in-Ok.ensures.served c.flush_last.ensures.ok c.flush_last.ensures.err c.flush_last.ensures.kept

same_most : (most : ℕ) (s : Served) (r : Result Served ServeFault) → s.messages ≤ most → IfOk r (λ t. t ≡ s) → IfOk r (λ t. t.messages ≤ most)
same_most most s (Ok t) within ok = subst (λ x. x.messages ≤ most) (sym ok) within
same_most most s (Err f) within ok = tt

pub returns-in-Ok-clause-most : goal.returns-in-Ok-clause-most
returns-in-Ok-clause-most g c = same_most c.args.most c.in-Ok.served c.flush_last.result c.in-Ok.ensures.most c.flush_last.ensures.ok

write_alone : (P : Type 0) (r : Result Served ServeFault) → IfErr r (λ f. (f ≡ Write) × P) → IfErr r (λ f. f ≡ Write)
write_alone P (Ok t) err = tt
write_alone P (Err f) err = err.0

pub returns-in-Ok-clause-failures : goal.returns-in-Ok-clause-failures
returns-in-Ok-clause-failures g c =
    flush_after c.args.reader.now c.serve_in-end.new.reader c.args.writer.now c.serve_in-end.new.writer c.flush_last.new.writer c.flush_last.result c.in-Ok.ensures.failures (write_alone _ c.flush_last.result c.flush_last.ensures.err) c.flush_last.ensures.failures

pub returns-in-Err-Report-clause-exit : goal.returns-in-Err-Report-clause-exit
returns-in-Err-Report-clause-exit g c =
    let fault = rw c.in-Err-Report.is at c.in-Err-Report.field-0-is in
    let served = rw fault at (rw c.in-Err-Report.is at c.serve_in-end.ensures.served) in
    exit_ended g.E.Engine.answers g.E.Engine.stops g.E.Engine.breaks c.args.most _ _ _ (Err Report) c.in_ok-inbox.ensures served c.flush_written.ensures.kept

pub returns-clause-exit : goal.returns-clause-exit
returns-clause-exit g c =
    exit_ended g.E.Engine.answers g.E.Engine.stops g.E.Engine.breaks c.args.most _ _ _ (Err c.in-Err.fault) c.in_ok-inbox.ensures c.in-Err.ensures.served (Keeps-refl _)

pub returns-in-Err-Report-clause-failures : goal.returns-in-Err-Report-clause-failures
returns-in-Err-Report-clause-failures g c =
    let fault = rw c.in-Err-Report.is at c.in-Err-Report.field-0-is in
    let before = rw fault at (rw c.in-Err-Report.is at c.serve_in-end.ensures.failures) in
    report_after c.args.reader.now c.serve_in-end.new.reader c.args.writer.now c.serve_in-end.new.writer c.flush_written.new.writer c.flush_written.result before c.flush_written.ensures.failures

pub returns-clause-failures : goal.returns-clause-failures
returns-clause-failures g c =
    exit_alone Served Served c.args.reader.now c.serve_in-end.new.reader c.args.writer.now c.serve_in-end.new.writer c.in-Err.fault c.in-Err.ensures.failures
