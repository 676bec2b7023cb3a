-- By the end of its run, and what was sent after that.
use Rattle.std.proofs.Common.{◌≡◌, Err, Ok, refl, rules}
use Rattle.http_messages.specs.declared.serving.ServeFault.TheVariants.{Memory, Report, Write}
use Rattle.http_connection.proofs.EndLemmas.{cut_so, ended_so, failed_so, none_served, read_so, sent_so}
use Rattle.http_connection.proofs.serving.serve.Goals as goal

pub returns-in_err-connection-clause-exit : goal.returns-in_err-connection-clause-exit
returns-in_err-connection-clause-exit g c =
    let stopped : c.from_residual.result ≡ Err Memory = search rules in
    rw stopped (none_served g.E.Engine.answers g.E.Engine.stops g.E.Engine.breaks c.args.most _ _ _)

pub returns-in_err-fields-clause-exit : goal.returns-in_err-fields-clause-exit
returns-in_err-fields-clause-exit g c =
    let stopped : c.from_residual-in_err-fields.result ≡ Err Memory = search rules in
    rw stopped (none_served g.E.Engine.answers g.E.Engine.stops g.E.Engine.breaks c.args.most _ _ _)

pub returns-in-Ok-send-clause-exit : goal.returns-in-Ok-send-clause-exit
returns-in-Ok-send-clause-exit g c =
    sent_so g.E.Engine.answers g.E.Engine.stops g.E.Engine.breaks c.args.most _ _ _ _ _ c.serve_in-end.new.connection _ _ c.in_ok-connection.ensures _ c.send.new.connection (Ok c.in-Ok.served) (Ok c.in-Ok.served)
    c.in-Ok.ensures.served c.send.ensures.went refl c.in-Ok-send.ensures.all

pub returns-in-Ok-clause-exit : goal.returns-in-Ok-clause-exit
returns-in-Ok-clause-exit g c =
    rw c.in-Err.ensures.err.0 (failed_so g.E.Engine.answers g.E.Engine.stops g.E.Engine.breaks c.args.most _ _ _ _ _ c.serve_in-end.new.connection _ _ c.in_ok-connection.ensures _ c.send.new.connection c.in-Ok.served
    c.in-Ok.ensures.served c.send.ensures.went c.in-Err.ensures.err.1)

pub returns-in-Ok-send-2-clause-exit : goal.returns-in-Ok-send-2-clause-exit
returns-in-Ok-send-2-clause-exit g c =
    let fault = rw c.in-Err-Memory.is at c.in-Err-Memory.field-0-is in
    let served = rw fault at (rw c.in-Err-Memory.is at c.serve_in-end.ensures.served) in
    sent_so g.E.Engine.answers g.E.Engine.stops g.E.Engine.breaks c.args.most _ _ _ _ _ c.serve_in-end.new.connection _ _ c.in_ok-connection.ensures _ c.send-in-Err-Memory.new.connection (Err Memory) (Err Memory)
    served c.send-in-Err-Memory.ensures.went refl c.in-Ok-send-2.ensures.all

pub returns-in-Err-Memory-clause-exit : goal.returns-in-Err-Memory-clause-exit
returns-in-Err-Memory-clause-exit g c =
    let fault = rw c.in-Err-Memory.is at c.in-Err-Memory.field-0-is in
    let served = rw fault at (rw c.in-Err-Memory.is at c.serve_in-end.ensures.served) in
    rw c.in-Err-send.ensures.err.0 (sent_so g.E.Engine.answers g.E.Engine.stops g.E.Engine.breaks c.args.most _ _ _ _ _ c.serve_in-end.new.connection _ _ c.in_ok-connection.ensures _ c.send-in-Err-Memory.new.connection (Err Memory) (Err Write)
    served c.send-in-Err-Memory.ensures.went refl tt)

pub returns-in-Err-Report-clause-exit : goal.returns-in-Err-Report-clause-exit
returns-in-Err-Report-clause-exit g c =
    let fault = rw c.in-Err-Report.is at c.in-Err-Report.field-0-is in
    let served = rw fault at (rw c.in-Err-Report.is at c.serve_in-end.ensures.served) in
    sent_so g.E.Engine.answers g.E.Engine.stops g.E.Engine.breaks c.args.most _ _ _ _ _ c.serve_in-end.new.connection _ _ c.in_ok-connection.ensures _ c.send-in-Err-Report.new.connection (Err Report) (Err Report)
    served c.send-in-Err-Report.ensures.went refl tt

pub returns-in-Err-Write-clause-exit : goal.returns-in-Err-Write-clause-exit
returns-in-Err-Write-clause-exit g c =
    let fault = rw c.in-Err-Write.is at c.in-Err-Write.field-0-is in
    let served = rw fault at (rw c.in-Err-Write.is at c.serve_in-end.ensures.served) in
    ended_so g.E.Engine.answers g.E.Engine.stops g.E.Engine.breaks c.args.most _ _ _ _ _ c.serve_in-end.new.connection _ _ c.in_ok-connection.ensures (Err Write) served tt

pub returns-in-Err-Read-clause-exit : goal.returns-in-Err-Read-clause-exit
returns-in-Err-Read-clause-exit g c =
    let fault = rw c.in-Err-Read.is at c.in-Err-Read.field-0-is in
    let served = rw fault at (rw c.in-Err-Read.is at c.serve_in-end.ensures.served) in
    read_so g.E.Engine.answers g.E.Engine.stops g.E.Engine.breaks c.args.most _ _ _ _ _ c.serve_in-end.new.connection _ _ c.in_ok-connection.ensures served

pub returns-clause-exit : goal.returns-clause-exit
returns-clause-exit g c =
    let fault = rw c.in-Err-Cut.is at c.in-Err-Cut.field-0-is in
    let served = rw fault at (rw c.in-Err-Cut.is at c.serve_in-end.ensures.served) in
    cut_so g.E.Engine.answers g.E.Engine.stops g.E.Engine.breaks c.args.most _ _ _ _ _ c.serve_in-end.new.connection _ _ c.in_ok-connection.ensures served
