use Rattle.std.proofs.Common.{◌∙◌, ap, sym}
use Rattle.std.proofs.lemmas.Result.{IfOk-weaker}
use Rattle.sqlite.specs.Held.{state}
use Rattle.sql_schema.proofs.StepChains.{then_read}
use Rattle.sql_schema.proofs.StepLemmas.{early}
use Rattle.sql_listing.specs.Columns.{or_first}
use Rattle.sql_listing.specs.Lines.{lines_after}
use Rattle.sql_listing.proofs.LineLemmas.{first_after}
use Rattle.sql_listing.proofs.next.+next_from.Goals as goal

pub returns-in-Some-following-clause-found : goal.returns-in-Some-following-clause-found
returns-in-Some-following-clause-found g t c clean inside s holds =
    let mid = state g.S.Store c.next_line.new.tx.conn.now in
    let last = state g.S.Store c.next_from.new.tx.conn.now in
    let was = early mid last _ c.next_from.ensures.reads.survives clean in
    let there = c.in_ok-line.ensures.reads.stays was inside s holds in
    let kind = c.args.kind in
    IfOk-weaker c.next_from.result _ _
    (λ line is. is ∙ first_after s kind c.in-Some-following.next c.in-Some-following.ensures ∙ ap (λ o. or_first o (lines_after s kind)) (sym c.in-None.is ∙ c.in_ok-line.ensures.found was s holds))
    (c.next_from.ensures.found clean there.0.0 s there.0.1)

pub returns-in-Some-following-clause-reads : goal.returns-in-Some-following-clause-reads
returns-in-Some-following-clause-reads g t c = then_read c.in_ok-line.ensures.reads c.next_from.ensures.reads
