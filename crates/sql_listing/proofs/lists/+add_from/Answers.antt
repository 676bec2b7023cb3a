use Rattle.std.proofs.Common.{◌++◌, ◌∙◌, append_assoc}
use Rattle.sqlite.specs.Held.{state}
use Rattle.sql_schema.proofs.StepChains.{then_read}
use Rattle.sql_schema.proofs.StepLemmas.{early, ok_weaker}
use Rattle.sql_listing.specs.Lines.{lines_after, lines_in}
use Rattle.sql_listing.proofs.LineLemmas.{from_next}
use Rattle.sql_listing.proofs.lists.+add_from.Goals as goal

pub returns-in-Some-clause-found : goal.returns-in-Some-clause-found
returns-in-Some-clause-found g t c clean inside s holds =
    let mid = state g.S.Store c.add_lines.new.tx.conn.now in
    let last = state g.S.Store c.add_from.new.tx.conn.now in
    let was = early mid last _ c.add_from.ensures.reads.survives clean in
    let there = c.in_ok-add_lines.ensures.reads.stays was inside s holds in
    let kind = c.args.kind in
    ok_weaker c.add_from.result _ _
    (λ is. is ∙ (λ i. c.in_ok-add_lines.ensures.found was s holds i ++ from_next s kind c.in-Some.next c.in-Some.ensures i) ∙ append_assoc c.args.lines.now.items (lines_in s kind) (lines_after s kind))
    (c.add_from.ensures.found clean there.0.0 s there.0.1)

pub returns-in-Some-clause-reads : goal.returns-in-Some-clause-reads
returns-in-Some-clause-reads g t c = then_read c.in_ok-add_lines.ensures.reads c.add_from.ensures.reads
