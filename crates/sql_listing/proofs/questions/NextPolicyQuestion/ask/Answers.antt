use Rattle.std.proofs.Common.{◌≡◌, ◌∙◌, ap, find}
use Rattle.sqlite.specs.Held.{state}
use Rattle.sql_listing.specs.Lines.{lines_of}
use Rattle.world_reads.specs.PolicyListing.{is_row_after}
use Rattle.sql_listing.proofs.WorldLemmas.{lines_of_world}
use Rattle.sql_schema.proofs.WorldReads.{reads_inside}
use Rattle.sql_listing.proofs.questions.NextPolicyQuestion.ask.Goals as goal

pub returns-clause-reads : goal.returns-clause-reads
returns-clause-reads g c =
    let after = c.args.self.now.after in
    reads_inside (state g.S.Store c.args.tx.now.conn.now) (state g.S.Store c.next_policy.new.tx.conn.now) (λ s row. row ≡ find (is_row_after after) (lines_of s)) _ c.next_policy.result
    (λ w can row is. is ∙ ap (find (is_row_after after)) (lines_of_world w))
    c.next_policy.ensures.found c.next_policy.ensures.reads.stays c.next_policy.ensures.reads.was_open c.next_policy.ensures.reads.survives
