use Rattle.std.proofs.Common.{◌≡◌, ◌∙◌}
use Rattle.sqlite.specs.Held.{state}
use Rattle.sql_listing.specs.Lines.{lines_of}
use Rattle.sql_listing.proofs.WorldLemmas.{lines_of_world}
use Rattle.sql_schema.proofs.WorldReads.{reads_inside}
use Rattle.sql_listing.proofs.questions.PolicyRowsQuestion.ask.Goals as goal

pub returns-clause-reads : goal.returns-clause-reads
returns-clause-reads g c =
    reads_inside (state g.S.Store c.args.tx.now.conn.now) (state g.S.Store c.policy_rows.new.tx.conn.now) (λ s rows. rows.items ≡ lines_of s) _ c.policy_rows.result
    (λ w can rows is. is ∙ lines_of_world w)
    c.policy_rows.ensures.found c.policy_rows.ensures.reads.stays c.policy_rows.ensures.reads.was_open c.policy_rows.ensures.reads.survives
