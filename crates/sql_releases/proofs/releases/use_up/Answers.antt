use Rattle.std.proofs.Common.{Ok}
use Rattle.sqlite.specs.Held.{state}
use Rattle.book_kept.specs.Changes.{used_sheets}
use Rattle.sql_schema.proofs.StepChains.{stepped}
use Rattle.sql_schema.proofs.StepLemmas.{write_steps}
use Rattle.sql_releases.specs.Texts.{use_up_text}
use Rattle.sql_releases.proofs.ReleaseLemmas.{uses_up}
use Rattle.sql_releases.proofs.releases.use_up.Goals as goal

pub returns : goal.returns
returns g c =
    let old = state g.S.Store c.args.tx.now.conn.now in
    let new = state g.S.Store c.update_used.new.tx.conn.now in
    record {
      step = stepped c.update_used.ensures.frame (λ clean inside s holds.
          write_steps use_up_text _ old new (Ok c.in_ok-update_used.field-0) (used_sheets c.args.key.now s) (c.in_ok-update_used.ensures.runs clean inside)
          (λ count h. uses_up old new s c.args.key.now count c.update_used.ensures.small holds h));
    }
