use Rattle.std.proofs.Common.{Ok, subst}
use Rattle.sqlite.specs.Held.{state}
use Rattle.sqlite.specs.State.{Executes}
use Rattle.sql_schema.proofs.StepChains.{stepped}
use Rattle.sql_schema.proofs.StepLemmas.{run_steps}
use Rattle.sql_releases.proofs.TableLemmas.{added}
use Rattle.sql_releases.proofs.by_law.add_by.Goals as goal

pub returns : goal.returns
returns g c =
    let old = state g.S.Store c.args.tx.now.conn.now in
    let new = state g.S.Store c.run.new.tx.conn.now in
    record {
      step = stepped c.run.ensures.frame (λ clean inside s holds.
          run_steps _ _ old new (Ok c.in_ok-run.field-0) _ (c.in_ok-run.ensures.runs clean inside)
          (λ count h. added c.args.text.now g.R.TableRow.shown _ _ c.requires.law old new s c.args.row.now count c.requires.fits holds (subst (λ cells. Executes c.args.text.now cells old new (Ok count)) c.requires.given h)));
    }
