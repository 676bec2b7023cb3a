use Rattle.std.proofs.Common.{Ok, subst}
use Rattle.sqlite.specs.Held.{state}
use Rattle.sqlite.specs.State.{Executes}
use Rattle.keyed_rows.specs.Ordered.{add_row}
use Rattle.bank_books.specs.Keys.{release_key}
use Rattle.sql_schema.proofs.StepChains.{stepped}
use Rattle.sql_schema.proofs.StepLemmas.{write_steps}
use Rattle.sql_releases.specs.Texts.{add_release_text}
use Rattle.sql_releases.proofs.ReleaseLemmas.{adds_release}
use Rattle.sql_releases.proofs.releases.add_release.Goals as goal

pub returns : goal.returns
returns g c =
    let old = state g.S.Store c.args.tx.now.conn.now in
    let new = state g.S.Store c.insert_release.new.tx.conn.now in
    record {
      step = stepped c.insert_release.ensures.frame (λ clean inside s holds.
          write_steps add_release_text _ old new (Ok c.in_ok-insert_release.field-0) (record s { releases = add_row release_key c.args.release.now s.releases }) (c.in_ok-insert_release.ensures.runs clean inside)
          (λ count h. adds_release old new s c.args.release.now count c.cells_of-cells.ensures.fits holds (subst (λ ps. Executes add_release_text ps old new (Ok count)) c.cells_of-cells.ensures.cells h)));
    }
