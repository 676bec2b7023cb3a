use Rattle.std.proofs.Common.{Ok, ap, subst, ◌∙◌}
use Rattle.sqlite.specs.Held.{state}
use Rattle.sqlite.specs.State.{Executes}
use Rattle.keyed_rows.specs.Ordered.{add_row}
use Rattle.bank_books.specs.Keys.{slip_key}
use Rattle.sql_schema.proofs.StepChains.{stepped}
use Rattle.sql_schema.proofs.StepLemmas.{write_steps}
use Rattle.sql_releases.specs.Given.{given_slip}
use Rattle.sql_releases.specs.Texts.{add_slip_text}
use Rattle.sql_releases.proofs.SlipLemmas.{adds_slip}
use Rattle.sql_releases.proofs.slips.add_slip.Goals as goal

pub returns-clause-step : goal.returns-clause-step
returns-clause-step g c =
    let old = state g.S.Store c.args.tx.now.conn.now in
    let new = state g.S.Store c.insert_slip.new.tx.conn.now in
    stepped c.insert_slip.ensures.frame (λ clean inside s holds.
    write_steps add_slip_text _ old new (Ok c.in_ok-insert_slip.field-0) (record s { slips = add_row slip_key c.args.slip.now s.slips }) (c.in_ok-insert_slip.ensures.runs clean inside)
    (λ count h. (adds_slip old new s c.args.slip.now count c.cells_of-cells.ensures.fits holds (subst (λ ps. Executes add_slip_text ps old new (Ok count)) (ap (given_slip c.cells_of-cells.result) c.reply.ensures ∙ c.cells_of-cells.ensures.cells) h)).0))

pub returns-clause-free : goal.returns-clause-free
returns-clause-free g c clean inside s holds =
    let old = state g.S.Store c.args.tx.now.conn.now in
    let new = state g.S.Store c.insert_slip.new.tx.conn.now in
    (adds_slip old new s c.args.slip.now c.in_ok-insert_slip.field-0 c.cells_of-cells.ensures.fits holds (subst (λ ps. Executes add_slip_text ps old new (Ok c.in_ok-insert_slip.field-0)) (ap (given_slip c.cells_of-cells.result) c.reply.ensures ∙ c.cells_of-cells.ensures.cells) (c.in_ok-insert_slip.ensures.runs clean inside).0)).1
