use Rattle.std.proofs.Common.{Ok, subst}
use Rattle.sqlite.specs.Held.{state}
use Rattle.sqlite.specs.State.{Executes}
use Rattle.keyed_rows.specs.Ordered.{add_row}
use Rattle.bank_books.specs.Keys.{line_key}
use Rattle.sql_schema.proofs.StepChains.{stepped}
use Rattle.sql_schema.proofs.StepLemmas.{write_steps}
use Rattle.sql_books.specs.Texts.{add_line_text}
use Rattle.sql_books.proofs.LineLemmas.{adds_line}
use Rattle.sql_books.proofs.lines.add_line.Goals as goal

pub returns : goal.returns
returns g c =
    let old = state g.S.Store c.args.tx.now.conn.now in
    let new = state g.S.Store c.insert_line.new.tx.conn.now in
    record {
      step = stepped c.insert_line.ensures.frame (λ clean inside s holds.
          write_steps add_line_text _ old new (Ok c.in_ok-insert_line.field-0) (record s { lines = add_row line_key c.args.line.now s.lines }) (c.in_ok-insert_line.ensures.runs clean inside)
          (λ count h. adds_line old new s c.args.line.now count c.in_ok-cells.ensures.fits holds (subst (λ ps. Executes add_line_text ps old new (Ok count)) c.in_ok-cells.ensures.cells h)));
    }
