use Rattle.sql_schema.proofs.RowsRead.{AreRead}
use Rattle.sql_schema.proofs.RowsFound.{AreReadAs}
use Rattle.sql_schema.proofs.table_row.read_rows.Given as goal

abbrev pub invariant-loop-row : goal.invariant-loop-row
invariant-loop-row g l =
    AreReadAs g.T.TableRow.stated g.T.TableRow.cells (λ x. g.T.TableRow.fits x × g.T.TableRow.readable x) l.rows l.row-index l.list.items
    × AreRead g.T.TableRow.shown g.T.TableRow.fits l.rows l.row-index l.list.items
