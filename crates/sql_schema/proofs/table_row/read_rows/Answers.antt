use Rattle.std.proofs.Common.{Contains, arith, map, ◌∙◌}
use Rattle.sql_schema.specs.Readable.{IsUnread}
use Rattle.sql_schema.proofs.RowsRead.{read_more}
use Rattle.sql_schema.proofs.RowsFound.{stated_more, unread_row}
use Rattle.sql_schema.proofs.StepLemmas.{handed_on}
use Rattle.sql_schema.proofs.table_row.read_rows.Goals as goal

pub loop-row-preserved : goal.loop-row-preserved
loop-row-preserved g c =
    let T = g.T.TableRow in (
      stated_more T.stated T.cells (λ x. T.fits x × T.readable x) c.args.rows.now c.loop-row.row-index _ c.in_ok-read.field-0 c.loop-row.list.items c.push.new.self.items
          (omega arith) c.row-item.is c.in_ok-read.ensures.same (c.in_ok-read.ensures.fit, c.in_ok-read.ensures.typed) c.loop-row.invariant.0 c.in_ok-push.ensures.items,
      λ there fit is. c.in_ok-push.ensures.items
          ∙ read_more T.shown T.fits c.args.rows.now c.loop-row.row-index c.row-item.result c.in_ok-read.field-0 c.loop-row.list.items (omega arith) c.row-item.is c.in_ok-read.ensures.there c.loop-row.invariant.1 there fit is,
    )

pub returns-in_err-read-clause-unread : goal.returns-in_err-read-clause-unread
returns-in_err-read-clause-unread g c =
    let T = g.T.TableRow in
    handed_on c.from_residual.result c.in_err-read.field-0.0 (IsUnread (map T.cells) (λ list. (x : _) → Contains list x → T.readable x) (map T.stated c.args.rows.now)) c.from_residual.ensures.1
    (unread_row T.stated T.cells T.readable c.args.rows.now c.loop-row.row-index _ c.in_err-read.field-0.0 (omega arith) c.row-item.is c.in_err-read.ensures.unread)
