use Rattle.sql_listing.specs.Lines.{FitsOf, cells_of, line_of}
use Rattle.sql_listing.proofs.LineLemmas.{added_all, added_more}
use Rattle.sql_listing.proofs.read.read_lines.Goals as goal

pub loop-row-preserved : goal.loop-row-preserved
loop-row-preserved c =
    added_more (cells_of c.args.kind) (FitsOf c.args.kind) (line_of c.args.kind) c.args.rows.now c.loop-row.row-index c.row-item.result c.in_ok-read_line.field-0 c.args.lines.now.items c.loop-row.lines.items c.push.new.self.items
    c.loop-row-test.true c.row-item.is c.in_ok-read_line.ensures c.in_ok-push.ensures.items c.loop-row.invariant

pub returns : goal.returns
returns c there fit is = added_all (cells_of c.args.kind) (FitsOf c.args.kind) (line_of c.args.kind) c.args.rows.now c.loop-row.row-index c.args.lines.now.items c.loop-row.lines.items c.loop-row-test.false c.loop-row.invariant there fit is
