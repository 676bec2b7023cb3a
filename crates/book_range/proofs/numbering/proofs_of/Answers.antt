use Rattle.book_range.proofs.NumberedRows.{proofs_found}
use Rattle.book_range.proofs.numbering.proofs_of.Goals as goal

pub returns : goal.returns
returns c = proofs_found c.args.world.now c.proofs.result.now c.rows_of_group.result.now c.args.branch c.requires c.proofs.ensures.value c.rows_of_group.ensures c.proofs.ensures.in_order
