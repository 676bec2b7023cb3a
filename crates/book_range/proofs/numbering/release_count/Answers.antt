use Rattle.book_range.proofs.NumberedRows.{releases_found}
use Rattle.book_range.proofs.numbering.release_count.Goals as goal

pub returns : goal.returns
returns c = releases_found c.args.world.now c.releases.result.now c.rows_of_group.result.now c.args.user c.requires c.releases.ensures.value c.rows_of_group.ensures c.releases.ensures.in_order
