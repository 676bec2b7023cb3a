use Rattle.std.proofs.Common.{◌∙◌}
use Rattle.book_sums.proofs.SumsLemmas.{branch_from_rows}
use Rattle.book_sums.proofs.sums.Sums.branch_record.Goals as goal

pub returns : goal.returns
returns c =
    c.branch_record_from.ensures
    ∙ branch_from_rows c.args.world.now c.args.self.now c.entries_of.result.now c.lines_of.result.now c.args.row.now c.requires c.entries_of.ensures c.lines_of.ensures
