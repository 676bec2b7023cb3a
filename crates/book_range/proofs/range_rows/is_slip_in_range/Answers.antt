use Rattle.std.proofs.Common.{rules}
use Rattle.book_sums.proofs.SumsLemmas.{slips_from_sums}
use Rattle.book_range.proofs.range_rows.is_slip_in_range.Goals as goal

pub returns-then-holds_operation : goal.returns-then-holds_operation
returns-then-holds_operation c =
    let slips = slips_from_sums c.args.world.now c.args.sums.now c.args.slip.now.user c.requires in
    search (rules, slips)
