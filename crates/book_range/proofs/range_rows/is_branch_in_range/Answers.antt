use Rattle.std.proofs.Common.{rules}
use Rattle.book_sums.proofs.SumsLemmas.{homes_from_sums}
use Rattle.book_range.proofs.range_rows.is_branch_in_range.Goals as goal

pub returns-then-has_numbered_days : goal.returns-then-has_numbered_days
returns-then-has_numbered_days c =
    let homes = homes_from_sums c.args.world.now c.args.sums.now c.args.branch.now.row.branch c.requires.sums in
    search (rules, homes)
