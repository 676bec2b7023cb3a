use Rattle.book_range.proofs.Judged.{not_passed, then_tested}
use Rattle.book_range.proofs.NumberedRows.{releases_alone, releases_joined}
use Rattle.book_range.proofs.RangeJoined.{releases_stated}
use Rattle.book_range.proofs.range.are_releases_in_range.Goals as goal

pub are_releases_numbered-requires-clause-numbers : goal.are_releases_numbered-requires-clause-numbers
are_releases_numbered-requires-clause-numbers c =
    (releases_stated c.args.world.now c.releases.result.now c.are_within_limits.result c.releases.ensures.value c.are_within_limits.ensures).0 c.if-are_within_limits.true

pub returns-then-are_within_limits : goal.returns-then-are_within_limits
returns-then-are_within_limits c =
    let w = c.args.world.now in
    then_tested c.if-are_within_limits.true (releases_stated w c.releases.result.now c.are_within_limits.result c.releases.ensures.value c.are_within_limits.ensures)
    c.are_releases_numbered.ensures (releases_joined w) (λ all r there. (all r there).numbered)

pub returns-else-are_within_limits : goal.returns-else-are_within_limits
returns-else-are_within_limits c =
    let w = c.args.world.now in
    not_passed c.if-are_within_limits.false (releases_stated w c.releases.result.now c.are_within_limits.result c.releases.ensures.value c.are_within_limits.ensures) (releases_alone w)
