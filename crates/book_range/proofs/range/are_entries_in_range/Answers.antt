use Rattle.book_range.specs.RangeParts.{IsEntryLimited}
use Rattle.book_range.proofs.Judged.{not_passed, then_tested, stated}
use Rattle.book_range.proofs.RangeJoined.{entries_joined, entries_named, entry_limits}
use Rattle.book_range.proofs.range.are_entries_in_range.Goals as goal

pub returns-then-are_entries_named : goal.returns-then-are_entries_named
returns-then-are_entries_named c =
    let w = c.args.world.now in
    let kept = c.args.kept.now.entries in
    then_tested c.if-are_entries_named.true c.are_entries_named.ensures
    (stated (IsEntryLimited w.entries w.policy.users) c.entries.result.now kept c.are_within_limits.result c.entries.ensures c.are_within_limits.ensures)
    (entries_joined w kept c.requires.rows.entries)
    (λ all e there. entry_limits w e (all e there))

pub returns-else-are_entries_named : goal.returns-else-are_entries_named
returns-else-are_entries_named c =
    not_passed c.if-are_entries_named.false c.are_entries_named.ensures (entries_named c.args.world.now c.args.kept.now.entries c.requires.rows.entries)
