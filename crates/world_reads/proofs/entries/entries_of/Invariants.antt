use Rattle.std.proofs.Common.{◌≡◌, ◌-◌, ◌++◌, map}
use Rattle.std.specs.List.{range_with_len}
use Rattle.world_reads.specs.BookReads.{entries_of, entry_at, there}
use Rattle.world_reads.proofs.entries.entries_of.Given as goal

abbrev pub invariant-loop-turn : goal.invariant-loop-turn
invariant-loop-turn l =
    l.rows.items ++ there (map (entry_at l.world l.account) (range_with_len l.turn (l.turn-end - l.turn)))
    ≡ entries_of l.world l.account l.start l.count
