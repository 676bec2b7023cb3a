use Rattle.std.proofs.Common.{◌≡◌, map, take}
use Rattle.bank_books.specs.Records.{release_count_of}
use Rattle.book_sums.proofs.records.release_counts.Given as goal

abbrev pub invariant-loop-row : goal.invariant-loop-row
invariant-loop-row l = l.records.items ≡ map (release_count_of l.world) (take l.row-index l.world.policy.users)
