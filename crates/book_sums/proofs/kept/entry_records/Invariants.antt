use Rattle.std.proofs.Common.{◌≡◌, map, take}
use Rattle.bank_books.specs.Records.{entry_record_of}
use Rattle.book_sums.proofs.kept.entry_records.Given as goal

abbrev pub invariant-loop-row : goal.invariant-loop-row
invariant-loop-row l = l.records.items ≡ map (entry_record_of l.world) (take l.row-index l.world.entries)
