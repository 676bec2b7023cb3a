use Rattle.std.proofs.Common.{◌≡◌, map, take}
use Rattle.bank_books.specs.Records.{teller_record_of}
use Rattle.book_sums.proofs.records.teller_records.Given as goal

abbrev pub invariant-loop-index : goal.invariant-loop-index
invariant-loop-index l = l.records.items ≡ map (teller_record_of l.world) (take l.index l.tellers)
