use Rattle.std.proofs.Common.{◌≡◌, map, take}
use Rattle.bank_books.specs.Records.{account_record_of}
use Rattle.book_sums.proofs.records.account_records.Given as goal

abbrev pub invariant-loop-row : goal.invariant-loop-row
invariant-loop-row l = l.records.items ≡ map (account_record_of l.world) (take l.row-index l.world.accounts)
