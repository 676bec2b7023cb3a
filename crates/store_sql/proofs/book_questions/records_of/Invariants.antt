use Rattle.std.proofs.Common.{◌≡◌, ◌≢◌, Contains, List, Some, map, take}
use Rattle.bank_books.specs.declared.records.TellerRecord.{TellerRecord}
use Rattle.book_kept.specs.Records.{kept_teller}
use Rattle.store_sql.proofs.book_questions.records_of.Given as goal

abbrev pub invariant-loop-teller : goal.invariant-loop-teller
invariant-loop-teller l = (there : List TellerRecord) → l.kept ≡ map kept_teller there → ((t : TellerRecord) → Contains there t → t.holder ≢ Some 0) → l.list.items ≡ take l.teller-index there
