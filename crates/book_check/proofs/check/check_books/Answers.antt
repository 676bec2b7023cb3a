-- The parts are those of the kept tellers and entries.
use Rattle.std.proofs.Common.{List, map, subst}
use Rattle.std.specs.List.Sorted.{IsPermutation}
use Rattle.bank_books.specs.declared.records.EntryRecord.{EntryRecord}
use Rattle.bank_books.specs.declared.records.TellerRecord.{TellerRecord}
use Rattle.book_check.specs.RowConditions.{balance_part}
use Rattle.book_check.specs.Turns.{turn_balance}
use Rattle.book_check.proofs.check.check_books.Goals as goal

pub verdict-requires-clause-tellers : goal.verdict-requires-clause-tellers
verdict-requires-clause-tellers c =
    let P : List TellerRecord → Type 0 = λ ts. IsPermutation (map balance_part ts) c.in_ok-tellers.tellers in
    subst P c.tellers.ensures c.in_ok-tellers.ensures

pub verdict-requires-clause-balances : goal.verdict-requires-clause-balances
verdict-requires-clause-balances c =
    let P : List EntryRecord → Type 0 = λ es. IsPermutation (map turn_balance es) c.in_ok-balances.balances in
    subst P c.entries.ensures c.in_ok-balances.ensures
