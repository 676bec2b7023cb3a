use Rattle.std.proofs.Common.{◌≡◌, map, take}
use Rattle.bank_books.specs.Cash.{holder_of}
use Rattle.book_sums.proofs.holders.holders.Given as goal

abbrev pub invariant-loop-row : goal.invariant-loop-row
invariant-loop-row l = l.holders.items ≡ map (λ t. holder_of l.lines t.teller) (take l.row-index l.tellers)
