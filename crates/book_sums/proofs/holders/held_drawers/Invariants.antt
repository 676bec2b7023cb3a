use Rattle.std.proofs.Common.{◌≡◌, ℕ, take}
use Rattle.std.specs.BTreeMap.{get}
use Rattle.std.specs.Ordering.{nat_cmp}
use Rattle.bank_books.specs.Cash.{holder_of}
use Rattle.book_sums.proofs.holders.held_drawers.Given as goal

abbrev pub invariant-loop-line : goal.invariant-loop-line
invariant-loop-line l = (teller : ℕ) → get nat_cmp l.held teller ≡ holder_of (take l.line-index l.lines) teller
