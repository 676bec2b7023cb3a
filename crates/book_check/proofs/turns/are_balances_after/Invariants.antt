-- the balances so far
use Rattle.std.proofs.Common.{◌≡◌, ℕ, ◌<◌, ◌+◌, ◌+ℤ◌, get_or, map, take}
use Rattle.keyed_rows.specs.Totals.{total}
use Rattle.book_sums.specs.declared.shares.Part.{Part}
use Rattle.book_check.proofs.turns.are_balances_after.Given as goal

abbrev pub invariant-loop-index : goal.invariant-loop-index
invariant-loop-index l = record {
  before : l.before ≡ l.opening +ℤ total (map (λ p. p.amount) (take l.index l.deltas));
  amounts : (k : ℕ) (d : Part) → k < l.index → (get_or l.balances k d).amount ≡ l.opening +ℤ total (map (λ p. p.amount) (take (k + 1) l.deltas));
}
