use Rattle.std.proofs.Common.{◌≡◌, ◌*◌, ◌^◌, take, pos, neg_ℤ, ◌≤ℤ◌, map}
use Rattle.keyed_rows.specs.Totals.{total}
use Rattle.keyed_rows.proofs.sums.sum_of.Given as goal

abbrev pub invariant-loop-row : goal.invariant-loop-row
invariant-loop-row g l = record {
  so_far : l.sum ≡ total (map (g.Q.Tally.share l.query) (take l.row-index l.rows));
  low : neg_ℤ (pos (2 ^ 63 * l.row-index)) ≤ℤ l.sum;
  high : l.sum ≤ℤ pos (2 ^ 63 * l.row-index);
}
