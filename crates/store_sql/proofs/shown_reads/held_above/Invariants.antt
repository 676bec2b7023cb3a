use Rattle.std.proofs.Common.{◌≡◌, ◌-◌, ◌++◌}
use Rattle.store_sql.proofs.LeastLemmas.{SoFar}
use Rattle.store_sql.proofs.ShownLemmas.{above}
use Rattle.store_sql.proofs.shown_reads.held_above.Given as goal

abbrev pub invariant-loop-place : goal.invariant-loop-place
invariant-loop-place g l = SoFar g.S.Store l.fn.tx.conn l.tx.conn (λ s. l.rows.items ++ above s.accounts l.held l.last (l.count - l.place) ≡ above s.accounts l.held l.after l.count)
