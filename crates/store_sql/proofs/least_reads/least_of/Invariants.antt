use Rattle.std.proofs.Common.{◌≡◌, drop, None}
use Rattle.store_sql.proofs.LeastLemmas.{least_of as least_held, SoFar}
use Rattle.store_sql.proofs.least_reads.least_of.Given as goal

abbrev pub invariant-loop-row : goal.invariant-loop-row
invariant-loop-row g l = SoFar g.S.Store l.fn.tx.conn l.tx.conn (λ s. least_held s.accounts l.after (drop l.row-index l.held) l.least ≡ least_held s.accounts l.after l.held None)
