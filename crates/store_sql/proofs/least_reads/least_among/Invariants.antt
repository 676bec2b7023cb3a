use Rattle.std.proofs.Common.{◌≡◌, drop}
use Rattle.store_sql.specs.LeastShown.{least_by}
use Rattle.store_sql.proofs.LeastLemmas.{SoFar}
use Rattle.store_sql.proofs.least_reads.least_among.Given as goal

abbrev pub invariant-loop-member : goal.invariant-loop-member
invariant-loop-member g l = SoFar g.S.Store l.fn.tx.conn l.tx.conn (λ s. least_by s.accounts l.after (drop l.member-index l.members) l.least ≡ least_by s.accounts l.after l.members l.fn.best)
