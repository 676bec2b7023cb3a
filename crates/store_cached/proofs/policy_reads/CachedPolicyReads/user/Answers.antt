use Rattle.std.proofs.Common.{rules}
use Rattle.store_cached.proofs.Standing.{reads_beside, reads_kept, reads_with}
use Rattle.store_cached.proofs.policy_reads.CachedPolicyReads.user.Goals as goal

pub returns-in_err-row : goal.returns-in_err-row
returns-in_err-row g c =
    reads_kept _ (g.S.StoreState.status c.user.new.self) _ _ _ _ _ _ (reads_beside _ _ _ _ _ c.in_err-row.ensures) (search rules) (λ clean w holds suits. suits) (λ clean w holds suits. search rules)

pub returns : goal.returns
returns g c = rw (c.keep_user.ensures.below, c.keep_user.ensures.entries)
    (reads_with _ _ _ _ _ _ c.in_ok-row.ensures
    (λ clean w holds suits. (suits.0, c.keep_user.ensures.known w (c.in_ok-row.ensures.stated clean w holds) suits.1)))
