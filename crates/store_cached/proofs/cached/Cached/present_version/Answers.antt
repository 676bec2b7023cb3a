use Rattle.std.proofs.Common.{rules, ◌∙◌}
use Rattle.store_cached.proofs.Standing.{reads_beside, reads_kept, reads_with}
use Rattle.store_cached.proofs.cached.Cached.present_version.Goals as goal

pub returns-in_err-version-clause-reads : goal.returns-in_err-version-clause-reads
returns-in_err-version-clause-reads g c =
    reads_kept _ (g.S.StoreState.status c.version.new.self) _ _ _ _ _ _ (reads_beside _ _ _ _ _ c.in_err-version.ensures) (search rules) (λ clean w holds suits. suits) (λ clean w holds suits. search rules)

pub returns-clause-reads : goal.returns-clause-reads
returns-clause-reads g c =
    reads_with _ _ _ _ _ _ c.in_ok-version.ensures
    (λ clean w holds suits. (suits.0, record { version = c.new.ensures.version ∙ c.in_ok-version.ensures.stated clean w holds; users = c.new.ensures.users w }))
