use Rattle.store_cached.proofs.Plans.{changes_beside}
use Rattle.store_cached.proofs.store.CachedStore.apply.Goals as goal

pub returns-clause-changed : goal.returns-clause-changed
returns-clause-changed g c = changes_beside _ _ _ _ _ c.args.plan.items _ (rw c.deref.ensures.value at c.forget.ensures.carried) c.forget.ensures.refused c.apply.ensures.changed

pub returns-clause-room : goal.returns-clause-room
returns-clause-room g c = λ clean w holds. c.apply.ensures.room clean w holds.0
