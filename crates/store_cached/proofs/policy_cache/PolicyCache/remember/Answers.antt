use Rattle.std.proofs.Common.{sym, subst}
use Rattle.store_cached.specs.Fresh.{AreFresh}
use Rattle.store_cached.proofs.Entries.{entry_looked_up, put-first, put-fresh}
use Rattle.store_cached.proofs.policy_cache.PolicyCache.remember.Goals as goal

pub returns-in-Ok-clause-fresh : goal.returns-in-Ok-clause-fresh
returns-in-Ok-clause-fresh c = λ w fresh present rows. rw c.in-Ok.ensures.entries
    (put-fresh w c.self.inside.entries c.args.key (record { version = c.args.version; rows = c.args.rows }) present rows (subst (AreFresh w) (sym c.self.view_is) fresh))

pub returns-in-Ok-clause-first : goal.returns-in-Ok-clause-first
returns-in-Ok-clause-first c = rw c.in-Ok.ensures.entries (put-first c.self.inside.entries c.args.key (record { version = c.args.version; rows = c.args.rows }))

pub returns-clause-fresh : goal.returns-clause-fresh
returns-clause-fresh c = λ w fresh present rows. rw c.in-Err.ensures.err (subst (AreFresh w) (sym c.self.view_is) fresh)

pub returns-clause-succeeds : goal.returns-clause-succeeds
returns-clause-succeeds c = λ there. c.in-Err.ensures.succeeds (entry_looked_up c.self.inside.entries.entries c.args.key (rw c.self.view_is there))
