use Rattle.std.proofs.Common.{◌≡◌, ◌∙◌, Some, ap, subst, sym}
use Rattle.std.specs.Map.{lookup}
use Rattle.std.specs.Option.{option_copied}
use Rattle.store_cached.proofs.Entries.{copied, copy-HasRows, found-fresh, kept_found, promoted-first, promoted-fresh}
use Rattle.store_cached.proofs.Keys.{same}
use Rattle.store_cached.specs.Fresh.{AreFresh, HasRows, IsFirst}
use Rattle.store_cached.proofs.policy_cache.PolicyCache.recall.Goals as goal
use Rattle.lru.specs.LruCache.{promoted}

pub returns-clause-stated : goal.returns-clause-stated
returns-clause-stated c = λ w fresh present.
    let there = kept_found c.args.self.now c.args.key c.args.version c.in_ok-kept.kept.now (ap option_copied (sym c.in_ok-kept.was) ∙ c.find.ensures) in
    copy-HasRows w c.args.key c.in_ok-kept.kept.now c.in_ok-rows.rows
    (copied c.in_ok-kept.kept.now c.in_ok-rows.rows c.lent_rows.result c.lent_rows.ensures (sym c.ok.ensures.value ∙ c.in_ok-rows.was))
    (subst (HasRows w c.args.key) there.3 (found-fresh w c.args.self.now c.args.key there.0 there.1 (there.2 ∙ present) fresh))

pub returns-clause-fresh : goal.returns-clause-fresh
returns-clause-fresh c = λ w fresh. rw c.promote.ensures.entries (promoted-fresh w c.self.inside.entries.entries c.args.key (subst (AreFresh w) (sym c.self.view_is) fresh))

pub returns-clause-first : goal.returns-clause-first
returns-clause-first c =
    let there = kept_found c.args.self.now c.args.key c.args.version c.in_ok-kept.kept.now (ap option_copied (sym c.in_ok-kept.was) ∙ c.find.ensures) in
    rw c.promote.ensures.entries
    (subst (λ v. IsFirst c.args.key v (promoted (same c.args.key) c.self.inside.entries.entries)) there.2
    (promoted-first c.self.inside.entries.entries c.args.key there.0 (subst (λ es. lookup (same c.args.key) es ≡ Some there.0) (sym c.self.view_is) there.1)))
