use Rattle.std.proofs.Common.{◌∙◌, ap, sym}
use Rattle.std.specs.Option.{option_copied}
use Rattle.store_cached.proofs.Entries.{rows_found, rows_missing, rows_outdated}
use Rattle.store_cached.proofs.policy_cache.PolicyCache.find.Goals.{in_default-via-in-Some+else-kept-version, in_default-via-in_default}
use Rattle.store_cached.proofs.policy_cache.PolicyCache.find.Goals as goal

pub returns-in-Some : goal.returns-in-Some
returns-in-Some c = rw (← c.self.view_is)
    (rows_found c.self.inside.entries.entries c.args.key c.args.version c.in-Some.kept.now (ap option_copied (sym c.in-Some.is) ∙ c.peek.ensures) c.if-kept-version.true)

pub returns-in_default : goal.returns-in_default
returns-in_default c = rw (← c.self.view_is) (elim c.in_default.branch [
  | in_default-via-in-Some+else-kept-version w ↦ rows_outdated c.self.inside.entries.entries c.args.key c.args.version w.in-Some.kept.now (ap option_copied (sym w.in-Some.is) ∙ c.peek.ensures) w.if-kept-version.false
  | in_default-via-in_default w ↦ rows_missing c.self.inside.entries.entries c.args.key c.args.version (ap option_copied (sym w.in_default.is) ∙ c.peek.ensures)
])
