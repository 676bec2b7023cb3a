-- What search finds for itself, asked for here so that a mutant is refused soon.
use Rattle.std.proofs.Common.{rules}
use Rattle.decide.proofs.policy_rules.find_authorization.Goals as goal

pub returns-then-not-is_certified_for : goal.returns-then-not-is_certified_for
returns-then-not-is_certified_for g c = search rules
