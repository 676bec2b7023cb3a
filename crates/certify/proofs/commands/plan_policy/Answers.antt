-- What search finds for itself, asked for here so that a mutant is refused soon.
use Rattle.std.proofs.Common.{rules}
use Rattle.certify.proofs.commands.plan_policy.Goals as goal

pub returns-clause-planned : goal.returns-clause-planned
returns-clause-planned c = search rules
