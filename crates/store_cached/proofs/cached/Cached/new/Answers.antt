-- What search finds for itself, asked for here so that a mutant is refused soon.
use Rattle.std.proofs.Common.{rules}
use Rattle.store_cached.proofs.cached.Cached.new.Goals as goal

pub returns-in-Ok-clause-empty : goal.returns-in-Ok-clause-empty
returns-in-Ok-clause-empty g c = search rules
