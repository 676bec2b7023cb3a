-- What search finds for itself, asked for here so that a mutant is refused soon.
use Rattle.std.proofs.Common.{rules}
use Rattle.store_sql.proofs.applying.apply_whole.Goals as goal

pub returns-clause-in_full : goal.returns-clause-in_full
returns-clause-in_full g c = search rules

pub returns-clause-refused : goal.returns-clause-refused
returns-clause-refused g c = search rules
