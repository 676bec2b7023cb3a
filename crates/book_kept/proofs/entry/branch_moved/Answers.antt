-- What search finds for itself, asked for here so that a mutant is refused soon.
use Rattle.std.proofs.Common.{rules}
use Rattle.book_kept.proofs.entry.branch_moved.Goals as goal

pub returns-else-moved-number-clause-stated : goal.returns-else-moved-number-clause-stated
returns-else-moved-number-clause-stated c = search rules

pub returns-then-moved-number-clause-moved : goal.returns-then-moved-number-clause-moved
returns-then-moved-number-clause-moved c = search rules
