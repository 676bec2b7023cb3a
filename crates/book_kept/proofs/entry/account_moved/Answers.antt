-- What search finds for itself, asked for here so that a mutant is refused soon.
use Rattle.std.proofs.Common.{rules}
use Rattle.book_kept.proofs.entry.account_moved.Goals as goal

pub returns-then-moved-turn-clause-next : goal.returns-then-moved-turn-clause-next
returns-then-moved-turn-clause-next c = search rules
