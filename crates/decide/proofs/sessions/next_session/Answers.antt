-- What search finds for itself, asked for here so that a mutant is refused soon.
use Rattle.std.proofs.Common.{rules}
use Rattle.decide.proofs.sessions.next_session.Goals as goal

pub returns-then-row-lt-MAX_KEY-clause-number : goal.returns-then-row-lt-MAX_KEY-clause-number
returns-then-row-lt-MAX_KEY-clause-number c = search rules
