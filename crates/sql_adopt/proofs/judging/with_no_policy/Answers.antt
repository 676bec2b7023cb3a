-- What search finds for itself, asked for here so that a mutant is refused soon.
use Rattle.std.proofs.Common.{rules}
use Rattle.sql_adopt.proofs.judging.with_no_policy.Goals as goal

pub returns-after-judged_books-clause-named : goal.returns-after-judged_books-clause-named
returns-after-judged_books-clause-named c = search rules
