-- What search finds for itself, asked for here so that a mutant is refused soon.
use Rattle.std.proofs.Common.{rules}
use Rattle.bank_books.proofs.balances.OfBranchTallyEntry.share.Goals as goal

pub returns-then-row-self : goal.returns-then-row-self
returns-then-row-self c = search rules
