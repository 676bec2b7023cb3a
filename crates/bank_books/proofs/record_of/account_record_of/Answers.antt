-- What search finds for itself, asked for here so that a mutant is refused soon.
use Rattle.std.proofs.Common.{rules}
use Rattle.bank_books.proofs.record_of.account_record_of.Goals as goal

pub returns : goal.returns
returns c = search rules
