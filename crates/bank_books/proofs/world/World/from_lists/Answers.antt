-- What search finds for itself, asked for here so that a mutant is refused soon.
use Rattle.std.proofs.Common.{rules}
use Rattle.bank_books.proofs.world.World.from_lists.Goals as goal

pub invariant_of-result : goal.invariant_of-result
invariant_of-result c = search rules
