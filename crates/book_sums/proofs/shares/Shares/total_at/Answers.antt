use Rattle.std.proofs.Common.{arith}
use Rattle.std.proofs.lemmas.Int.{ints}
use Rattle.book_sums.proofs.SharesCalls.{added_at}
use Rattle.book_sums.proofs.shares.Shares.total_at.Goals as goal

pub returns-clause-value : goal.returns-clause-value
returns-clause-value c =
    omega (
      arith,
      ints,
      c.total_between.ensures.value,
      added_at c.args.group c.args.number c.key_of.result c.key_of-2.result c.args.self.now (omega arith) c.key_of.ensures c.key_of-2.ensures c.total_between.ensures.parts,
    )
