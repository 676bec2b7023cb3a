use Rattle.std.proofs.Common.{◌≡◌, ◌∙◌, false, sym}
use Rattle.sql_writes.specs.Known.{moves_books}
use Rattle.sql_writes.proofs.KnownLemmas.{known_along}
use Rattle.sql_writes.proofs.known.KnownRows.forget.Goals as goal

pub returns-else-moves_books : goal.returns-else-moves_books
returns-else-moves_books c w known =
    let none : moves_books c.args.plan.now ≡ false = sym c.moves_books.ensures ∙ c.if-moves_books.false in
    known_along c.args.plan.now w c.args.self.now none known
