use Rattle.std.proofs.Common.{ap}
use Rattle.bank_books.specs.WorldLists.{WorldLists}
use Rattle.list_opening.proofs.opening.read_books.Goals as goal

pub returns-clause-opened : goal.returns-clause-opened
returns-clause-opened c policy =
    ap (λ (w : WorldLists). record w { branches = c.in_ok-lists.field-0.items; tellers = c.in_ok-lists-2.field-0.items; accounts = c.in_ok-lists-3.field-0.items }) (c.new-lists.ensures.empty policy 0)
