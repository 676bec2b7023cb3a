use Rattle.sql_adopt.proofs.TakenLemmas.{first_found}
use Rattle.sql_adopt.proofs.reading.row_of_edition.Goals as goal

pub returns-in_default-2-clause-first : goal.returns-in_default-2-clause-first
returns-in_default-2-clause-first c db version table row =
    let found = first_found c.args.edition db c.args.found version table row in
    let none = c.in_default.is in cc
