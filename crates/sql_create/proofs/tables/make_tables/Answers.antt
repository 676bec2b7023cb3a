use Rattle.sql_create.proofs.GoesLemmas.{made_then, makes_then}
use Rattle.sql_create.proofs.tables.make_tables.Goals as goal

pub returns-clause-goes : goal.returns-clause-goes
returns-clause-goes g c =
    let sets = c.in_ok-make_bank_and_sets.ensures.goes in
    let rights = made_then sets c.make_rights.ensures.frame.survives c.in_ok-make_rights.ensures.goes in
    let books = made_then rights c.make_books.ensures.frame.survives c.in_ok-make_books.ensures.goes in
    let history = made_then books c.make_history.ensures.frame.survives c.in_ok-make_history.ensures.goes in
    let indexes = made_then history c.make_indexes.ensures.frame.survives c.in_ok-make_indexes.ensures.goes in
    makes_then _ c.make_slips.result indexes c.make_slips.ensures.frame.survives c.make_slips.ensures.goes
