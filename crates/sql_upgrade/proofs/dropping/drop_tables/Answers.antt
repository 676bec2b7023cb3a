use Rattle.sql_upgrade.proofs.ProceedsLemmas.{taken_then, takes_then}
use Rattle.sql_upgrade.proofs.dropping.drop_tables.Goals as goal

pub returns-clause-proceeds : goal.returns-clause-proceeds
returns-clause-proceeds g c =
    let e = c.args.edition in
    let books = taken_then (c.in_ok-drop_history.ensures.proceeds e) c.drop_books.ensures.frame.survives (c.in_ok-drop_books.ensures.proceeds e) in
    let rights = taken_then books c.drop_rights.ensures.frame.survives c.in_ok-drop_rights.ensures.proceeds in
    takes_then _ c.drop_bank_and_sets.result rights c.drop_bank_and_sets.ensures.frame.survives (c.drop_bank_and_sets.ensures.proceeds e)
