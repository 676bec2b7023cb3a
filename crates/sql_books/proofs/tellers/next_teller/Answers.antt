use Rattle.std.proofs.Common.{slice_get, ap, ◌∙◌}
use Rattle.sql_schema.specs.Shown.{shown_teller}
use Rattle.sql_schema.proofs.PickedRows.{first_of_one}
use Rattle.sql_books.proofs.TellerLemmas.{next_teller_is, selects_next_teller}
use Rattle.sql_books.proofs.tellers.next_teller.Goals as goal

pub picked-requires : goal.picked-requires
picked-requires g c = next_teller_is.2

pub returns-clause-found : goal.returns-clause-found
returns-clause-found g c clean s holds =
    c.picked.ensures.found clean _ (λ _ _. tt)
    (λ rows shown. ap (λ rs. slice_get rs 0) (selects_next_teller _ _ s c.args.branch c.args.after rows holds (rw (c.params-to_sql.ensures, c.params-to_sql-2.ensures) at shown)) ∙ first_of_one shown_teller _ s.tellers)
