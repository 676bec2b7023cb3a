use Rattle.std.proofs.Common.{slice_get, ap, ◌∙◌}
use Rattle.sql_schema.specs.Shown.{shown_teller}
use Rattle.sql_schema.proofs.PickedRows.{first_picked}
use Rattle.sql_books.proofs.TellerLemmas.{selects_teller, teller_is}
use Rattle.sql_books.proofs.tellers.teller_of.Goals as goal

pub picked-requires : goal.picked-requires
picked-requires g c = teller_is.2

pub returns-clause-found : goal.returns-clause-found
returns-clause-found g c clean s holds =
    c.picked.ensures.found clean _ (λ _ _. tt)
    (λ rows shown. ap (λ rs. slice_get rs 0) (selects_teller _ _ s c.args.teller rows holds (rw c.params-to_sql.ensures at shown)) ∙ first_picked shown_teller _ s.tellers)
