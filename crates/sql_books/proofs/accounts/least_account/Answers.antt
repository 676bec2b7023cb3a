use Rattle.std.proofs.Common.{slice_get, ap, ◌∙◌}
use Rattle.sql_schema.specs.Shown.{shown_account}
use Rattle.sql_schema.proofs.PickedRows.{first_of_one}
use Rattle.sql_books.proofs.AccountLemmas.{least_account_is, selects_least_account}
use Rattle.sql_books.proofs.accounts.least_account.Goals as goal

pub picked-requires : goal.picked-requires
picked-requires g c = least_account_is.2

pub returns-clause-found : goal.returns-clause-found
returns-clause-found g c clean s holds =
    c.picked.ensures.found clean _ (λ _ _. tt)
    (λ rows shown. ap (λ rs. slice_get rs 0) (selects_least_account _ _ s c.args.low c.args.high rows holds (rw (c.params-to_sql.ensures, c.params-to_sql-2.ensures) at shown)) ∙ first_of_one shown_account _ s.accounts)
