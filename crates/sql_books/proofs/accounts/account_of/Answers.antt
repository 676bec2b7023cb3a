use Rattle.std.proofs.Common.{slice_get, ap, ◌∙◌}
use Rattle.sql_schema.specs.Shown.{shown_account}
use Rattle.sql_schema.proofs.PickedRows.{first_picked}
use Rattle.sql_books.proofs.AccountLemmas.{account_is, selects_account}
use Rattle.sql_books.proofs.accounts.account_of.Goals as goal

pub picked-requires : goal.picked-requires
picked-requires g c = account_is.2

pub returns-clause-found : goal.returns-clause-found
returns-clause-found g c clean s holds =
    c.picked.ensures.found clean _ (λ _ _. tt)
    (λ rows shown. ap (λ rs. slice_get rs 0) (selects_account _ _ s c.args.account rows holds (rw c.params-to_sql.ensures at shown)) ∙ first_picked shown_account _ s.accounts)
