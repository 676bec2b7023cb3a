use Rattle.std.proofs.Common.{slice_get, ap, ◌∙◌}
use Rattle.sql_schema.specs.Shown.{shown_branch}
use Rattle.sql_schema.proofs.PickedRows.{first_picked}
use Rattle.sql_books.proofs.BranchLemmas.{branch_is, selects_branch}
use Rattle.sql_books.proofs.branches.branch_of.Goals as goal

pub picked-requires : goal.picked-requires
picked-requires g c = branch_is.2

pub returns-clause-found : goal.returns-clause-found
returns-clause-found g c clean s holds =
    c.picked.ensures.found clean _ (λ _ _. tt)
    (λ rows shown. ap (λ rs. slice_get rs 0) (selects_branch _ _ s c.args.branch rows holds (rw c.params-to_sql.ensures at shown)) ∙ first_picked shown_branch _ s.branches)
