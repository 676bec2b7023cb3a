use Rattle.std.proofs.Common.{◌∙◌, find, sym}
use Rattle.std.proofs.lemmas.Result.{IfOk-weaker}
use Rattle.store_sql.proofs.least_reads.least_in.Goals as goal

pub returns-clause-found : goal.returns-clause-found
returns-clause-found g c clean s holds =
    IfOk-weaker c.least_account.result _ _ (λ row is. is ∙ (λ i. find (λ a. sym (c.reach-numbers.ensures a.row.account) i) s.accounts)) (c.least_account.ensures.found clean s holds)
