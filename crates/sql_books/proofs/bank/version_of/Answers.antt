use Rattle.std.proofs.Common.{slice_get, ◌∙◌, ap}
use Rattle.std.proofs.lemmas.Result.{IfOk-weaker}
use Rattle.sql_schema.proofs.StepChains.{read_answered, read_stopped}
use Rattle.sql_books.proofs.BankLemmas.{version_read}
use Rattle.sql_books.proofs.bank.version_of.Goals as goal

pub returns-in-Some-clause-found : goal.returns-in-Some-clause-found
returns-in-Some-clause-found g c clean s holds =
    IfOk-weaker c.count_at.result _ _
    (λ version is. version_read c.in-Some.row.now c.in_ok-rows.rows.items s.version version (c.in-Some.ensures.value ∙ ap (λ rows. slice_get rows 0) c.deref.ensures.value) (c.in_ok-rows.ensures.rows clean s holds) is)
    c.count_at.ensures.stated

pub returns-in-Some-clause-reads : goal.returns-in-Some-clause-reads
returns-in-Some-clause-reads g c = read_answered c.in_ok-rows.ensures.reads c.count_at.result

pub returns-clause-reads : goal.returns-clause-reads
returns-clause-reads g c = read_answered c.in_ok-rows.ensures.reads _

pub returns-in_err-rows-clause-reads : goal.returns-in_err-rows-clause-reads
returns-in_err-rows-clause-reads g c = read_stopped c.from_residual.ensures.0 c.select_version.ensures.reads
