use Rattle.std.proofs.Common.{◌∙◌, ap, map}
use Rattle.std.proofs.lemmas.Result.{IfOk-weaker}
use Rattle.sqlite.specs.Held.{state}
use Rattle.sql_schema.proofs.StepChains.{read_stopped}
use Rattle.sql_schema.proofs.StepLemmas.{early}
use Rattle.sql_policy.specs.HeldRows.{certified_in}
use Rattle.sql_policy.proofs.SoFarLemmas.{read_then}
use Rattle.sql_policy.proofs.held.relations_of.Goals as goal

pub returns-in_err-relations-clause-reads : goal.returns-in_err-relations-clause-reads
returns-in_err-relations-clause-reads g c = read_stopped c.from_residual.ensures.0 c.relations_in.ensures.reads

pub returns-clause-found : goal.returns-clause-found
returns-clause-found g c clean inside s holds =
    let mid = state g.S.Store c.relations_in.new.tx.conn.now in
    let last = state g.S.Store c.certified_rows.new.tx.conn.now in
    let clean1 = early mid last _ c.certified_rows.ensures.step.survives clean in
    let one = c.in_ok-relations.ensures.reads.stays clean1 inside s holds in
    IfOk-weaker c.certified_rows.result _ _ (λ rows is. is ∙ ap (map (certified_in s)) (c.deref.ensures.value ∙ c.in_ok-relations.ensures.found clean1 s holds)) (c.certified_rows.ensures.found clean one.0.0 s one.0.1)

pub returns-clause-reads : goal.returns-clause-reads
returns-clause-reads g c = read_then c.in_ok-relations.ensures.reads c.certified_rows.ensures.step
