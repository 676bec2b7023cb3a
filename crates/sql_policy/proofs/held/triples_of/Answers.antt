use Rattle.std.proofs.Common.{◌∙◌, ap, map}
use Rattle.std.proofs.lemmas.Result.{IfOk-weaker}
use Rattle.sqlite.specs.Held.{state}
use Rattle.sql_schema.proofs.StepChains.{read_stopped}
use Rattle.sql_schema.proofs.StepLemmas.{early}
use Rattle.sql_policy.specs.HeldRows.{held_in}
use Rattle.sql_policy.proofs.SoFarLemmas.{read_then}
use Rattle.sql_policy.proofs.held.triples_of.Goals as goal

pub returns-in_err-triples-clause-reads : goal.returns-in_err-triples-clause-reads
returns-in_err-triples-clause-reads g c = read_stopped c.from_residual.ensures.0 c.triples_in.ensures.reads

pub returns-clause-found : goal.returns-clause-found
returns-clause-found g c clean inside s holds =
    let mid = state g.S.Store c.triples_in.new.tx.conn.now in
    let last = state g.S.Store c.held_rows.new.tx.conn.now in
    let clean1 = early mid last _ c.held_rows.ensures.step.survives clean in
    let one = c.in_ok-triples.ensures.reads.stays clean1 inside s holds in
    IfOk-weaker c.held_rows.result _ _ (λ rows is. is ∙ ap (map (held_in s)) (c.deref.ensures.value ∙ c.in_ok-triples.ensures.found clean1 s holds)) (c.held_rows.ensures.found clean one.0.0 s one.0.1)

pub returns-clause-reads : goal.returns-clause-reads
returns-clause-reads g c = read_then c.in_ok-triples.ensures.reads c.held_rows.ensures.step
