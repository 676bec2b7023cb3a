use Rattle.sqlite.specs.Held.{state}
use Rattle.sql_whole.specs.Faults.{IsOfDatabase}
use Rattle.sql_whole.specs.PolicyTables.{AreGrantRows, ArePolicyTables, AreSetRows}
use Rattle.sql_schema.proofs.StepLemmas.{handed_on}
use Rattle.sql_whole.proofs.ReadsLemmas.{done_then, done_whole, gave_then, gave_whole, readable_then}
use Rattle.sql_whole.proofs.policy_tables.all_policy_tables.Goals as goal

pub returns-in_err-grants-clause-whole : goal.returns-in_err-grants-clause-whole
returns-in_err-grants-clause-whole g c =
    let s0 = state g.S.Store c.args.conn.now in
    let s1 = state g.S.Store c.set_rows.new.conn in
    let s2 = state g.S.Store c.grant_rows.new.conn in
    gave_whole c.args.edition s0 s2 (ArePolicyTables c.args.edition) c.from_residual-in_err-grants.result c.from_residual-in_err-grants.ensures.0
    (gave_then c.args.edition s0 s1 s2 (λ db. AreSetRows db c.in_ok-sets.sets) c.grant_rows.ensures.survives c.in_ok-sets.ensures.whole (λ clean has. (c.in_err-grants.ensures.whole clean has).2))

pub returns-clause-whole : goal.returns-clause-whole
returns-clause-whole g c =
    let s0 = state g.S.Store c.args.conn.now in
    let s1 = state g.S.Store c.set_rows.new.conn in
    let s2 = state g.S.Store c.grant_rows.new.conn in
    done_whole c.args.edition s0 s2 (λ db. AreSetRows db c.in_ok-sets.sets × AreGrantRows c.args.edition db c.in_ok-grants.grants) (λ db. ArePolicyTables c.args.edition db (record { sets = c.in_ok-sets.sets; grants = c.in_ok-grants.grants })) (λ db h. record { sets = h.0; grants = h.1 })
    (done_then c.args.edition s0 s1 s2 (λ db. AreSetRows db c.in_ok-sets.sets) (λ db. AreGrantRows c.args.edition db c.in_ok-grants.grants) c.grant_rows.ensures.survives c.in_ok-sets.ensures.whole c.in_ok-grants.ensures.whole)

pub returns-in_err-grants-clause-takes : goal.returns-in_err-grants-clause-takes
returns-in_err-grants-clause-takes g c clean has s holds readable =
    let s0 = state g.S.Store c.args.conn.now in
    let s1 = state g.S.Store c.set_rows.new.conn in
    let s2 = state g.S.Store c.grant_rows.new.conn in
    let fault = c.in_err-grants.field-0.0 in
    handed_on c.from_residual-in_err-grants.result fault IsOfDatabase c.from_residual-in_err-grants.ensures.1
    (readable_then c.args.edition s0 s1 s2 (λ db. AreSetRows db c.in_ok-sets.sets) (IsOfDatabase fault) c.grant_rows.ensures.survives c.in_ok-sets.ensures.whole c.in_err-grants.ensures.takes clean has s holds readable)
