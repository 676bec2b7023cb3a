use Rattle.sqlite.specs.Held.{state}
use Rattle.sql_whole.specs.Faults.{IsOfDatabase}
use Rattle.sql_whole.specs.PolicyTables.{AreSetRows}
use Rattle.sql_whole.specs.Tables.{AreMembers, AreSets}
use Rattle.sql_schema.proofs.StepLemmas.{handed_on}
use Rattle.sql_whole.proofs.ReadsLemmas.{done_then, done_whole, gave_then, gave_whole, readable_then}
use Rattle.sql_whole.proofs.policy_tables.set_rows.Goals as goal

pub returns-in_err-members-clause-whole : goal.returns-in_err-members-clause-whole
returns-in_err-members-clause-whole g c =
    let s0 = state g.S.Store c.args.conn.now in
    let s1 = state g.S.Store c.all_sets.new.conn in
    let s2 = state g.S.Store c.all_members.new.conn in
    gave_whole c.args.edition s0 s2 AreSetRows c.from_residual-in_err-members.result c.from_residual-in_err-members.ensures.0
    (gave_then c.args.edition s0 s1 s2 (λ db. AreSets db c.in_ok-sets.sets.items) c.all_members.ensures.read_only.survives c.in_ok-sets.ensures.whole (λ clean has. (c.in_err-members.ensures.whole clean has).2))

pub returns-clause-whole : goal.returns-clause-whole
returns-clause-whole g c =
    let s0 = state g.S.Store c.args.conn.now in
    let s1 = state g.S.Store c.all_sets.new.conn in
    let s2 = state g.S.Store c.all_members.new.conn in
    done_whole c.args.edition s0 s2 (λ db. AreSets db c.in_ok-sets.sets.items × AreMembers db c.in_ok-members.members.items) (λ db. AreSetRows db (record { sets = c.in_ok-sets.sets; members = c.in_ok-members.members })) (λ db h. record { sets = h.0; members = h.1 })
    (done_then c.args.edition s0 s1 s2 (λ db. AreSets db c.in_ok-sets.sets.items) (λ db. AreMembers db c.in_ok-members.members.items) c.all_members.ensures.read_only.survives c.in_ok-sets.ensures.whole c.in_ok-members.ensures.whole)

pub returns-in_err-members-clause-takes : goal.returns-in_err-members-clause-takes
returns-in_err-members-clause-takes g c clean has s holds readable =
    let s0 = state g.S.Store c.args.conn.now in
    let s1 = state g.S.Store c.all_sets.new.conn in
    let s2 = state g.S.Store c.all_members.new.conn in
    let fault = c.in_err-members.field-0.0 in
    handed_on c.from_residual-in_err-members.result fault IsOfDatabase c.from_residual-in_err-members.ensures.1
    (readable_then c.args.edition s0 s1 s2 (λ db. AreSets db c.in_ok-sets.sets.items) (IsOfDatabase fault) c.all_members.ensures.read_only.survives c.in_ok-sets.ensures.whole c.in_err-members.ensures.takes clean has s holds readable)
