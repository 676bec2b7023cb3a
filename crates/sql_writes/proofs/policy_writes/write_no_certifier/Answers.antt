use Rattle.sqlite.specs.Held.{state}
use Rattle.bank_policy.specs.declared.policy_write.PolicyWrite.TheVariants as policy
use Rattle.sql_writes.proofs.KeptLemmas.{policy_moves, says_nothing}
use Rattle.sql_writes.proofs.policy_writes.write_no_certifier.Goals as goal

pub returns-clause-moves : goal.returns-clause-moves
returns-clause-moves g c =
    let old = state g.S.Store c.args.tx.now.conn.now in
    let new = state g.S.Store c.remove_certifier.new.tx.conn.now in
    policy_moves old new (policy.NoCertifier c.args.certifier.now) c.remove_certifier.result c.remove_certifier.ensures.step.steps (says_nothing old new c.remove_certifier.result)
