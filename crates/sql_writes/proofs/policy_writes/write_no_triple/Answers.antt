use Rattle.sqlite.specs.Held.{state}
use Rattle.bank_policy.specs.declared.policy_write.PolicyWrite.TheVariants as policy
use Rattle.sql_writes.proofs.KeptLemmas.{policy_moves, says_nothing}
use Rattle.sql_writes.proofs.policy_writes.write_no_triple.Goals as goal

pub returns-clause-moves : goal.returns-clause-moves
returns-clause-moves g c =
    let old = state g.S.Store c.args.tx.now.conn.now in
    let new = state g.S.Store c.remove_triple.new.tx.conn.now in
    policy_moves old new (policy.NoTriple c.args.key.now) c.remove_triple.result c.remove_triple.ensures.step.steps (says_nothing old new c.remove_triple.result)
