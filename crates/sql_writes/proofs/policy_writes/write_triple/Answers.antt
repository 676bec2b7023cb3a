use Rattle.sqlite.specs.Held.{state}
use Rattle.bank_policy.specs.declared.policy_write.PolicyWrite.TheVariants as policy
use Rattle.sql_writes.proofs.KeptLemmas.{policy_moves}
use Rattle.sql_writes.proofs.policy_writes.write_triple.Goals as goal

pub returns-clause-moves : goal.returns-clause-moves
returns-clause-moves g c =
    policy_moves (state g.S.Store c.args.tx.now.conn.now) (state g.S.Store c.add_triple.new.tx.conn.now) (policy.Triple c.args.triple.now) c.add_triple.result c.add_triple.ensures.step.steps c.add_triple.ensures.free
