use Rattle.sqlite.specs.Held.{state}
use Rattle.bank_policy.specs.declared.policy_write.PolicyWrite.TheVariants as policy
use Rattle.sql_writes.proofs.KeptLemmas.{policy_moves}
use Rattle.sql_writes.proofs.policy_writes.write_relation.Goals as goal

pub returns-clause-moves : goal.returns-clause-moves
returns-clause-moves g c =
    policy_moves (state g.S.Store c.args.tx.now.conn.now) (state g.S.Store c.add_relation.new.tx.conn.now) (policy.Relation c.args.relation.now) c.add_relation.result c.add_relation.ensures.step.steps c.add_relation.ensures.free
