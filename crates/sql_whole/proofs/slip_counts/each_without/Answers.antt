use Rattle.sql_whole.proofs.CountLemmas.{count_more}
use Rattle.sql_whole.proofs.slip_counts.each_without.Goals as goal

pub loop-user-preserved : goal.loop-user-preserved
loop-user-preserved c =
    count_more c.args.users.now c.loop-user.user-index c.user-item.result c.loop-user.counts.items c.push.new.self.items c.loop-user-test.true c.user-item.is c.loop-user.invariant c.in_ok-push.ensures.items
