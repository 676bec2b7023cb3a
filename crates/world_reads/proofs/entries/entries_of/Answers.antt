use Rattle.world_reads.specs.BookReads.{entry_at}
use Rattle.world_reads.proofs.There.{there-more, there-none}
use Rattle.world_reads.proofs.entries.entries_of.Goals as goal

pub returns-in-None : goal.returns-in-None
returns-in-None c =
    there-none (entry_at c.args.world.now c.args.account) c.loop-turn.turn _ c.loop-turn.rows.items _
    c.loop-turn-test.true c.in-None.ensures c.loop-turn.invariant

pub loop-turn-preserved : goal.loop-turn-preserved
loop-turn-preserved c =
    there-more (entry_at c.args.world.now c.args.account) c.loop-turn.turn _ c.in-Some.row c.loop-turn.rows.items _ _
    c.loop-turn-test.true c.in-Some.ensures c.loop-turn.invariant c.in_ok-push-in-Some.ensures.items
