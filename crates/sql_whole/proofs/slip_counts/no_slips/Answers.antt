use Rattle.sql_whole.proofs.CountLemmas.{short_counts}
use Rattle.sql_whole.proofs.slip_counts.no_slips.Goals as goal

pub returns-in-Ok-clause-typed : goal.returns-in-Ok-clause-typed
returns-in-Ok-clause-typed c typed = short_counts c.args.users.now c.in-Ok.counts.items c.in-Ok.ensures typed
