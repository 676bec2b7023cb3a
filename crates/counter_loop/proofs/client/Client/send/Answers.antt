-- By how much waits then.
use Rattle.std.proofs.Common.{rules}
use Rattle.counter_loop.proofs.EndLemmas.{timed_by}
use Rattle.counter_loop.proofs.client.Client.send.Goals as goal

pub returns-clause-timed : goal.returns-clause-timed
returns-clause-timed g c = timed_by _ _ _ (search rules) c.note_taken.ensures.none c.note_taken.ensures.some
