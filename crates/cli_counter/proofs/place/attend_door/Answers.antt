-- By the clauses of what served the connections.
use Rattle.std.proofs.Common.{inl, rules}
use Rattle.cli_counter.proofs.place.attend_door.Goals as goal

pub returns-in-Ok-done : goal.returns-in-Ok-done
returns-in-Ok-done g c = inl (search rules, c.serve_many-parted.ensures.rounds, search rules, search rules)

pub returns-in-Err : goal.returns-in-Err
returns-in-Err g c = inl (search rules, c.serve_many-parted.ensures.rounds, search rules, search rules)
