use Rattle.std.proofs.Common.{rules, ◌≤◌, ◌+◌, length}
use Rattle.list_opening.proofs.SetLemmas.{last_alone}
use Rattle.list_opening.proofs.item_sets.ends_set.Goals as goal

pub returns-in-None : goal.returns-in-None
returns-in-None c = let past : length c.args.rows.now ≤ c.args.i + 1 = search rules in last_alone c.args.rows.now c.args.i c.requires past
