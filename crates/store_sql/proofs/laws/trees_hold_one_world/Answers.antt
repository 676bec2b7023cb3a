use Rattle.store_sql.proofs.WorldLemmas.{same_world_in}
use Rattle.store_sql.proofs.laws.trees_hold_one_world.Goals as goal

pub returns : goal.returns
returns c = same_world_in
