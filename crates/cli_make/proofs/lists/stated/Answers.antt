use Rattle.std.proofs.Common.{map}
use Rattle.cli_make.proofs.ListLemmas.{stated_world}
use Rattle.cli_make.proofs.lists.stated.Goals as goal

pub returns-in-Ok : goal.returns-in-Ok
returns-in-Ok c = stated_world (map (λ t. t.now) c.args.texts.now) _ _ c.read_lists.ensures c.in-Ok.is
