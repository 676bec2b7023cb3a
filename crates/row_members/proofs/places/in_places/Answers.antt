use Rattle.std.proofs.Common.{rules, pos, length}
use Rattle.std.proofs.lemmas.List.{drop-replicate}
use Rattle.row_members.proofs.places.in_places.Goals as goal

pub returns : goal.returns
returns c = let rest = drop-replicate (length c.args.numbers.now) 8 (pos 0) in search rules
