use Rattle.list_opening.proofs.BadgeLemmas.{IsAfter}
use Rattle.list_opening.proofs.badges.user_among.Given as goal

abbrev pub invariant-loop-row : goal.invariant-loop-row
invariant-loop-row l = IsAfter l.badges l.badge l.row-index
