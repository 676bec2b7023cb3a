use Rattle.book_laws.proofs.PlanMoves as proven
use Rattle.book_laws.proofs.laws.plan_moves.Goals as goal

pub returns : goal.returns
returns c = proven.plan_moves
