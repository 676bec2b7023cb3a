use Rattle.book_kept.proofs.SlipKept.{slip_is_kept}
use Rattle.book_kept.proofs.laws.slip_is_kept.Goals as goal

pub returns : goal.returns
returns c = slip_is_kept
