use Rattle.book_kept.proofs.PlainKept as proven
use Rattle.book_kept.proofs.laws.proof_is_kept.Goals as goal

pub returns : goal.returns
returns c = proven.proof_is_kept
