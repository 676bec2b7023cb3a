use Rattle.book_kept.proofs.PlainKept as proven
use Rattle.book_kept.proofs.laws.session_is_kept.Goals as goal

pub returns : goal.returns
returns c = proven.session_is_kept
