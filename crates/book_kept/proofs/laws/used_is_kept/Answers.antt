use Rattle.book_kept.proofs.PlainKept as proven
use Rattle.book_kept.proofs.laws.used_is_kept.Goals as goal

pub returns : goal.returns
returns c = proven.used_is_kept
