use Rattle.book_kept.proofs.PlainKept as proven
use Rattle.book_kept.proofs.laws.rows_determine_answers.Goals as goal

pub returns : goal.returns
returns c = proven.rows_determine_answers
