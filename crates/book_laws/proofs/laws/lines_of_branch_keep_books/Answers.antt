use Rattle.book_laws.proofs.LinesOfBranch as proven
use Rattle.book_laws.proofs.laws.lines_of_branch_keep_books.Goals as goal

pub returns : goal.returns
returns c = proven.lines_of_branch_keep_books
