use Rattle.postings.proofs.AllowedTransfer as proven
use Rattle.postings.proofs.laws.transfer_keeps_books.Goals as goal

pub returns : goal.returns
returns c = proven.transfer_keeps_books
