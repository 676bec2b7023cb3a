use Rattle.bank_meaning.proofs.OpenedAccount as proven
use Rattle.bank_meaning.proofs.laws.new_account_keeps_books.Goals as goal

pub returns : goal.returns
returns c = proven.new_account_keeps_books
