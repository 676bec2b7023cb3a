use Rattle.certify.proofs.CommandBooks as proven
use Rattle.certify.proofs.laws.command_keeps_books.Goals as goal

pub returns : goal.returns
returns c = proven.command_keeps_books
