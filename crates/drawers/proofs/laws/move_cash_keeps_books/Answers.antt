use Rattle.drawers.proofs.AllowedMove as proven
use Rattle.drawers.proofs.laws.move_cash_keeps_books.Goals as goal

pub returns : goal.returns
returns c = proven.move_cash_keeps_books
