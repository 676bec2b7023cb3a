use Rattle.drawers.proofs.AllowedClose as proven
use Rattle.drawers.proofs.laws.close_day_keeps_books.Goals as goal

pub returns : goal.returns
returns c = proven.close_day_keeps_books
