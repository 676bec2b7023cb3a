use Rattle.drawers.proofs.AllowedOn as proven
use Rattle.drawers.proofs.laws.drawer_on_keeps_books.Goals as goal

pub returns : goal.returns
returns c = proven.drawer_on_keeps_books
