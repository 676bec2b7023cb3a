use Rattle.drawers.proofs.AllowedOff as proven
use Rattle.drawers.proofs.laws.drawer_off_keeps_books.Goals as goal

pub returns : goal.returns
returns c = proven.drawer_off_keeps_books
