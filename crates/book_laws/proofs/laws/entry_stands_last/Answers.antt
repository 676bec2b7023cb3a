use Rattle.book_laws.proofs.EntryMoved as proven
use Rattle.book_laws.proofs.laws.entry_stands_last.Goals as goal

pub returns : goal.returns
returns c = proven.entry_stands_last
