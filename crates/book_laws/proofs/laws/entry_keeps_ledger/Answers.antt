use Rattle.book_laws.proofs.EntryAdded as proven
use Rattle.book_laws.proofs.laws.entry_keeps_ledger.Goals as goal

pub returns : goal.returns
returns c = proven.entry_keeps_ledger
