use Rattle.book_laws.proofs.ReleaseAdded as proven
use Rattle.book_laws.proofs.laws.release_keeps_ledger.Goals as goal

pub returns : goal.returns
returns c = proven.release_keeps_ledger
