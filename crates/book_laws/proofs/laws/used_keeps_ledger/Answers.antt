use Rattle.book_laws.proofs.ReleaseUsed as proven
use Rattle.book_laws.proofs.laws.used_keeps_ledger.Goals as goal

pub returns : goal.returns
returns c = proven.used_keeps_ledger
