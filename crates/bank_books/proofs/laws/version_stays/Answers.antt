use Rattle.bank_books.proofs.Plans as plans
use Rattle.bank_books.proofs.laws.version_stays.Goals as goal

pub returns : goal.returns
returns c = plans.version_stays
