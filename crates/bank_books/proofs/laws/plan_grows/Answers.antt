use Rattle.bank_books.proofs.Plans.{applied-append}
use Rattle.bank_books.proofs.laws.plan_grows.Goals as goal

pub returns : goal.returns
returns c = applied-append
