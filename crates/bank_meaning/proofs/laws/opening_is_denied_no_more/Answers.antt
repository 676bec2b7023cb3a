use Rattle.bank_meaning.proofs.CommandsDenied as proven
use Rattle.bank_meaning.proofs.laws.opening_is_denied_no_more.Goals as goal

pub returns : goal.returns
returns c = proven.opening_is_denied_no_more
