use Rattle.bank_meaning.proofs.CommandsDenied as proven
use Rattle.bank_meaning.proofs.laws.listing_is_denied_no_more.Goals as goal

pub returns : goal.returns
returns c = proven.listing_is_denied_no_more
