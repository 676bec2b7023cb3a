use Rattle.bank_meaning.proofs.KeptReplies.{still_along}
use Rattle.bank_meaning.proofs.laws.slips_stay.Goals as goal

pub returns : goal.returns
returns c = still_along
