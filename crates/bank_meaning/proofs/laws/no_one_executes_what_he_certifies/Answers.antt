use Rattle.bank_meaning.proofs.AllowedRequest.{no_one_executes_what_he_certifies}
use Rattle.bank_meaning.proofs.laws.no_one_executes_what_he_certifies.Goals as goal

pub returns : goal.returns
returns c = no_one_executes_what_he_certifies
