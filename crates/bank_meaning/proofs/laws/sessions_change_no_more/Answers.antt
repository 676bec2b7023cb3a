use Rattle.bank_meaning.proofs.SessionSteps.{sessions_change_no_more}
use Rattle.bank_meaning.proofs.laws.sessions_change_no_more.Goals as goal

pub returns : goal.returns
returns c = sessions_change_no_more
