use Rattle.bank_meaning.proofs.Questions.{questions_change_nothing}
use Rattle.bank_meaning.proofs.laws.questions_change_nothing.Goals as goal

pub returns : goal.returns
returns c = questions_change_nothing
