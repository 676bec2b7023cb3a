use Rattle.bank_meaning.proofs.FirstRule.{first_by_place}
use Rattle.bank_meaning.proofs.laws.first_by_place.Goals as goal

pub returns : goal.returns
returns c = first_by_place
