use Rattle.bank_meaning.proofs.Headline as proven
use Rattle.bank_meaning.proofs.laws.headline.Goals as goal

pub returns : goal.returns
returns c = proven.headline
