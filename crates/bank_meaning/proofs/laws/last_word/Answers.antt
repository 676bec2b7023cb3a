use Rattle.bank_meaning.proofs.LastWord.{last_word}
use Rattle.bank_meaning.proofs.laws.last_word.Goals as goal

pub returns : goal.returns
returns c = last_word
