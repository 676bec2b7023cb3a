use Rattle.bank_meaning.proofs.Recorded.{rows_say_what_was_asked}
use Rattle.bank_meaning.proofs.laws.rows_say_what_was_asked.Goals as goal

pub returns : goal.returns
returns c = rows_say_what_was_asked
