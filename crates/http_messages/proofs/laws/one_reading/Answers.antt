use Rattle.http_messages.proofs.ReadingLemmas.{one_reading}
use Rattle.http_messages.proofs.laws.one_reading.Goals as goal

pub returns : goal.returns
returns c = one_reading
