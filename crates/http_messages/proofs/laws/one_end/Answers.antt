use Rattle.http_messages.proofs.EndLemmas.{one_end, one_whole_reading, one_refusal, partial_not_refused}
use Rattle.http_messages.proofs.laws.one_end.Goals as goal

pub returns-clause-most : goal.returns-clause-most
returns-clause-most c = one_end

pub returns-clause-same : goal.returns-clause-same
returns-clause-same c = one_whole_reading

pub returns-clause-one_reply : goal.returns-clause-one_reply
returns-clause-one_reply c = one_refusal

pub returns-clause-apart : goal.returns-clause-apart
returns-clause-apart c = partial_not_refused
