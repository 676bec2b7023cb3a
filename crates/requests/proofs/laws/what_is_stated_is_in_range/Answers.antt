use Rattle.requests.proofs.InRange.{what_is_stated_is_in_range}
use Rattle.requests.proofs.laws.what_is_stated_is_in_range.Goals as goal

pub returns : goal.returns
returns c = what_is_stated_is_in_range
