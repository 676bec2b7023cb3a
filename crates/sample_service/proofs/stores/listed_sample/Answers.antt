use Rattle.sample_service.proofs.Opening.{opens_with}
use Rattle.sample_service.proofs.stores.listed_sample.Goals as goal

pub returns : goal.returns
returns c = opens_with _ _ c.in_ok-world.ensures c.in_ok-require_checks.ensures c.new.ensures.holds c.new.ensures.only
