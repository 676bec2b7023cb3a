use Rattle.std.proofs.Common.{◌∙◌, ap}
use Rattle.sql_create.specs.Filled.{with_all, with_user}
use Rattle.sql_create.proofs.GoesLemmas.{step_as}
use Rattle.sql_create.proofs.filling.add_users.Goals as goal

pub returns : goal.returns
returns g c = record { step = step_as (ap (with_all with_user) (c.deref.ensures.value ∙ c.in_ok-users.ensures)) c.add_all.ensures.step }
