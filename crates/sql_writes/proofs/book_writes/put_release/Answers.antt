use Rattle.sql_schema.proofs.StepChains.{stopped, then_step}
use Rattle.sql_writes.proofs.book_writes.put_release.Goals as goal

pub returns-in_err-add_release : goal.returns-in_err-add_release
returns-in_err-add_release g c = record { step = stopped c.from_residual.ensures.0 c.add_release.ensures.step }

pub returns : goal.returns
returns g c = record { step = then_step c.in_ok-add_release.ensures.step c.set_user.ensures.step }
