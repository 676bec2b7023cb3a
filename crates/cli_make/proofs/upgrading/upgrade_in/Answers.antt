use Rattle.std.proofs.Common.{refl}
use Rattle.cli_make.proofs.CarriedLemmas.{carried_closed}
use Rattle.cli_make.proofs.upgrading.upgrade_in.Goals as goal

pub returns-in-Ok-close : goal.returns-in-Ok-close
returns-in-Ok-close g c = (
  record {
    store = c.in-Ok.store;
    carried = c.in-Ok.ensures;
    closed = c.in-Ok-close.ensures;
    bank = carried_closed g.D.Disk c.args.conn c.in-Ok.store c.in-Ok-close.files c.in-Ok.ensures c.in-Ok-close.ensures;
  },
  refl,
)
