use Rattle.std.proofs.Common.{refl}
use Rattle.cli_make.proofs.MadeLemmas.{made_bank}
use Rattle.cli_make.proofs.making.make_in.Goals as goal

pub returns-in-Ok-close : goal.returns-in-Ok-close
returns-in-Ok-close g c = (
  record {
    store = c.in-Ok.store;
    made = c.in-Ok.ensures;
    closed = c.in-Ok-close.ensures;
    bank = made_bank g.D.Disk c.args.conn c.args.world.now c.in-Ok.store c.in-Ok-close.files c.in-Ok.ensures c.in-Ok-close.ensures;
  },
  refl,
)
