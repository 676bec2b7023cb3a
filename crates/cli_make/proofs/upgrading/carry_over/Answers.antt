use Rattle.cli_make.proofs.CarriedLemmas.{carried_bank, not_carried, not_carried_newest}
use Rattle.cli_make.proofs.upgrading.carry_over.Goals as goal

pub returns-in-Ok : goal.returns-in-Ok
returns-in-Ok g c = record {
  carries = c.in-Ok.ensures.carries;
  other = c.in-Ok.ensures.other;
  crash = c.in-Ok.ensures.crash;
  is_open = c.in-Ok.ensures.open;
  bank = carried_bank c.args.conn c.in-Ok.store.conn _ c.in-Ok.ensures.carries c.in-Ok.ensures.crash;
  begins = record { works = c.in-Ok.ensures.works.0; no_fault = c.in-Ok.ensures.works.1; no_failure = c.in-Ok.ensures.works.2; known = c.in-Ok.ensures.known };
}

pub returns-in-Err : goal.returns-in-Err
returns-in-Err g c = record {
  why = c.in-Err.fault;
  is_reported = c.of_adopting.ensures;
  refused = c.in-Err.ensures.refused;
  sound = c.in-Err.ensures.sound;
  named = c.in-Err.ensures.named;
  other = c.in-Err.ensures.other;
  unchanged = c.in-Err.ensures.unchanged;
  untouched = c.in-Err.ensures.untouched;
  idle = c.in-Err.ensures.mode;
  crash = c.in-Err.ensures.crash;
  bank = not_carried c.args.conn c.in-Err.conn c.in-Err.fault _ c.in-Err.ensures.sound c.in-Err.ensures.named c.in-Err.ensures.unchanged c.in-Err.ensures.crash;
  present = not_carried_newest c.args.conn c.in-Err.conn c.in-Err.fault _ c.in-Err.ensures.other c.in-Err.ensures.unchanged c.in-Err.ensures.crash;
}
