use Rattle.cli_file.proofs.OpenedLemmas.{found_bank, found_older, refused_bank, refused_older}
use Rattle.cli_file.proofs.file.find.Goals as goal

pub returns-in-Ok : goal.returns-in-Ok
returns-in-Ok g c = record {
  adopts = c.in-Ok.ensures.adopts;
  unchanged = c.in-Ok.ensures.left;
  other = c.in-Ok.ensures.other;
  survives = c.in-Ok.ensures.survives;
  begins = record { works = c.in-Ok.ensures.works.0; no_fault = c.in-Ok.ensures.works.1; no_failure = c.in-Ok.ensures.works.2; known = c.in-Ok.ensures.known };
  bank = found_bank c.args.conn c.in-Ok.store.conn c.in-Ok.ensures.adopts c.in-Ok.ensures.survives;
  older = found_older c.args.conn c.in-Ok.store.conn c.in-Ok.ensures.other c.in-Ok.ensures.survives;
}

pub returns-in-Err : goal.returns-in-Err
returns-in-Err g c = record {
  why = c.in-Err.fault;
  is_reported = c.of_adopting.ensures;
  refused = c.in-Err.ensures.refused;
  sound = c.in-Err.ensures.sound;
  named = c.in-Err.ensures.named;
  other = c.in-Err.ensures.other;
  unchanged = c.in-Err.ensures.unchanged;
  idle = c.in-Err.ensures.mode;
  survives = c.in-Err.ensures.survives;
  bank = refused_bank c.args.conn c.in-Err.conn c.in-Err.fault c.in-Err.ensures.sound c.in-Err.ensures.named c.in-Err.ensures.unchanged c.in-Err.ensures.survives;
  older = refused_older c.args.conn c.in-Err.conn c.in-Err.fault c.in-Err.ensures.other c.in-Err.ensures.unchanged c.in-Err.ensures.survives;
}
