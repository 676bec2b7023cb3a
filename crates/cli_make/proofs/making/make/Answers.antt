use Rattle.cli_make.proofs.making.make.Goals as goal

pub returns-in-Ok : goal.returns-in-Ok
returns-in-Ok g c = record {
  bank = c.in-Ok.ensures.bank;
  was_empty = c.in-Ok.ensures.was_empty;
  kept = c.in-Ok.ensures.kept;
  is_open = c.in-Ok.ensures.open;
  crash = c.in-Ok.ensures.crash;
  begins = record { works = c.in-Ok.ensures.works.0; no_fault = c.in-Ok.ensures.works.1; no_failure = c.in-Ok.ensures.works.2; known = c.in-Ok.ensures.known };
}

pub returns-in-Err : goal.returns-in-Err
returns-in-Err g c = record {
  why = c.in-Err.fault;
  is_reported = c.fault_of_making.ensures;
  refused = c.in-Err.ensures.refused;
  untouched = c.in-Err.ensures.untouched;
  unmade = c.in-Err.ensures.unmade;
  idle = c.in-Err.ensures.mode;
  crash = c.in-Err.ensures.crash;
}
