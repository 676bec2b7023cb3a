use Rattle.cli_file.proofs.OpenedLemmas.{passes, refused_bank, refused_older}
use Rattle.cli_make.proofs.CheckedLemmas.{checked, world_is}
use Rattle.cli_make.proofs.reading.read_year.Goals as goal

pub returns-in-Ok : goal.returns-in-Ok
returns-in-Ok g c =
    let opened = c.args.conn.now in
    let left = c.adopt_rows.new.conn in
    let bank = c.in-Ok.bank in
    let of = c.in-Ok.ensures in (
      record {
        checked = checked opened left of.survives of.mode of.adopts of.left of.other;
        passes = passes bank.world of.kept.1 of.checked.0 of.checked.1;
        held = of.found;
        bank = world_is opened left of.survives bank.world of.found;
      },
      of.kept.0,
    )

pub returns-in-Err : goal.returns-in-Err
returns-in-Err g c =
    let opened = c.args.conn.now in
    let left = c.adopt_rows.new.conn in
    let why = c.in-Err.fault in
    let of = c.in-Err.ensures in
    record {
      why = why;
      is_reported = c.of_adopting.ensures;
      refused = of.refused;
      sound = of.sound;
      named = of.named;
      other = of.other;
      unchanged = of.left;
      idle = of.mode;
      survives = of.survives;
      bank = refused_bank opened left why of.sound of.named of.left of.survives;
      older = refused_older opened left why of.other of.left of.survives;
    }
