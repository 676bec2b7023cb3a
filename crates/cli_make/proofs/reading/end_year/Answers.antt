use Rattle.cli_make.proofs.YearLemmas.{ended}
use Rattle.cli_make.proofs.reading.end_year.Goals as goal

pub returns-in-Ok : goal.returns-in-Ok
returns-in-Ok g c = ended c.args.conn c.read_year.new.conn c.in-Ok.bank.world c.in-Ok.ensures.0 c.next_year.result c.next_year.ensures
