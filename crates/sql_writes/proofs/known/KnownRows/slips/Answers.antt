use Rattle.sql_writes.proofs.KnownLemmas.{slips_of_row}
use Rattle.sql_writes.proofs.known.KnownRows.slips.Goals as goal

pub returns-in-Some : goal.returns-in-Some
returns-in-Some c w known = slips_of_row w c.args.user c.in-Some.count (c.in-Some.ensures w known)
