use Rattle.sqlite.specs.Held.{state}
use Rattle.book_kept.specs.Sheets.{sheets_of}
use Rattle.sql_schema.proofs.WorldLemmas.{tables_of}
use Rattle.sql_writes.proofs.book_writes.known_slip_count.Goals as goal

pub returns-in-None-clause-stated : goal.returns-in-None-clause-stated
returns-in-None-clause-stated g c clean inside w holds known = c.slip_count_row.ensures.stated clean inside (sheets_of w) (tables_of (state g.S.Store c.args.tx.now.conn.now).now w holds)
