use Rattle.sqlite.specs.Held.{state}
use Rattle.book_kept.specs.Sheets.{sheets_of}
use Rattle.sql_schema.proofs.WorldLemmas.{tables_of}
use Rattle.sql_writes.proofs.KnownLemmas.{account_row_is}
use Rattle.sql_writes.proofs.book_writes.known_account.Goals as goal

pub returns-in-Some-clause-stated : goal.returns-in-Some-clause-stated
returns-in-Some-clause-stated g c clean inside w holds known = account_row_is w c.args.account c.in-Some.row holds.world.keepable (c.in-Some.ensures w known)

pub returns-in-None-clause-stated : goal.returns-in-None-clause-stated
returns-in-None-clause-stated g c clean inside w holds known = c.account_row.ensures.stated clean inside (sheets_of w) (tables_of (state g.S.Store c.args.tx.now.conn.now).now w holds)
