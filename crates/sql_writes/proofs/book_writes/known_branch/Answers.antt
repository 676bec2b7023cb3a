use Rattle.sqlite.specs.Held.{state}
use Rattle.book_kept.specs.Sheets.{sheets_of}
use Rattle.sql_schema.proofs.WorldLemmas.{tables_of}
use Rattle.sql_writes.proofs.KnownLemmas.{branch_row_is}
use Rattle.sql_writes.proofs.book_writes.known_branch.Goals as goal

pub returns-in_Some-row-clause-stated : goal.returns-in_Some-row-clause-stated
returns-in_Some-row-clause-stated g c clean inside w holds known = branch_row_is w c.args.branch c.in_Some-row.row holds.world.keepable (c.in_Some-row.ensures w known)

pub returns-in_None-row-clause-stated : goal.returns-in_None-row-clause-stated
returns-in_None-row-clause-stated g c clean inside w holds known = c.branch_row.ensures.stated clean inside (sheets_of w) (tables_of (state g.S.Store c.args.tx.now.conn.now).now w holds)
