use Rattle.sqlite.specs.Held.{state}
use Rattle.sql_schema.specs.Held.Sheet.{bank as in_bank}
use Rattle.sql_adopt.proofs.ReadingLemmas.{reads_row, store_refused}
use Rattle.sql_adopt.specs.Refused.{IsOfStore}
use Rattle.sql_adopt.proofs.TakenLemmas.{never_refused, other_reported, store_other}
use Rattle.sql_adopt.proofs.reading.stated_row.Goals as goal

pub returns-in-Ok-clause-whole : goal.returns-in-Ok-clause-whole
returns-in-Ok-clause-whole g c clean has =
    reads_row c.args.edition (state g.S.Store c.args.conn.now) (state g.S.Store c.bank_row.new.conn) c.in-Ok.found c.row_of_edition.result c.row_of_edition.ensures.row (c.in-Ok.ensures.whole c.args.edition clean has)

pub returns-in-Ok-clause-refused : goal.returns-in-Ok-clause-refused
returns-in-Ok-clause-refused g c clean has = c.row_of_edition.ensures.refused (state g.S.Store c.args.conn.now).now.trees (c.in-Ok.ensures.whole c.args.edition clean has).0

pub returns-in-Err-clause-refused : goal.returns-in-Err-clause-refused
returns-in-Err-clause-refused g c clean has =
    store_refused c.args.edition (state g.S.Store c.args.conn.now).now.trees c.table_unread.result (c.table_unread.ensures.store (c.in-Err.ensures.there c.args.edition clean has))

pub returns-in-Ok-clause-takes : goal.returns-in-Ok-clause-takes
returns-in-Ok-clause-takes g c clean has s holds readable =
    never_refused c.row_of_edition.result IsOfStore (c.row_of_edition.ensures.first (state g.S.Store c.args.conn.now).now.trees s.version (c.in-Ok.ensures.whole c.args.edition clean has).0 (holds in_bank))

pub returns-in-Err-clause-takes : goal.returns-in-Err-clause-takes
returns-in-Err-clause-takes g c clean has s holds readable = c.table_unread.ensures.store (c.in-Err.ensures.there c.args.edition clean has)

pub returns-in-Ok-clause-other : goal.returns-in-Ok-clause-other
returns-in-Ok-clause-other g c clean e has version row differs =
    let db = (state g.S.Store c.args.conn.now).now.trees in
    let table = (c.in-Ok.ensures.whole e clean has).0 in
    other_reported e c.args.edition db version c.in-Ok.found c.row_of_edition.result table row differs c.row_of_edition.ensures.row (c.row_of_edition.ensures.refused db table)

pub returns-in-Err-clause-other : goal.returns-in-Err-clause-other
returns-in-Err-clause-other g c clean e has version row differs = store_other c.table_unread.result (c.table_unread.ensures.store (c.in-Err.ensures.there e clean has))
