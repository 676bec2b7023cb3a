use Rattle.sqlite.specs.Held.{state}
use Rattle.sql_schema.specs.Held.Sheet.{bank as in_bank}
use Rattle.sql_adopt.proofs.OlderLemmas.{is_older, reads_older}
use Rattle.sql_adopt.proofs.ReadingLemmas.{store_refused}
use Rattle.sql_adopt.specs.Refused.{IsOfStore}
use Rattle.sql_adopt.proofs.TakenLemmas.{never_refused, store_other}
use Rattle.sql_adopt.proofs.older.edition_read.Goals as goal

pub returns-in-Ok-clause-whole : goal.returns-in-Ok-clause-whole
returns-in-Ok-clause-whole g c e clean has =
    reads_older (state g.S.Store c.args.conn.now) (state g.S.Store c.bank_row.new.conn) c.in-Ok.found c.older_in.result c.older_in.ensures.row (c.in-Ok.ensures.whole e clean has)

pub returns-in-Ok-clause-older : goal.returns-in-Ok-clause-older
returns-in-Ok-clause-older g c = is_older c.in-Ok.found c.older_in.result c.older_in.ensures.row

pub returns-in-Ok-clause-refused : goal.returns-in-Ok-clause-refused
returns-in-Ok-clause-refused g c e older clean has = c.older_in.ensures.refused e older (state g.S.Store c.args.conn.now).now.trees (c.in-Ok.ensures.whole e clean has).0

pub returns-in-Err-clause-refused : goal.returns-in-Err-clause-refused
returns-in-Err-clause-refused g c e older clean has =
    store_refused e (state g.S.Store c.args.conn.now).now.trees c.table_unread.result (c.table_unread.ensures.store (c.in-Err.ensures.there e clean has))

pub returns-in-Ok-clause-other : goal.returns-in-Ok-clause-other
returns-in-Ok-clause-other g c clean e has version row = c.older_in.ensures.other (state g.S.Store c.args.conn.now).now.trees version (c.in-Ok.ensures.whole e clean has).0 row

pub returns-in-Err-clause-other : goal.returns-in-Err-clause-other
returns-in-Err-clause-other g c clean e has version row = store_other c.table_unread.result (c.table_unread.ensures.store (c.in-Err.ensures.there e clean has))

pub returns-in-Ok-clause-takes : goal.returns-in-Ok-clause-takes
returns-in-Ok-clause-takes g c e older clean has s holds readable =
    never_refused c.older_in.result IsOfStore (c.older_in.ensures.first e older (state g.S.Store c.args.conn.now).now.trees s.version (c.in-Ok.ensures.whole e clean has).0 (holds in_bank))

pub returns-in-Err-clause-takes : goal.returns-in-Err-clause-takes
returns-in-Err-clause-takes g c e older clean has s holds readable = c.table_unread.ensures.store (c.in-Err.ensures.there e clean has)
