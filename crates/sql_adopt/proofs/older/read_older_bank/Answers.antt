use Rattle.sqlite.specs.Held.{state}
use Rattle.book_kept.specs.Sheets.{sheets_of}
use Rattle.sql_adopt.proofs.NamedLemmas.{handed_named}
use Rattle.sql_adopt.proofs.ReadingLemmas.{handed_refused}
use Rattle.sql_adopt.proofs.TakenLemmas.{handed_fault, handed_other}
use Rattle.sql_adopt.proofs.older.read_older_bank.Goals as goal

pub returns-in-Ok-clause-found : goal.returns-in-Ok-clause-found
returns-in-Ok-clause-found g c clean e older =
    let whole = c.in_ok-file.ensures.whole clean e older in
    (whole.0, c.in-Ok.ensures.found e (state g.S.Store c.args.conn.now).now older.file.schema older.file.kept (c.in_ok-file.ensures.sound clean e older) whole.1)

pub returns-in_err-file-clause-refused : goal.returns-in_err-file-clause-refused
returns-in_err-file-clause-refused g c clean e older =
    handed_refused e (state g.S.Store c.args.conn.now).now.trees c.from_residual.result c.in_err-file.field-0.0 c.from_residual.ensures.1 (c.in_err-file.ensures.refused clean e older)

pub returns-in-Err-clause-refused : goal.returns-in-Err-clause-refused
returns-in-Err-clause-refused g c clean e older = c.in-Err.ensures.refused e (state g.S.Store c.args.conn.now).now.trees (c.in_ok-file.ensures.whole clean e older).1

pub returns-in_err-file-clause-sound : goal.returns-in_err-file-clause-sound
returns-in_err-file-clause-sound g c clean e older bank =
    handed_fault c.from_residual.result c.in_err-file.field-0.0 c.from_residual.ensures.1 (c.in_err-file.ensures.takes clean e older (sheets_of bank.world) bank.held.world.rows bank.readable).1

pub returns-in-Err-clause-sound : goal.returns-in-Err-clause-sound
returns-in-Err-clause-sound g c clean e older bank =
    c.in-Err.ensures.sound e (state g.S.Store c.args.conn.now).now (c.in_ok-file.ensures.whole clean e older).1
    (c.in_ok-file.ensures.takes clean e older (sheets_of bank.world) bank.held.world.rows bank.readable).0 bank

pub returns-in_err-file-clause-named : goal.returns-in_err-file-clause-named
returns-in_err-file-clause-named g c clean e older s holds readable =
    handed_named s c.from_residual.result c.in_err-file.field-0.0 c.from_residual.ensures.1 (c.in_err-file.ensures.takes clean e older s holds readable).1

pub returns-in-Err-clause-named : goal.returns-in-Err-clause-named
returns-in-Err-clause-named g c clean e older s holds readable =
    c.in-Err.ensures.named e (state g.S.Store c.args.conn.now).now.trees (c.in_ok-file.ensures.whole clean e older).1 (c.in_ok-file.ensures.takes clean e older s holds readable).0 s holds

pub returns-in_err-file-clause-other : goal.returns-in_err-file-clause-other
returns-in_err-file-clause-other g c clean other =
    handed_other c.from_residual.result c.in_err-file.field-0.0 c.from_residual.ensures.1 (c.in_err-file.ensures.other clean other)

pub returns-in-Ok-clause-other : goal.returns-in-Ok-clause-other
returns-in-Ok-clause-other g c clean other = absurd (c.in_ok-file.ensures.other clean other)

pub returns-in-Err-clause-other : goal.returns-in-Err-clause-other
returns-in-Err-clause-other g c clean other = absurd (c.in_ok-file.ensures.other clean other)
