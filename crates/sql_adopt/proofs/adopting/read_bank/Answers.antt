use Rattle.sqlite.specs.Held.{state}
use Rattle.book_kept.specs.Sheets.{sheets_of}
use Rattle.sql_adopt.proofs.NamedLemmas.{handed_named}
use Rattle.sql_adopt.proofs.TakenLemmas.{handed_fault, handed_other}
use Rattle.sql_adopt.proofs.adopting.read_bank.Goals as goal

pub returns-clause-found : goal.returns-clause-found
returns-clause-found g c clean file =
    c.judge_file.ensures.found c.args.edition (state g.S.Store c.args.conn.now).now file.schema file.kept (c.in_ok-rows.ensures.sound clean) (c.in_ok-rows.ensures.whole clean file)

pub returns-clause-refused : goal.returns-clause-refused
returns-clause-refused g c clean file = c.judge_file.ensures.refused c.args.edition (state g.S.Store c.args.conn.now).now.trees (c.in_ok-rows.ensures.whole clean file)

pub returns-in_err-rows-clause-sound : goal.returns-in_err-rows-clause-sound
returns-in_err-rows-clause-sound g c clean file bank =
    handed_fault c.from_residual.result c.in_err-rows.field-0.0 c.from_residual.ensures.1 (c.in_err-rows.ensures.takes clean file (sheets_of bank.world) bank.held.world.rows bank.readable).1

pub returns-clause-sound : goal.returns-clause-sound
returns-clause-sound g c clean file bank =
    c.judge_file.ensures.sound c.args.edition (state g.S.Store c.args.conn.now).now (c.in_ok-rows.ensures.whole clean file)
    (c.in_ok-rows.ensures.takes clean file (sheets_of bank.world) bank.held.world.rows bank.readable).0 bank

pub returns-in_err-rows-clause-named : goal.returns-in_err-rows-clause-named
returns-in_err-rows-clause-named g c clean file s holds readable =
    handed_named s c.from_residual.result c.in_err-rows.field-0.0 c.from_residual.ensures.1 (c.in_err-rows.ensures.takes clean file s holds readable).1

pub returns-clause-named : goal.returns-clause-named
returns-clause-named g c clean file s holds readable =
    c.judge_file.ensures.named c.args.edition (state g.S.Store c.args.conn.now).now.trees (c.in_ok-rows.ensures.whole clean file) (c.in_ok-rows.ensures.takes clean file s holds readable).0 s holds

pub returns-in_err-rows-clause-other : goal.returns-in_err-rows-clause-other
returns-in_err-rows-clause-other g c clean other =
    handed_other c.from_residual.result c.in_err-rows.field-0.0 c.from_residual.ensures.1 (c.in_err-rows.ensures.other clean other)

pub returns-clause-other : goal.returns-clause-other
returns-clause-other g c clean other = absurd (c.in_ok-rows.ensures.other clean other)
