use Rattle.std.proofs.Common.{subst}
use Rattle.std.specs.Prelude.{IfOk}
use Rattle.sqlite.specs.Held.{state}
use Rattle.sql_schema.specs.Cells.{AnyRow, bank_cells}
use Rattle.sql_schema.specs.Held.Sheet.{bank as in_bank}
use Rattle.sql_schema.specs.HeldRows.{all_of_it}
use Rattle.sql_schema.specs.Schema.{newest}
use Rattle.sql_whole.specs.BankRow.{IsBankTable, IsReadFrom}
use Rattle.sql_whole.specs.Faults.{IsOfDatabase}
use Rattle.sql_whole.specs.Texts.{all_bank_text}
use Rattle.sql_schema.specs.ReadBack.{stored_by_rowid}
use Rattle.sql_whole.proofs.BankRowLemmas.{tells_table}
use Rattle.sql_whole.proofs.BankWhole.{bank_no, tells_bank}
use Rattle.sql_schema.proofs.StepLemmas.{handed_on}
use Rattle.sql_whole.proofs.ReadsLemmas.{gave_whole}
use Rattle.sql_whole.proofs.WholeLemmas.{all_answered, plain_there}
use Rattle.sql_whole.proofs.bank.bank_row.Goals as goal

pub shown_rows-requires : goal.shown_rows-requires
shown_rows-requires g c = (newest, (tells_bank newest).asks)

pub returns-in_err-rows-clause-whole : goal.returns-in_err-rows-clause-whole
returns-in_err-rows-clause-whole g c e =
    let old = state g.S.Store c.args.conn.now in
    let new = state g.S.Store c.shown_rows.new.conn in
    gave_whole e old new IsBankTable c.from_residual.result c.from_residual.ensures.0
    (λ clean has. (c.in_err-rows.ensures.still clean (plain_there e all_bank_text old (tells_bank e).asks.plain has)).1)

pub returns-clause-whole : goal.returns-clause-whole
returns-clause-whole g c e clean has =
    let old = state g.S.Store c.args.conn.now in
    let new = state g.S.Store c.shown_rows.new.conn in
    tells_table old new c.in_ok-rows.rows.items c.only_row.result
    (subst (λ rows. IfOk c.only_row.result (IsReadFrom rows)) c.deref.ensures.value c.only_row.ensures.stated)
    (all_answered e all_of_it (stored_by_rowid 2) bank_cells bank_no AnyRow in_bank all_bank_text (tells_bank e) old new c.in_ok-rows.rows.items has (c.in_ok-rows.ensures.shown clean))
    (c.in_ok-rows.ensures.still clean (plain_there e all_bank_text old (tells_bank e).asks.plain has))

pub returns-in_err-rows-clause-there : goal.returns-in_err-rows-clause-there
returns-in_err-rows-clause-there g c e clean has =
    handed_on c.from_residual.result c.in_err-rows.field-0.0 IsOfDatabase c.from_residual.ensures.1 (c.in_err-rows.ensures.there clean e has.schema (tells_bank e).asks)
