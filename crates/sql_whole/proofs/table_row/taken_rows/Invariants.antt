use Rattle.std.proofs.Common.{◌≡◌, IsTrue, false}
use Rattle.sqlite.specs.State.{HasCleanDisk, IsUnchanged}
use Rattle.sqlite.specs.Held.{state}
use Rattle.sql_schema.specs.Steps.{LeavesNone}
use Rattle.sql_whole.specs.Typed.{Each}
use Rattle.sql_whole.specs.Whole.{HasBankTables}
use Rattle.sql_whole.proofs.StreamLemmas.{Taken}
use Rattle.sql_whole.proofs.table_row.taken_rows.Given as goal

abbrev pub invariant-rows : goal.invariant-rows
invariant-rows g l =
    let old = state g.S.Store l.fn.conn in
    let now = state g.S.Store l.rows.conn.now in
    record {
      same : l.rows.conn.ghost_name ≡ l.initial.rows.conn.ghost_name;
      survives : LeavesNone old now;
      mode : l.fn.conn.in_transaction ≡ false → l.rows.conn.now.in_transaction ≡ false;
      typed : Each g.T.TableRow.readable l.list.items;
      was_open : HasCleanDisk now → IsTrue old.is_open;
      taken : HasCleanDisk now → HasBankTables l.fn.edition old → Taken g.S.Store l.sql l.rows.conn.now g.T.TableRow.stated g.T.TableRow.cells g.T.TableRow.fits l.list.items;
      still : HasCleanDisk now → HasBankTables l.fn.edition old → IsUnchanged old now;
    }
