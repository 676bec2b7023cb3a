use Rattle.std.proofs.Common.{◌≡◌, IsTrue, false}
use Rattle.std.specs.Prelude.{⊤}
use Rattle.sqlite.specs.Held.{state}
use Rattle.sql_whole.proofs.ReadsLemmas.{Done}
use Rattle.sql_schema.specs.Steps.{LeavesNone}
use Rattle.sql_whole.proofs.asking.ask_tables.Given as goal

abbrev pub invariant-loop-table : goal.invariant-loop-table
invariant-loop-table g l = record {
  mode : l.fn.conn.in_transaction ≡ false → l.conn.in_transaction ≡ false;
  done : IsTrue (state g.S.Store l.fn.conn).is_open → Done l.edition (state g.S.Store l.fn.conn) (state g.S.Store l.conn) (λ _. ⊤);
  survives : LeavesNone (state g.S.Store l.fn.conn) (state g.S.Store l.conn);
}
