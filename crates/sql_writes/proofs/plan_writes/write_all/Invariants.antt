use Rattle.std.proofs.Common.{◌≡◌, take}
use Rattle.sqlite.specs.Held.{state}
use Rattle.bank_books.specs.Effects.{all_written}
use Rattle.sql_schema.specs.Steps.{LeavesNone, MovedBy}
use Rattle.sql_writes.proofs.plan_writes.write_all.Given as goal

abbrev pub invariant-loop-row : goal.invariant-loop-row
invariant-loop-row g l = record {
  same : l.tx.conn.ghost_name ≡ l.fn.tx.conn.ghost_name;
  moved : MovedBy (state g.S.Store l.fn.tx.conn.now) (state g.S.Store l.tx.conn.now) (all_written (take l.row-index l.plan));
  survives : LeavesNone (state g.S.Store l.fn.tx.conn.now) (state g.S.Store l.tx.conn.now);
}
