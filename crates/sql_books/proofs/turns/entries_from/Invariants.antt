use Rattle.std.proofs.Common.{◌≡◌, ◌<◌, ◌-◌, ◌++◌, IsTrue, Ok}
use Rattle.money.specs.declared.fault.Fault.{Fault}
use Rattle.sqlite.specs.Held.{state}
use Rattle.sqlite.specs.State.{HasCleanDisk}
use Rattle.sql_schema.specs.Steps.{FindsHeldInside, Step}
use Rattle.sql_books.specs.Turns.{entries_from}
use Rattle.sql_books.proofs.turns.entries_from.Given as goal

abbrev pub invariant-loop-turn : goal.invariant-loop-turn
invariant-loop-turn g l = record {
  step : Step {E = Fault} g.S.Store l.fn.tx.conn l.tx.conn (λ s. s) (Ok l.rows);
  listed : FindsHeldInside {E = Fault} (state g.S.Store l.fn.tx.conn.now) (state g.S.Store l.tx.conn.now) (Ok l.rows) (λ s rows. rows.items ++ entries_from s.entries l.account l.turn (l.turn-end - l.turn) ≡ entries_from s.entries l.account l.start l.count);
  opened : HasCleanDisk (state g.S.Store l.tx.conn.now) → (l.start < l.turn → IsTrue (state g.S.Store l.fn.tx.conn.now).is_open) × (IsTrue (state g.S.Store l.tx.conn.now).is_open → IsTrue (state g.S.Store l.fn.tx.conn.now).is_open);
}
