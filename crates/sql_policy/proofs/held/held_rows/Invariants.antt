use Rattle.std.proofs.Common.{map, take}
use Rattle.sqlite.specs.Held.{state}
use Rattle.sql_policy.specs.HeldRows.{held_in}
use Rattle.sql_policy.proofs.SoFarLemmas.{ReadSoFar}
use Rattle.sql_schema.specs.Steps.{Frame}
use Rattle.sql_policy.proofs.held.held_rows.Given as goal

abbrev pub invariant-loop-triple : goal.invariant-loop-triple
invariant-loop-triple g l = record {
  frame : Frame g.S.Store l.fn.tx.conn l.tx.conn;
  read : ReadSoFar (state g.S.Store l.fn.tx.conn.now) (state g.S.Store l.tx.conn.now) (λ s. map (held_in s) (take l.triple-index l.triples)) l.rows.items;
}
