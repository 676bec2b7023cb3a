use Rattle.std.proofs.Common.{◌≡◌, take}
use Rattle.sqlite.specs.Held.{state}
use Rattle.book_kept.specs.Changes.{add_rows}
use Rattle.book_kept.specs.Sheets.{member_no}
use Rattle.sql_writes.proofs.PlaceLemmas.{places_of}
use Rattle.sql_writes.proofs.ThenLemmas.{SteppedBy}
use Rattle.sql_schema.specs.Steps.{LeavesNone}
use Rattle.sql_writes.proofs.policy_writes.write_members.Given as goal

abbrev pub invariant-loop-member : goal.invariant-loop-member
invariant-loop-member g l = record {
  same : l.tx.conn.ghost_name ≡ l.fn.tx.conn.ghost_name;
  place : l.place ≡ l.member-index;
  done : SteppedBy (state g.S.Store l.fn.tx.conn.now) (state g.S.Store l.tx.conn.now) (λ s. record s { members = add_rows member_no (places_of l.row.set (take l.member-index l.row.members)) s.members });
  survives : LeavesNone (state g.S.Store l.fn.tx.conn.now) (state g.S.Store l.tx.conn.now);
}
