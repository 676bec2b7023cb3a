-- The rows so far are made anew.
use Rattle.std.proofs.Common.{◌≡◌, ◌==◌}
use Rattle.std.specs.Prelude.{if◌then◌else◌}
use Rattle.keyed_rows.proofs.MadeRows.{made_to}
use Rattle.keyed_rows.proofs.changes.change_rows.Given as goal

abbrev pub invariant-loop-row : goal.invariant-loop-row
invariant-loop-row g l =
    l.rows ≡ made_to (λ row. if g.T.Keyed.key row == l.key then g.C.Change.made l.change row else row) l.row-index l.initial.rows
