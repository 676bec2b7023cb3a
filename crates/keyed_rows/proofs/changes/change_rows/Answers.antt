use Rattle.std.proofs.Common.{◌==◌, sym, subst, ◌∙◌, arith}
use Rattle.std.specs.Prelude.{if◌then◌else◌}
use Rattle.std.specs.List.Sorted.{IsNonDecreasingBy}
use Rattle.keyed_rows.proofs.MadeRows.{IsNonDecreasingBy-made, key-changed, made_more, made_to-all}
use Rattle.keyed_rows.proofs.changes.change_rows.Goals as goal

pub loop-row-preserved : goal.loop-row-preserved
loop-row-preserved g c =
    made_more (λ row. if g.T.Keyed.key row == c.args.key then g.C.Change.made c.args.change.now row else row) c.loop-row.row-index c.args.rows.now
    c.loop-row.rows _ c.change_row.new.row (omega arith) c.loop-row.invariant c.change_row.ensures

pub returns-clause-rows : goal.returns-clause-rows
returns-clause-rows g c =
    c.loop-row.invariant
    ∙ made_to-all (λ row. if g.T.Keyed.key row == c.args.key then g.C.Change.made c.args.change.now row else row) c.loop-row.row-index c.args.rows.now (omega arith)

pub returns-clause-in_order : goal.returns-clause-in_order
returns-clause-in_order g c in_order =
    let key = g.T.Keyed.key in
    let made = g.C.Change.made c.args.change.now in
    subst (IsNonDecreasingBy key) (sym (returns-clause-rows g c))
    (IsNonDecreasingBy-made key _ (key-changed key made c.args.key (g.met.C.Change.keeps_key c.args.change.now)) c.args.rows.now in_order)
