use Rattle.keyed_rows.proofs.AddRow.{placed, placed_in_order}
use Rattle.keyed_rows.proofs.ordered.insert_row.Goals as goal

pub returns-clause-ok : goal.returns-clause-ok
returns-clause-ok g c =
    placed g.T.Keyed.key c.args.row c.key.result c.args.rows.now.items _ _ _ c.in_ok-insert.ensures.items c.place_of-place.ensures.place c.key.ensures c.deref.ensures.value

pub returns-clause-in_order : goal.returns-clause-in_order
returns-clause-in_order g c = placed_in_order g.T.Keyed.key c.args.row c.args.rows.now.items c.insert.new.self.items (returns-clause-ok g c)
