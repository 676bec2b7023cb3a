use Rattle.keyed_rows.proofs.AddRow.{ok_items, placed, placed_in_order}
use Rattle.keyed_rows.proofs.ordered.insert_row_reserved.Goals as goal

pub returns-clause-items : goal.returns-clause-items
returns-clause-items g c =
    placed g.T.Keyed.key c.args.row c.key.result c.args.rows.now.items _ _ _
    (ok_items c.insert.result _ _ _ (c.insert.ensures.succeeds c.requires) c.insert.ensures.items)
    c.place_of-place.ensures.place c.key.ensures c.deref.ensures.value

pub returns-clause-in_order : goal.returns-clause-in_order
returns-clause-in_order g c = placed_in_order g.T.Keyed.key c.args.row c.args.rows.now.items c.insert.new.self.items (returns-clause-items g c)
