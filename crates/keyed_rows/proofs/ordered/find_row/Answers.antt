use Rattle.std.proofs.Common.{sym, ◌∙◌, ap}
use Rattle.std.specs.Option.{option_copied}
use Rattle.keyed_rows.proofs.FirstRow.{found_above, found_here, found_past_end}
use Rattle.keyed_rows.proofs.ordered.find_row.Goals as goal

pub returns-in_err-row : goal.returns-in_err-row
returns-in_err-row g c order =
    ap option_copied c.from_residual.ensures
    ∙ sym (found_past_end g.T.Keyed.key c.args.rows.now c.args.key c.end_below.result (c.end_below.ensures.place order) c.in_err-row.ensures.lookup.0)

pub returns-then-key : goal.returns-then-key
returns-then-key g c order =
    sym (found_here g.T.Keyed.key c.args.rows.now c.args.key c.end_below.result c.in_ok-row.row.now (c.end_below.ensures.place order)
    c.in_ok-row.ensures.lookup.0 c.in_ok-row.ensures.lookup.1 (sym c.key.ensures ∙ c.if-key.true))

pub returns-else-key : goal.returns-else-key
returns-else-key g c order =
    sym (found_above g.T.Keyed.key c.args.rows.now c.args.key c.end_below.result c.in_ok-row.row.now (c.end_below.ensures.place order)
    c.in_ok-row.ensures.lookup.0 c.in_ok-row.ensures.lookup.1 (λ same. c.if-key.false (c.key.ensures ∙ same)) order)
