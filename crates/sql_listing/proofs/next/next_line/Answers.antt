use Rattle.std.proofs.Common.{◌∙◌, ap, pos, slice_get}
use Rattle.sql_schema.proofs.StepChains.{read_stopped}
use Rattle.sql_listing.specs.Columns.{is_past}
use Rattle.sql_listing.specs.Lines.{rows_of}
use Rattle.sql_listing.proofs.LineLemmas.{each_fits, line_found, line_missing}
use Rattle.sql_listing.proofs.next.next_line.Goals as goal

pub returns-in-Some-clause-found : goal.returns-in-Some-clause-found
returns-in-Some-clause-found g c clean s holds =
    line_found c.args.kind (is_past c.args.after) (rows_of s c.args.kind) (each_fits _ s holds c.args.kind) _ _ _ (c.in-Some.ensures.value ∙ ap (λ rows. slice_get rows 0) c.deref.ensures.value)
    (c.in_ok-rows.ensures.rows clean s holds c.args.after (pos 1) c.next_after-part.ensures) c.in_ok-read_line-in-Some.ensures

pub returns-clause-found : goal.returns-clause-found
returns-clause-found g c clean s holds =
    line_missing c.args.kind (is_past c.args.after) (rows_of s c.args.kind) (each_fits _ s holds c.args.kind) _ (c.in-None.ensures.value ∙ ap (λ rows. slice_get rows 0) c.deref.ensures.value)
    (c.in_ok-rows.ensures.rows clean s holds c.args.after (pos 1) c.next_after-part.ensures)

pub returns-in_err-rows-clause-reads : goal.returns-in_err-rows-clause-reads
returns-in_err-rows-clause-reads g c = read_stopped c.from_residual.ensures.0 c.select_lines.ensures.reads

pub returns-in_err-read_line-in-Some-clause-reads : goal.returns-in_err-read_line-in-Some-clause-reads
returns-in_err-read_line-in-Some-clause-reads g c = read_stopped c.from_residual-in_err-read_line-in-Some.ensures.0 c.select_lines.ensures.reads
