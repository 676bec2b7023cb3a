use Rattle.std.proofs.Common.{◌∙◌, None, ap, map, negsuc}
use Rattle.sql_schema.proofs.StepChains.{read_answered, read_stopped}
use Rattle.sql_schema.proofs.StepLemmas.{ok_weaker}
use Rattle.sql_listing.specs.Lines.{cells_of, rows_of}
use Rattle.sql_listing.proofs.LineLemmas.{each_fits, every_row}
use Rattle.sql_listing.proofs.lists.add_lines.Goals as goal

pub returns-clause-found : goal.returns-clause-found
returns-clause-found g c clean s holds =
    let kind = c.args.kind in
    ok_weaker c.read_lines.result _ _
    (λ read. read (rows_of s kind) (each_fits _ s holds kind) (c.deref.ensures.value ∙ c.in_ok-rows.ensures.rows clean s holds None (negsuc 0) c.whole-part.ensures ∙ ap (map (cells_of kind)) (every_row (rows_of s kind))))
    c.read_lines.ensures

pub returns-in_err-rows-clause-reads : goal.returns-in_err-rows-clause-reads
returns-in_err-rows-clause-reads g c = read_stopped c.from_residual.ensures.0 c.select_lines.ensures.reads

pub returns-clause-reads : goal.returns-clause-reads
returns-clause-reads g c = read_answered c.in_ok-rows.ensures.reads c.read_lines.result
