use Rattle.std.proofs.Common.{◌∙◌, [], Ok, Err, ap, sym, inr}
use Rattle.std.proofs.lemmas.Result.{IfOk-weaker}
use Rattle.list_records.specs.Records.{begun_after}
use Rattle.list_order.specs.Sorted.{in_order}
use Rattle.list_opening.specs.Rows.{with_row}
use Rattle.list_opening.proofs.ReadLemmas.{bad_said, rows_said}
use Rattle.list_opening.proofs.reading.read_list.Goals as goal

pub returns-in-Ok-clause-stated : goal.returns-in-Ok-clause-stated
returns-in-Ok-clause-stated g c =
    let said = rows_said c.args.file g.T.Keyed.key (begun_after g.T.ListRow.heading) (with_row g.T.ListRow.row_of) (λ rows. rows) [] c.args.text.now c.new.result c.in-Ok.gathered c.new.ensures c.in-Ok.ensures in
    IfOk-weaker c.sorted.result _ _ (λ rows is. said ∙ ap (λ l. Ok (in_order g.T.Keyed.key l)) (sym c.into_rows.ensures) ∙ ap Ok (sym is)) c.sorted.ensures.rows

pub returns-in-Err-Bad-clause-bad : goal.returns-in-Err-Bad-clause-bad
returns-in-Err-Bad-clause-bad g c =
    inr (bad_said c.args.file g.T.Keyed.key (begun_after g.T.ListRow.heading) (with_row g.T.ListRow.row_of) (λ rows. rows) [] c.args.text.now c.new.result c.gather.result c.in-Err-Bad.row c.new.ensures c.gather.ensures
    (c.in-Err-Bad.is ∙ ap Err c.in-Err-Bad.field-0-is))
