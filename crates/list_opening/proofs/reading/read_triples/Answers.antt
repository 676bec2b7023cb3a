use Rattle.std.proofs.Common.{◌∙◌, Ok, Err, ap, sym, inr}
use Rattle.std.proofs.lemmas.Result.{IfOk-weaker}
use Rattle.bank_policy.specs.PolicyKeys.{triple_key}
use Rattle.list_order.specs.Sorted.{in_order}
use Rattle.list_opening.specs.Triples.{begun_triples, none_read, with_triple}
use Rattle.list_opening.specs.declared.list_fault.ListName.TheVariants.{Triples}
use Rattle.list_opening.proofs.ReadLemmas.{bad_said, rows_said}
use Rattle.list_opening.proofs.reading.read_triples.Goals as goal

pub returns-in-Ok-clause-stated : goal.returns-in-Ok-clause-stated
returns-in-Ok-clause-stated c =
    let said = rows_said Triples triple_key begun_triples with_triple (λ read. read.1) none_read c.args.text.now c.new.result c.in-Ok.gathered c.new.ensures c.in-Ok.ensures in
    IfOk-weaker c.sorted.result _ _ (λ rows is. said ∙ ap (λ l. Ok (in_order triple_key l)) (sym c.into_rows.ensures) ∙ ap Ok (sym is)) c.sorted.ensures.rows

pub returns-in-Err-Bad-clause-bad : goal.returns-in-Err-Bad-clause-bad
returns-in-Err-Bad-clause-bad c =
    inr (bad_said Triples triple_key begun_triples with_triple (λ read. read.1) none_read c.args.text.now c.new.result c.gather.result c.in-Err-Bad.row c.new.ensures c.gather.ensures
    (c.in-Err-Bad.is ∙ ap Err c.in-Err-Bad.field-0-is))
