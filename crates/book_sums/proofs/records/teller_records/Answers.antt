-- One teller more, with the holder of its drawer.
use Rattle.std.proofs.Common.{◌≡◌, ℕ, Option, get_or, refl, ap, sym, ◌∙◌}
use Rattle.std.proofs.lemmas.List.{get_or-map}
use Rattle.bank_books.specs.Cash.{holder_of}
use Rattle.bank_books.specs.Records.{teller_record_of}
use Rattle.bank_books.specs.declared.rows.Teller.{Teller}
use Rattle.book_sums.proofs.Mapped.{mapped_more}
use Rattle.book_sums.proofs.SumsLemmas.{teller_from_sums}
use Rattle.book_sums.proofs.records.teller_records.Goals as goal

pub loop-index-preserved : goal.loop-index-preserved
loop-index-preserved c =
    let w = c.args.world.now in
    let tellers = c.tellers-tellers.result.now in
    let row = c.index-tellers-index.result in
    let held_at : Teller → Option ℕ = λ t. holder_of c.lines.result.now t.teller in
    let held : c.index.result.now ≡ holder_of w.lines row.teller =
    c.index.ensures
    ∙ ap (λ xs. get_or xs c.loop-index.index c.index.result.now) c.in_ok-holders.ensures
    ∙ get_or-map held_at tellers c.loop-index.index row c.index.result.now c.loop-index-test.true
    ∙ ap held_at (sym c.index-tellers-index.is)
    ∙ ap (λ ls. holder_of ls row.teller) c.lines.ensures.value in
    mapped_more (teller_record_of w) tellers tellers c.loop-index.index row _ _ c.teller_record.result refl c.loop-index-test.true c.index-tellers-index.is
    (c.teller_record.ensures ∙ teller_from_sums w c.args.sums.now row c.index.result.now held c.requires) c.loop-index.invariant c.in_ok-push.ensures.items
