use Rattle.std.proofs.Common.{◌∙◌}
use Rattle.bank_books.specs.Records.{entry_record_of}
use Rattle.book_sums.proofs.Mapped.{mapped_more}
use Rattle.book_sums.proofs.SumsLemmas.{entry_from_sums}
use Rattle.book_sums.proofs.kept.entry_records.Goals as goal

pub loop-row-preserved : goal.loop-row-preserved
loop-row-preserved c =
    let w = c.args.world.now in
    mapped_more (entry_record_of w) c.entries-rows.result.now w.entries c.loop-row.row-index c.row-item.result _ _ c.entry_record.result
    c.entries-rows.ensures.value c.loop-row-test.true c.row-item.is (c.entry_record.ensures ∙ entry_from_sums w c.args.sums.now c.row-item.result c.requires) c.loop-row.invariant c.in_ok-push.ensures.items
