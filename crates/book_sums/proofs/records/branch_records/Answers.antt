use Rattle.bank_books.specs.Records.{branch_record_of}
use Rattle.book_sums.proofs.Mapped.{mapped_more}
use Rattle.book_sums.proofs.records.branch_records.Goals as goal

pub loop-row-preserved : goal.loop-row-preserved
loop-row-preserved c =
    let w = c.args.world.now in
    mapped_more (branch_record_of w) c.branches-rows.result.now w.branches c.loop-row.row-index c.row-item.result _ _ c.branch_record.result
    c.branches-rows.ensures.value c.loop-row-test.true c.row-item.is c.branch_record.ensures c.loop-row.invariant c.in_ok-push.ensures.items
