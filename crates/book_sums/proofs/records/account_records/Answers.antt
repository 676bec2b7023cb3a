use Rattle.std.proofs.Common.{◌∙◌}
use Rattle.bank_books.specs.Records.{account_record_of}
use Rattle.book_sums.proofs.Mapped.{mapped_more}
use Rattle.book_sums.proofs.SumsLemmas.{account_from_sums}
use Rattle.book_sums.proofs.records.account_records.Goals as goal

pub loop-row-preserved : goal.loop-row-preserved
loop-row-preserved c =
    let w = c.args.world.now in
    mapped_more (account_record_of w) c.accounts-rows.result.now w.accounts c.loop-row.row-index c.row-item.result _ _ c.account_record.result
    c.accounts-rows.ensures.value c.loop-row-test.true c.row-item.is (c.account_record.ensures ∙ account_from_sums w c.args.sums.now c.row-item.result c.requires) c.loop-row.invariant c.in_ok-push.ensures.items
