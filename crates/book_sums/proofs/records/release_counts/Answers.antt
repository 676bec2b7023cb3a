use Rattle.std.proofs.Common.{ap, ◌∙◌}
use Rattle.bank_books.specs.Records.{release_count_of}
use Rattle.book_sums.proofs.Mapped.{mapped_more}
use Rattle.book_sums.proofs.SumsLemmas.{releases_from_sums}
use Rattle.book_sums.proofs.records.release_counts.Goals as goal

pub loop-row-preserved : goal.loop-row-preserved
loop-row-preserved c =
    let w = c.args.world.now in
    mapped_more (release_count_of w) c.users-rows.result.now w.policy.users c.loop-row.row-index c.row-item.result _ _ c.release_count.result
    (c.users-rows.ensures.value ∙ ap (λ p. p.users) c.policy.ensures) c.loop-row-test.true c.row-item.is
    (c.release_count.ensures ∙ releases_from_sums w c.args.sums.now c.row-item.result c.requires) c.loop-row.invariant c.in_ok-push.ensures.items
