use Rattle.std.proofs.Common.{rules, refl}
use Rattle.std.proofs.lemmas.List.Elements.{All-push, All-same}
use Rattle.book_sums.specs.Shares.{IsPart}
use Rattle.book_sums.proofs.Mapped.{mapped_more}
use Rattle.book_sums.proofs.shares.parts_of.Goals as goal

pub loop-row-preserved : goal.loop-row-preserved
loop-row-preserved g c =
    record {
      made = mapped_more (g.Q.Parts.part c.args.query.now) c.args.rows.now c.args.rows.now c.loop-row.row-index c.row-item.result _ _ c.part.result
          refl c.loop-row-test.true c.row-item.is c.part.ensures c.loop-row.invariant.made c.in_ok-push.ensures.items;
      in_range = All-same IsPart _ _ c.in_ok-push.ensures.items (All-push IsPart c.loop-row.parts.items c.part.result c.loop-row.invariant.in_range
          record { group = search rules; number = search rules; low = search rules; high = search rules });
    }
