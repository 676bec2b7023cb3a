use Rattle.std.proofs.Common.{rules, ◌≡◌, IfOk, subst}
use Rattle.world_reads.specs.BookReads.{next_shown}
use Rattle.store_rows.proofs.Counted.{still_holds}
use Rattle.store_rows.proofs.list_store.ListStoreReportReads.next_shown.Goals as goal

pub returns : goal.returns
returns c = record {
  read = record {
    stated = λ honest w holds. subst (λ v. IfOk c.counted.result (λ row. row ≡ next_shown v c.args.user c.args.after c.args.moment)) holds (still_holds _ _ c.counted.result c.counted.ensures.ok c.next_shown-row.ensures);
    kept = search rules;
    refused = search rules;
    counted = search rules;
  };
  memory = search rules;
}
