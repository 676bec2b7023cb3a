use Rattle.std.proofs.Common.{Some, option_map, ap, ◌∙◌}
use Rattle.std.specs.List.{find}
use Rattle.bank_books.specs.Records.{account_record_of}
use Rattle.world_reads.specs.BookReads.{is_account_after}
use Rattle.world_reads.proofs.accounts.next_shown.Goals as goal

pub returns-in-Some : goal.returns-in-Some
returns-in-Some c =
    let held = c.deref.ensures.value ∙ c.in_ok-held.ensures in
    ap (λ r. Some r) c.account_record_of.ensures
    ∙ ap (option_map (account_record_of c.args.world.now)) (c.in-Some.ensures ∙ (λ i. find (is_account_after (held i) c.args.after) (c.accounts.ensures.value i)))
