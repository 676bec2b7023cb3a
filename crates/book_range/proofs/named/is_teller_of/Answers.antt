use Rattle.std.proofs.Common.{Some, None, ◌==◌}
use Rattle.bank_books.specs.Keys.{teller_key}
use Rattle.bank_books.specs.Range.{IsTellerOf}
use Rattle.book_range.proofs.FoundRows.{false_is_not, found_in, teller_found, teller_not_found}
use Rattle.book_range.proofs.named.is_teller_of.Goals as goal

pub returns-in-Some : goal.returns-in-Some
returns-in-Some c =
    let w = c.args.world.now in
    teller_found w.tellers c.args.branch c.args.key c.in-Some.row.now c.requires
    (found_in teller_key (λ r. teller_key r == c.args.key) c.tellers.result.now w.tellers (Some c.in-Some.row.now) c.tellers.ensures.value c.in-Some.ensures c.tellers.ensures.in_order)

pub returns-in-None : goal.returns-in-None
returns-in-None c =
    let w = c.args.world.now in
    false_is_not (IsTellerOf w.tellers c.args.branch c.args.key) (teller_not_found w.tellers c.args.branch c.args.key c.requires
    (found_in teller_key (λ r. teller_key r == c.args.key) c.tellers.result.now w.tellers None c.tellers.ensures.value c.in-None.ensures c.tellers.ensures.in_order))
