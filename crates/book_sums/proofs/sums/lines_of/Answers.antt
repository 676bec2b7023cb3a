use Rattle.std.proofs.Common.{◌<◌, ◌^◌, refl}
use Rattle.std.proofs.lemmas.List.Elements.{All-contains}
use Rattle.bank_books.specs.Keys.{line_key}
use Rattle.bank_books.specs.declared.rows.CashLine.{CashLine}
use Rattle.book_sums.proofs.GroupRows.{group_found}
use Rattle.book_sums.proofs.sums.lines_of.Goals as goal

pub returns : goal.returns
returns c =
    let fits : CashLine → Type 0 = λ l. l.number < 2 ^ 32 in
    let rows = c.args.world.now.lines in
    group_found line_key (λ l. l.branch) (λ l. l.number) (λ _. refl) c.lines.result.now rows c.args.branch c.rows_of_group.result.now
    c.lines.ensures.value c.rows_of_group.ensures c.lines.ensures.in_order (λ l there. All-contains fits rows l c.requires there)
