use Rattle.std.proofs.Common.{◌<◌, ◌^◌, refl}
use Rattle.std.proofs.lemmas.List.Elements.{All-contains}
use Rattle.bank_books.specs.Keys.{entry_key}
use Rattle.bank_books.specs.declared.rows.Entry.{Entry}
use Rattle.book_sums.proofs.GroupRows.{group_found}
use Rattle.book_sums.proofs.sums.entries_of.Goals as goal

pub returns : goal.returns
returns c =
    let fits : Entry → Type 0 = λ e. e.number < 2 ^ 32 in
    let rows = c.args.world.now.entries in
    group_found entry_key (λ e. e.branch) (λ e. e.number) (λ _. refl) c.entries.result.now rows c.args.branch c.rows_of_group.result.now
    c.entries.ensures.value c.rows_of_group.ensures c.entries.ensures.in_order (λ e there. All-contains fits rows e c.requires there)
