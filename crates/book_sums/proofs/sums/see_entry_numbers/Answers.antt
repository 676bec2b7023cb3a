use Rattle.std.proofs.Common.{◌<◌, ◌^◌, rules}
use Rattle.bank_books.specs.declared.rows.Entry.{Entry}
use Rattle.book_sums.proofs.Mapped.{seen_all, seen_more}
use Rattle.book_sums.proofs.sums.see_entry_numbers.Goals as goal

abbrev Fits : Entry → Type 0
Fits e = e.number < 2 ^ 32

pub loop-entry-preserved : goal.loop-entry-preserved
loop-entry-preserved c = seen_more Fits c.args.entries.now c.loop-entry.entry-index c.entry-item.result c.loop-entry-test.true c.entry-item.is c.see_number.ensures c.loop-entry.invariant

pub returns : goal.returns
returns c = seen_all Fits c.args.entries.now c.loop-entry.entry-index (search rules) c.loop-entry.invariant
