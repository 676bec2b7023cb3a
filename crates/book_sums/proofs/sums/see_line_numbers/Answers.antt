use Rattle.std.proofs.Common.{◌<◌, ◌^◌, rules}
use Rattle.bank_books.specs.declared.rows.CashLine.{CashLine}
use Rattle.book_sums.proofs.Mapped.{seen_all, seen_more}
use Rattle.book_sums.proofs.sums.see_line_numbers.Goals as goal

abbrev Fits : CashLine → Type 0
Fits l = l.number < 2 ^ 32

pub loop-line-preserved : goal.loop-line-preserved
loop-line-preserved c = seen_more Fits c.args.lines.now c.loop-line.line-index c.line-item.result c.loop-line-test.true c.line-item.is c.see_number.ensures c.loop-line.invariant

pub returns : goal.returns
returns c = seen_all Fits c.args.lines.now c.loop-line.line-index (search rules) c.loop-line.invariant
