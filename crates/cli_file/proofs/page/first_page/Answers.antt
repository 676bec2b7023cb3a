use Rattle.cli_file.proofs.PageLemmas.{plain_page, summed_page}
use Rattle.cli_file.proofs.page.first_page.Goals as goal

pub returns-then-not-sums : goal.returns-then-not-sums
returns-then-not-sums c = plain_page c.args.sums c.laid.result c.if-not-sums.true c.laid.ensures

pub returns : goal.returns
returns c =
    summed_page c.args.sums c.laid-page.result c.sum_of-sum.result c.copy_from_slice.new.self c.if-not-sums.false c.laid-page.ensures c.sum_of-sum.ensures c.copy_from_slice.ensures.after
