use Rattle.book_check.proofs.CashConditions.{amounts_from_totals, totals_from_amounts}
use Rattle.book_check.proofs.check.have_equal_totals.Goals as goal

pub returns : goal.returns
returns c = (
  λ is. totals_from_amounts c.args.world.now c.args.kept.now c.requires (c.totals_agree.ensures.0 is),
  λ agree. c.totals_agree.ensures.1 (amounts_from_totals c.args.world.now c.args.kept.now c.requires agree),
)
