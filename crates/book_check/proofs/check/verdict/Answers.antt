-- Each fault is returned where no earlier one was found; without one, the kept numbers are those that the World gives.
use Rattle.std.proofs.Common.{rules}
use Rattle.bank_books.specs.Range.{IsInRange}
use Rattle.bank_books.specs.Conditions.{TotalsAgree}
use Rattle.book_check.proofs.KeptNumbers.{kept_is_computed}
use Rattle.book_check.proofs.check.verdict.Goals as goal

pub returns-in-Some-first_of_other_cash : goal.returns-in-Some-first_of_other_cash
returns-in-Some-first_of_other_cash c =
    let in_range : IsInRange c.args.world.now c.args.kept.now = search rules in
    (in_range, c.in_default.ensures, c.in_default-first_of_other_history.ensures, c.in-Some-first_of_other_cash.ensures)

pub returns-then-not-have_equal_totals : goal.returns-then-not-have_equal_totals
returns-then-not-have_equal_totals c =
    let in_range : IsInRange c.args.world.now c.args.kept.now = search rules in
    let differ : TotalsAgree c.args.kept.now → ⊥ = search rules in
    (in_range, c.in_default.ensures, c.in_default-first_of_other_history.ensures, c.in_default-first_of_other_cash.ensures, differ)

pub returns : goal.returns
returns c =
    let in_range : IsInRange c.args.world.now c.args.kept.now = search rules in
    let agree : TotalsAgree c.args.kept.now = search rules in
    let history = c.in_default-first_of_other_history.ensures in
    let cash = c.in_default-first_of_other_cash.ensures in (
      record { in_range = in_range; tellers_agree = c.in_default.ensures; history_agrees = history; cash_agrees = cash; totals_agree = agree },
      kept_is_computed c.args.world.now c.args.kept.now in_range history cash,
    )
