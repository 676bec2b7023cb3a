use Rattle.std.proofs.Common.{rules}
use Rattle.drawers.proofs.DrawerCounted.{difference_in_range}
use Rattle.drawers.proofs.drawer_off.rule_against_drawer_off.Goals as goal

pub returns-clause-difference : goal.returns-clause-difference
returns-clause-difference c = λ none. difference_in_range c.args.rows.now c.args.form.now (search (rules, none)) (search (rules, none))
