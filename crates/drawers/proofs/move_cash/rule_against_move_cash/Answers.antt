use Rattle.std.proofs.Common.{rules}
use Rattle.drawers.proofs.PlacesMoved.{source_there, target_there}
use Rattle.drawers.proofs.move_cash.rule_against_move_cash.Goals as goal

pub returns-clause-source : goal.returns-clause-source
returns-clause-source c = λ none. source_there c.args.rows.now c.args.move_cash.now (search (rules, none)) (search (rules, none))

pub returns-clause-target : goal.returns-clause-target
returns-clause-target c = λ none. target_there c.args.rows.now c.args.move_cash.now (search (rules, none)) (search (rules, none))
