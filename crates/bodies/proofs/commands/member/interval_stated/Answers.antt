use Rattle.std.proofs.lemmas.Bool.{ne_eqb}
use Rattle.bodies.proofs.Items.{items_counted}
use Rattle.bodies.proofs.commands.member.interval_stated.Goals as goal

pub returns-then-items-ne3-clause-value : goal.returns-then-items-ne3-clause-value
returns-then-items-ne3-clause-value c = rw (items_counted c.args.items.now, ne_eqb _ _ c.if-items-ne3.true)
