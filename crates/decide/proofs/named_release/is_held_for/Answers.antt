use Rattle.std.proofs.Common.{sym}
use Rattle.bank_policy.specs.Tests.{current}
use Rattle.bank_meaning.proofs.PolicyLemmas.{limit_reaches, none_held_for}
use Rattle.decide.proofs.named_release.is_held_for.Goals as goal

pub returns-in-Some : goal.returns-in-Some
returns-in-Some c = limit_reaches (current c.args.moment c.args.held.now) c.args.items.now c.in-Some.limit c.args.amount c.in-Some.ensures

pub returns-in-None : goal.returns-in-None
returns-in-None c = sym (none_held_for (current c.args.moment c.args.held.now) c.args.items.now c.args.amount c.in-None.ensures)
