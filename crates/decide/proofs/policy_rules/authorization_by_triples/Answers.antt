use Rattle.std.proofs.Common.{arith}
use Rattle.bank_policy.specs.Tests.{current}
use Rattle.bank_meaning.proofs.PolicyLemmas.{none_holds, none_named, one_named, one_reaches}
use Rattle.decide.proofs.policy_rules.authorization_by_triples.Goals as goal

pub returns-in_default : goal.returns-in_default
returns-in_default c = none_holds (current c.args.moment c.args.held.now) c.args.items.now c.args.amount c.args.release c.in_default.ensures

pub returns-then-amount-limit : goal.returns-then-amount-limit
returns-then-amount-limit c = one_reaches (current c.args.moment c.args.held.now) c.args.items.now c.in-Some.limit c.args.amount c.args.release c.in-Some.ensures (omega arith)

pub returns-then-release-eq0 : goal.returns-then-release-eq0
returns-then-release-eq0 c = none_named (current c.args.moment c.args.held.now) c.args.items.now c.in-Some.limit c.args.amount c.args.release c.in-Some.ensures (omega arith) (omega arith)

pub returns-else-release-eq0 : goal.returns-else-release-eq0
returns-else-release-eq0 c =
    one_named (current c.args.moment c.args.held.now) c.args.items.now c.in-Some.limit c.args.amount c.args.release c.in-Some.ensures (omega arith) (λ is. absurd (omega arith))
