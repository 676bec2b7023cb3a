use Rattle.std.proofs.Common.{◌≡◌, drop}
use Rattle.rule_tests.specs.Denial.{first_denial}
use Rattle.rule_tests.proofs.denial.first_denial.Given as goal

-- none of the rules that were passed denies
abbrev pub invariant-loop-rule : goal.invariant-loop-rule
invariant-loop-rule l = first_denial l.tests ≡ first_denial (drop l.rule-index l.tests)
