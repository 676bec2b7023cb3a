use Rattle.std.proofs.Common.{subst}
use Rattle.std.specs.Prelude.{Err}
use Rattle.policy_check.specs.PolicyVerdict.{IsPolicyVerdict}
use Rattle.sql_adopt.proofs.judging.judge_policy.Goals as goal

pub returns-in-Err-clause-named : goal.returns-in-Err-clause-named
returns-in-Err-clause-named c = subst (λ policy. IsPolicyVerdict policy (Err c.in-Err.fault)) c.policy.ensures c.in-Err.ensures
