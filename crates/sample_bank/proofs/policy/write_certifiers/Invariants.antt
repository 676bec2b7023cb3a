use Rattle.std.proofs.Common.{◌≡◌, take, fold}
use Rattle.keyed_rows.specs.Ordered.{add_row}
use Rattle.bank_policy.specs.PolicyKeys.{certifier_key}
use Rattle.sample_bank.specs.SamplePolicy.{certifier}
use Rattle.sample_bank.proofs.policy.write_certifiers.Given as goal

-- the rows of the procedures before this one are written
abbrev pub invariant-loop-procedure : goal.invariant-loop-procedure
invariant-loop-procedure l =
    l.policy ≡ record l.fn.policy { certifiers = fold (λ written procedure. add_row certifier_key (certifier l.user procedure) written) l.fn.policy.certifiers (take l.procedure-index l.procedures) }
