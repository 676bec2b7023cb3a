use Rattle.std.proofs.Common.{◌≡◌, take, fold}
use Rattle.keyed_rows.specs.Ordered.{add_row}
use Rattle.bank_policy.specs.PolicyKeys.{triple_key}
use Rattle.sample_bank.specs.SamplePolicy.{triple}
use Rattle.sample_bank.proofs.policy.write_triples.Given as goal

-- the rows before this one are written
abbrev pub invariant-loop-procedure : goal.invariant-loop-procedure
invariant-loop-procedure l =
    l.policy ≡ record l.fn.policy { triples = fold (λ written row. add_row triple_key (triple l.user row.0 row.1 row.2) written) l.fn.policy.triples (take l.procedure-index l.rows) }
