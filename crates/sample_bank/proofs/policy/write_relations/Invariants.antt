use Rattle.std.proofs.Common.{◌≡◌, take, fold}
use Rattle.keyed_rows.specs.Ordered.{add_row}
use Rattle.bank_policy.specs.PolicyKeys.{relation_key}
use Rattle.sample_bank.specs.SamplePolicy.{relation}
use Rattle.sample_bank.proofs.policy.write_relations.Given as goal

-- the rows before this one are written
abbrev pub invariant-loop-procedure : goal.invariant-loop-procedure
invariant-loop-procedure l =
    l.policy ≡ record l.fn.policy { relations = fold (λ written row. add_row relation_key (relation row.0 row.1) written) l.fn.policy.relations (take l.procedure-index l.rows) }
